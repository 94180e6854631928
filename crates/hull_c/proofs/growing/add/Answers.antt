-- the point is added with its place, or is outside and refused for the fault's reason
use Rattle.std.proofs.Common.{inl, inr, subst}
use Rattle.hull_plain.specs.Growth.{IsWhyNotGrown}
use Rattle.hull_plain.specs.declared.growing_hull.GrowFault.{GrowFault}
use Rattle.hull_set.specs.declared.reply.Reply.TheVariants.{Lies}
use Rattle.hull_c.proofs.growing.add.Goals as goal

pub returns-in-Ok : goal.returns-in-Ok
returns-in-Ok c =
    inl (
      record {
        reply = Lies c.in-Ok.place;
        reports = c.encoded_place.ensures;
        allowed = λ held limit of. c.in-Ok.ensures.place held.points of;
      },
      c.in-Ok.ensures.grown,
    )

pub returns-in-Err-TooMany : goal.returns-in-Err-TooMany
returns-in-Err-TooMany c =
    inr (
      c.in-Err-TooMany.ensures.refused,
      c.in-Err-TooMany.ensures.outside,
      inl (
        subst (λ (fault : GrowFault). IsWhyNotGrown fault c.args.hull.now) c.in-Err-TooMany.field-0-is c.in-Err-TooMany.ensures.fault,
        c.bare.ensures,
      ),
    )

pub returns-in-Err-NoMemory : goal.returns-in-Err-NoMemory
returns-in-Err-NoMemory c =
    inr (c.in-Err-NoMemory.ensures.refused, c.in-Err-NoMemory.ensures.outside, inr c.bare-in-Err-NoMemory.ensures)
