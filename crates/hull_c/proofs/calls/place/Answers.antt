-- the question is asked at the point
use Rattle.std.proofs.Common.{rules, refl, subst, sym}
use Rattle.bucket_tree.specs.Roots.{held_by}
use Rattle.bucket_tree.specs.Sets.{LimitedTree, bucket_set}
use Rattle.hull_set.specs.Replies.{LiesAt}
use Rattle.hull_set.specs.declared.call.Call.TheVariants as plain
use Rattle.hull_set.specs.declared.reply.Reply.TheVariants.{Lies}
use Rattle.hull_reply.specs.Requests.{kind_number}
use Rattle.hull_reply.specs.Served.{IsAnswered}
use Rattle.hull_reply.specs.declared.kind.Kind.TheVariants.{Place}
use Rattle.hull_reply.specs.declared.reply.HullReply.{HullReply}
use Rattle.hull_c.proofs.Asked.{asked, not_asked}
use Rattle.hull_c.proofs.calls.place.Goals.{in-Ok, in-Err}
use Rattle.hull_c.proofs.calls.place.Goals as goal

pub returns : goal.returns
returns c =
    elim c.match-point_of.branch [
      | in-Ok w ↦ subst
          (λ (r : HullReply). IsAnswered bucket_set (kind_number Place) c.args.x c.args.y c.args.hull.now c.args.hull.now r)
          (sym w.result-is)
          (asked Place c.args.x c.args.y (plain.Place w.in-Ok.q) c.args.hull.now (Lies w.place.result) w.encoded_place.result
          (search rules)
          (subst (λ (t : LimitedTree). LiesAt (held_by t.root).points w.in-Ok.q w.place.result) c.hull.view_is w.place.ensures)
          refl w.encoded_place.ensures)
      | in-Err w ↦ subst
          (λ (r : HullReply). IsAnswered bucket_set (kind_number Place) c.args.x c.args.y c.args.hull.now c.args.hull.now r)
          (sym w.result-is)
          (not_asked Place c.args.x c.args.y w.in-Err.fault c.args.hull.now w.bare.result (search rules) w.bare.ensures)
    ]
