-- the ends of the half are renewed, and those of the other one and the edges stay
use Rattle.std.proofs.Common.{refl, subst}
use Rattle.bucket_tree.specs.InPlace.{IsAfterHalf}
use Rattle.bucket_tree.proofs.Kept.{after_as, same_edges}
use Rattle.bucket_tree.proofs.renewal.renew_half_ends.Goals as goal

pub returns-then-is_left-clause-after : goal.returns-then-is_left-clause-after
returns-then-is_left-clause-after c =
    let f = c.args.fork.now in
    let h = subst (λ z. IsAfterHalf z c.args.p c.args.sides f) c.if-is_left.true c.requires.half in
    after_as c.args.p c.args.sides f.left f.right f _ h.edges.unaffected h.edges.clear (same_edges f _ refl refl)
    record { left = c.renew_ends_around.ensures.ends; right = h.other }

pub returns-else-is_left-clause-after : goal.returns-else-is_left-clause-after
returns-else-is_left-clause-after c =
    let f = c.args.fork.now in
    let h = subst (λ z. IsAfterHalf z c.args.p c.args.sides f) c.if-is_left.false c.requires.half in
    after_as c.args.p c.args.sides f.left f.right f _ h.edges.unaffected h.edges.clear (same_edges f _ refl refl)
    record { left = h.other; right = c.renew_ends_around-else-is_left.ensures.ends }
