-- the ends of the half are renewed first, and then the edges
use Rattle.std.proofs.Common.{subst, sym}
use Rattle.lattice.specs.declared.side.Side.{Side}
use Rattle.bucket_tree.specs.Changes.{IsEndUnlessClear, edge_on}
use Rattle.bucket_tree.specs.InPlace.{IsAfterHalf}
use Rattle.bucket_tree.specs.declared.node.Fork.{Fork}
use Rattle.bucket_tree.proofs.Added.{end_as}
use Rattle.bucket_tree.proofs.renewal.balance.Goals as goal

pub renew_half_ends-requires-clause-half : goal.renew_half_ends-requires-clause-half
renew_half_ends-requires-clause-half c =
    subst (IsAfterHalf c.args.is_left c.args.p c.args.sides) (sym c.deref_mut.ensures.value) c.requires.after

pub renew_edges-above-requires-clause-end : goal.renew_edges-above-requires-clause-end
renew_edges-above-requires-clause-end c =
    let e = c.renew_half_ends.ensures in
    let f = c.deref_mut.result.now in
    let g = c.renew_half_ends.new.fork in
    let before = subst (λ (z : Fork). (side : Side) → IsEndUnlessClear c.args.change side c.args.p z.left z.right (edge_on side z))
    (sym c.deref_mut.ensures.value) c.requires.end in
    subst (λ (z : Fork). (side : Side) → IsEndUnlessClear c.args.change side c.args.p z.left z.right (edge_on side z))
    (sym c.deref_mut-2.ensures.value)
    (λ side. subst (λ z. IsEndUnlessClear c.args.change side c.args.p z g.right (edge_on side g)) (sym e.left)
    (subst (λ z. IsEndUnlessClear c.args.change side c.args.p f.left z (edge_on side g)) (sym e.right)
    (end_as c.args.change c.args.p f.left f.right f g e.edges before side)))
