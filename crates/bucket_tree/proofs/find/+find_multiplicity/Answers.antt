-- a point is searched in the half in which it would be
use Rattle.std.proofs.Common.{true, false, ◌≡◌, ◌+◌, max, ◌∙◌, ap, subst, sym, arith, get_or, Ok, Err}
use Rattle.lattice.specs.Plane.{IsBefore}
use Rattle.hull_buckets.specs.Buckets.{BucketValue, IsBucket}
use Rattle.hull_geometry.specs.Positions.{IsPositionOf}
use Rattle.bucket_tree.specs.Counts.{multiplicity_at}
use Rattle.bucket_tree.specs.Nodes.{node_height, IsWellBuilt}
use Rattle.bucket_tree.proofs.Gained.{passed, failed}
use Rattle.bucket_tree.proofs.Lost.{count_at, count_none}
use Rattle.bucket_tree.proofs.Parts.{count_in}
use Rattle.bucket_tree.proofs.NodeRows.{halves_row}
use Rattle.bucket_tree.proofs.find.+find_multiplicity.Goals as goal

pub find_multiplicity-requires : goal.find_multiplicity-requires
find_multiplicity-requires t c =
    let e : node_height c.args.node.now
    ≡ max (node_height c.in-Fork.fork.value.left) (node_height c.in-Fork.fork.value.right) + 1 =
    ap node_height c.in-Fork.is in
    let k = ap (λ z. node_height z.left) c.deref-then-before.ensures in (
      omega (arith, c.decreases, e, k),
      subst (λ z. IsWellBuilt z.left) (sym c.deref-then-before.ensures)
          (halves_row c.args.node.now c.in-Fork.field-0 c.in-Fork.fork c.in-Fork.is c.requires).left_built,
    )

pub find_multiplicity-requires-else-before : goal.find_multiplicity-requires-else-before
find_multiplicity-requires-else-before t c =
    let e : node_height c.args.node.now
    ≡ max (node_height c.in-Fork.fork.value.left) (node_height c.in-Fork.fork.value.right) + 1 =
    ap node_height c.in-Fork.is in
    let k = ap (λ z. node_height z.right) c.deref-else-before.ensures in (
      omega (arith, c.decreases, e, k),
      subst (λ z. IsWellBuilt z.right) (sym c.deref-else-before.ensures)
          (halves_row c.args.node.now c.in-Fork.field-0 c.in-Fork.fork c.in-Fork.is c.requires).right_built,
    )

pub returns-in-Ok : goal.returns-in-Ok
returns-in-Ok t c =
    let k : IsBucket c.in-Leaf.bucket.value = (subst IsWellBuilt c.in-Leaf.is c.requires).buckets in
    let at = subst (λ (z : BucketValue). IsPositionOf z.points c.args.p (Ok c.in-Ok.place)) c.deref.ensures
    (subst (IsPositionOf c.deref.result.now.points c.args.p) c.in-Ok.is c.place_of.ensures) in
    ap (λ z. get_or z c.in-Ok.place 0) (c.multiplicities.ensures.multiplicities ∙ ap (λ (z : BucketValue). z.multiplicities) c.deref-in-Ok.ensures)
    ∙ sym (count_at c.in-Leaf.bucket.value.points c.in-Leaf.bucket.value.multiplicities c.in-Ok.place c.args.p k.ordered
    k.counted
    at)
    ∙ sym (ap (λ z. multiplicity_at z c.args.p) c.in-Leaf.is)

pub returns-in-Err : goal.returns-in-Err
returns-in-Err t c =
    let at = subst (λ (z : BucketValue). IsPositionOf z.points c.args.p (Err c.in-Err.field-0)) c.deref.ensures
    (subst (IsPositionOf c.deref.result.now.points c.args.p) c.in-Err.is c.place_of.ensures) in
    sym (count_none c.in-Leaf.bucket.value.points c.in-Leaf.bucket.value.multiplicities c.in-Err.field-0 c.args.p at)
    ∙ sym (ap (λ z. multiplicity_at z c.args.p) c.in-Leaf.is)

pub returns-then-before : goal.returns-then-before
returns-then-before t c =
    c.find_multiplicity.ensures ∙ ap (λ z. multiplicity_at z.left c.args.p) c.deref-then-before.ensures
    ∙ sym (count_in true c.args.node.now c.in-Fork.field-0 c.in-Fork.fork c.args.p c.in-Fork.is c.requires
    (subst (IsBefore c.args.p) (ap (λ z. z.right_ends.first) c.deref-in-Fork.ensures)
    (passed c.before-in-Fork.result c.before-in-Fork.ensures.0 c.if-before.true)))

pub returns-else-before : goal.returns-else-before
returns-else-before t c =
    c.find_multiplicity-else-before.ensures ∙ ap (λ z. multiplicity_at z.right c.args.p) c.deref-else-before.ensures
    ∙ sym (count_in false c.args.node.now c.in-Fork.field-0 c.in-Fork.fork c.args.p c.in-Fork.is c.requires
    (subst (λ z. ¬ IsBefore c.args.p z) (ap (λ z. z.right_ends.first) c.deref-in-Fork.ensures)
    (failed c.before-in-Fork.result c.before-in-Fork.ensures.1 c.if-before.false)))
