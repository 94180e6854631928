-- a point is searched in the half in which it is
use Rattle.std.proofs.Common.{true, false, ◌≡◌, ◌+◌, max, ap, subst, sym, arith, refl}
use Rattle.lattice.specs.Plane.{IsBefore}
use Rattle.hull_buckets.specs.Buckets.{BucketValue}
use Rattle.bucket_tree.specs.Counts.{counted, multiplicity_at, IsSameButMultiplicities}
use Rattle.leaf_trees.specs.Entries.{several}
use Rattle.bucket_tree.specs.Nodes.{node_height, IsWellBuilt}
use Rattle.bucket_tree.proofs.Gained.{passed, failed}
use Rattle.bucket_tree.proofs.Parts.{count_in}
use Rattle.bucket_tree.proofs.NodeRows.{halves_row}
use Rattle.bucket_tree.proofs.Recounted.{recounted_leaf, recounted_in}
use Rattle.bucket_tree.proofs.recounting.+recount.Goals as goal

pub recount-requires : goal.recount-requires
recount-requires t c =
    let e : node_height c.args.node.now
    ≡ max (node_height c.in-Fork.fork.value.left) (node_height c.in-Fork.fork.value.right) + 1 =
    ap node_height c.in-Fork.is in
    let k = ap (λ z. node_height z.left) c.deref_mut-then-before.ensures.value in
    let m = count_in true c.args.node.now c.in-Fork.field-0 c.in-Fork.fork c.args.p c.in-Fork.is c.requires.built
    (subst (IsBefore c.args.p) (ap (λ z. z.right_ends.first) c.deref.ensures)
    (passed c.before-in-Fork.result c.before-in-Fork.ensures.0 c.if-before.true)) in
    let v = ap (λ z. multiplicity_at z.left c.args.p) c.deref_mut-then-before.ensures.value in (
      omega (arith, c.decreases, e, k),
      (
        subst (λ z. IsWellBuilt z.left) (sym c.deref_mut-then-before.ensures.value)
            (halves_row c.args.node.now c.in-Fork.field-0 c.in-Fork.fork c.in-Fork.is c.requires.built).left_built,
        (omega (arith, m, v, c.requires.live), c.requires.held),
      ),
    )

pub recount-requires-else-before : goal.recount-requires-else-before
recount-requires-else-before t c =
    let e : node_height c.args.node.now
    ≡ max (node_height c.in-Fork.fork.value.left) (node_height c.in-Fork.fork.value.right) + 1 =
    ap node_height c.in-Fork.is in
    let k = ap (λ z. node_height z.right) c.deref_mut-else-before.ensures.value in
    let m = count_in false c.args.node.now c.in-Fork.field-0 c.in-Fork.fork c.args.p c.in-Fork.is c.requires.built
    (subst (λ z. ¬ IsBefore c.args.p z) (ap (λ z. z.right_ends.first) c.deref.ensures)
    (failed c.before-in-Fork.result c.before-in-Fork.ensures.1 c.if-before.false)) in
    let v = ap (λ z. multiplicity_at z.right c.args.p) c.deref_mut-else-before.ensures.value in (
      omega (arith, c.decreases, e, k),
      (
        subst (λ z. IsWellBuilt z.right) (sym c.deref_mut-else-before.ensures.value)
            (halves_row c.args.node.now c.in-Fork.field-0 c.in-Fork.fork c.in-Fork.is c.requires.built).right_built,
        (omega (arith, m, v, c.requires.live), c.requires.held),
      ),
    )

pub returns-in-Leaf : goal.returns-in-Leaf
returns-in-Leaf t c =
    recounted_leaf c.args.multiplicity c.args.p c.args.node.now c.in-Leaf.bucket _ c.recount_leaf.new.bucket c.in-Leaf.is refl
    (subst (λ (z : BucketValue). IsSameButMultiplicities z c.recount_leaf.new.bucket) c.deref_mut.ensures.value
    c.recount_leaf.ensures.same)
    (λ q. subst (λ (z : BucketValue). counted c.recount_leaf.new.bucket.points c.recount_leaf.new.bucket.multiplicities q
    + several (counted z.points z.multiplicities c.args.p) c.args.p q
    ≡ counted z.points z.multiplicities q + several c.args.multiplicity c.args.p q) c.deref_mut.ensures.value
    (c.recount_leaf.ensures.held q))

pub returns-then-before : goal.returns-then-before
returns-then-before t c =
    recounted_in true c.args.multiplicity c.args.p c.args.node.now c.in-Fork.field-0 c.in-Fork.fork
    c.deref_mut-then-before.result.now c.recount.new.node c.deref_mut-then-before.ensures.value c.in-Fork.is
    c.requires.built (subst (IsBefore c.args.p) (ap (λ z. z.right_ends.first) c.deref.ensures)
    (passed c.before-in-Fork.result c.before-in-Fork.ensures.0 c.if-before.true))
    c.recount.ensures

pub returns-else-before : goal.returns-else-before
returns-else-before t c =
    recounted_in false c.args.multiplicity c.args.p c.args.node.now c.in-Fork.field-0 c.in-Fork.fork
    c.deref_mut-else-before.result.now c.recount-else-before.new.node c.deref_mut-else-before.ensures.value c.in-Fork.is
    c.requires.built (subst (λ z. ¬ IsBefore c.args.p z) (ap (λ z. z.right_ends.first) c.deref.ensures)
    (failed c.before-in-Fork.result c.before-in-Fork.ensures.1 c.if-before.false))
    c.recount-else-before.ensures
