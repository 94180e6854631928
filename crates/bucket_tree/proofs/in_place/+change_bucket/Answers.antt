-- the bucket is in the half that the point belongs to
use Rattle.std.proofs.Common.{◌≡◌, ◌∙◌, ap, subst, sym, arith}
use Rattle.std.specs.Prelude.{IfErr}
use Rattle.bucket_tree.specs.Counts.{multiplicity_at}
use Rattle.bucket_tree.specs.Nodes.{node_height, IsWellBuilt}
use Rattle.bucket_tree.proofs.ChangedBelow.{built_half}
use Rattle.bucket_tree.proofs.InPlace.{belongs, fork_at, leaf_same, same_below}
use Rattle.bucket_tree.proofs.in_place.+change_bucket.Goals as goal

pub change_bucket-requires : goal.change_bucket-requires
change_bucket-requires g t c κs within =
    let i = fork_at c.is_before-is_left.result _ _ _ _ _ _ c.in-Fork.is c.deref_mut-in-Fork.ensures.value c.deref.ensures c.requires
    (belongs _ _ _ c.is_before-is_left.ensures.0 c.is_before-is_left.ensures.1) in
    let o = built_half _ _ _ _ _ i in
    let same = ap node_height c.half_mut.ensures.value in
    (omega (arith, c.decreases, o.1, same), (within, subst IsWellBuilt (sym c.half_mut.ensures.value) o.0))

pub returns-in-Leaf-clause-same : goal.returns-in-Leaf-clause-same
returns-in-Leaf-clause-same g t c =
    leaf_same c.args.p c.args.node.now c.in-Leaf.bucket c.deref_mut.result.now c.change.new.bucket c.change.result
    c.in-Leaf.is c.deref_mut.ensures.value c.change.ensures.same

pub returns-in-Fork-clause-returned : goal.returns-in-Fork-clause-returned
returns-in-Fork-clause-returned g t c =
    let i = fork_at c.is_before-is_left.result _ _ _ _ _ _ c.in-Fork.is c.deref_mut-in-Fork.ensures.value c.deref.ensures c.requires
    (belongs _ _ _ c.is_before-is_left.ensures.0 c.is_before-is_left.ensures.1) in
    subst (λ z. IfErr c.change_bucket.new.outcome (λ multiplicity. multiplicity ≡ z))
    (ap (λ z. multiplicity_at z c.args.p) c.half_mut.ensures.value ∙ sym (same_below _ _ _ _ _ i)) c.change_bucket.ensures.returned
