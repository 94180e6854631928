-- the left part's after what was there, or none of it, and then the right part's
use Rattle.std.proofs.Common.{◌≤◌, ◌∙◌, refl, ap, arith, length, take, ◌++◌, List, ℕ, subst, vec_len, vec_capacity}
use Rattle.std.proofs.lemmas.List.{length-take}
use Rattle.lattice.specs.Plane.{Pair, IsBefore}
use Rattle.leaf_trees.specs.ChainRanges.{entries_from}
use Rattle.bucket_tree.specs.Lists.{entries_below}
use Rattle.bucket_tree.specs.Nodes.{IsWellBuilt}
use Rattle.bucket_tree.specs.declared.node.Ends.{Ends}
use Rattle.bucket_tree.specs.declared.node.Fork.{Fork as Below}
use Rattle.bucket_tree.proofs.ListedParts.{fork_parts, both_parts, right_alone}
use Rattle.bucket_tree.proofs.NodeRows.{halves_row}
use Rattle.bucket_tree.proofs.listing.+push_from.Goals.{then-not-before, else-not-before}
use Rattle.bucket_tree.proofs.listing.+push_from.Goals as goal

pub push_from-requires : goal.push_from-requires
push_from-requires t c =
    let o = fork_parts c.args.node.now c.in-Fork.field-0 c.in-Fork.fork c.in-Fork.is c.requires.built.buckets in
    let row = halves_row c.args.node.now c.in-Fork.field-0 c.in-Fork.fork c.in-Fork.is c.requires.built in
    rw c.deref-then-not-before.ensures (
      omega (arith, c.decreases, o.height),
      (row.left_built, (c.requires.few, c.requires.space)),
    )

pub push_from-requires-in-Fork : goal.push_from-requires-in-Fork
push_from-requires-in-Fork t c =
    let o = fork_parts c.args.node.now c.in-Fork.field-0 c.in-Fork.fork c.in-Fork.is c.requires.built.buckets in
    let row = halves_row c.args.node.now c.in-Fork.field-0 c.in-Fork.fork c.in-Fork.is c.requires.built in
    let few : vec_len c.if-not-before.entries ≤ c.args.most =
    elim c.if-not-before.branch [
      | then-not-before w ↦ omega (
        arith,
        ap (λ v. vec_len v) w.entries-is,
        ap (λ (z : List (Pair × ℕ)). length z) w.push_from.ensures.entries,
        length-take c.args.most
            (c.args.entries.now.items ++ entries_from c.args.start (entries_below w.deref-then-not-before.result.now.left)),
      )
      | else-not-before w ↦ omega (arith, ap (λ v. vec_len v) w.entries-is, c.requires.few)
    ] in
    let space : c.args.most ≤ vec_capacity c.if-not-before.entries =
    elim c.if-not-before.branch [
      | then-not-before w ↦ omega (
        arith,
        ap (λ v. vec_capacity v) w.entries-is,
        w.push_from.ensures.capacity,
        c.requires.space,
      )
      | else-not-before w ↦ omega (arith, ap (λ v. vec_capacity v) w.entries-is, c.requires.space)
    ] in
    rw c.deref-in-Fork-2.ensures (omega (arith, c.decreases, o.height), (row.right_built, (few, space)))

pub returns-after-not-before-clause-entries : goal.returns-after-not-before-clause-entries
returns-after-not-before-clause-entries t c =
    let o = fork_parts c.args.node.now c.in-Fork.field-0 c.in-Fork.fork c.in-Fork.is c.requires.built.buckets in
    let w0 = subst IsWellBuilt c.in-Fork.is c.requires.built in
    let row = halves_row c.args.node.now c.in-Fork.field-0 c.in-Fork.fork c.in-Fork.is c.requires.built in
    let left = c.in-Fork.fork.value.left in
    let right = c.in-Fork.fork.value.right in
    c.push_from-in-Fork.ensures.entries
    ∙ ap (λ (z : Below). take c.args.most (c.if-not-before.entries.items ++ entries_from c.args.start (entries_below z.right)))
    c.deref-in-Fork-2.ensures
    ∙ elim c.if-not-before.branch [
      | then-not-before w ↦
          ap (λ (z : List (Pair × ℕ)). take c.args.most (z ++ entries_from c.args.start (entries_below right)))
          (ap (λ v. v.items) w.entries-is ∙ w.push_from.ensures.entries
          ∙ ap (λ (z : Below). take c.args.most (c.args.entries.now.items ++ entries_from c.args.start (entries_below z.left)))
          w.deref-then-not-before.ensures)
          ∙ both_parts c.args.start c.args.most c.args.node.now left right c.args.entries.now.items o
      | else-not-before w ↦
          ap (λ (z : List (Pair × ℕ)). take c.args.most (z ++ entries_from c.args.start (entries_below right)))
          (ap (λ v. v.items) w.entries-is)
          ∙ right_alone c.args.start c.args.most c.args.node.now left right c.args.entries.now.items o row.left_built
          (subst (λ z. IsBefore z c.args.start) (ap (λ (z : Below). z.left_ends.last) c.deref-in-Fork.ensures
          ∙ ap (λ (z : Ends). z.last) w0.labelled.0)
          (w.if-not-before.ensures.0 refl))
    ]
