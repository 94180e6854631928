-- the entries of the left half are appended, or none of them, and then those of the right half
use Rattle.std.proofs.Common.{◌≡◌, ◌∙◌, refl, sym, ap, take, ◌++◌, List, ℕ, Some}
use Rattle.lattice.specs.Plane.{Pair}
use Rattle.hull_tree.specs.declared.node.Halves as halves
use Rattle.hull_tree.specs.Nodes.{below_of, left_half, right_half}
use Rattle.hull_tree.specs.Loaded.{entries_below}
use Rattle.leaf_trees.specs.ChainRanges.{entries_from}
use Rattle.hull_tree.proofs.ChainRanges.{both_halves, right_alone}
use Rattle.hull_tree.proofs.chain_range.+push_from.Goals.{then-not-before-2, else-not-before-2}
use Rattle.hull_tree.proofs.chain_range.+push_from.Goals as goal

pub returns-after-not-before-2-clause-entries : goal.returns-after-not-before-2-clause-entries
returns-after-not-before-2-clause-entries t c =
    let i : below_of c.args.node.now ≡ Some c.deref.result.now = rw (c.in-Some.is, c.deref.ensures) refl in
    let s : c.deref-in-Some.result.now ≡ c.deref.result.now = c.deref-in-Some.ensures ∙ sym c.deref.ensures in
    let right = λ (z : halves.Halves). entries_from c.args.start (entries_below (right_half z)) in
    let left = λ (z : halves.Halves). entries_from c.args.start (entries_below (left_half z)) in
    elim c.if-not-before-2.branch [
      | then-not-before-2 w ↦
          let l : w.deref-then-not-before-2.result.now ≡ c.deref.result.now =
          w.deref-then-not-before-2.ensures ∙ sym c.deref.ensures in
          c.push_from-in-Some.ensures.entries
          ∙ ap (λ (z : List (Pair × ℕ)). take c.args.most (z ++ right c.deref-in-Some.result.now))
          (ap (λ v. v.items) w.entries-is ∙ w.push_from.ensures.entries
          ∙ ap (λ (z : halves.Halves). take c.args.most (c.args.entries.now.items ++ left z)) l)
          ∙ ap (λ (z : halves.Halves). take c.args.most
          (take c.args.most (c.args.entries.now.items ++ left c.deref.result.now) ++ right z)) s
          ∙ both_halves c.args.start c.args.most c.args.node.now c.deref.result.now c.args.entries.now.items i
      | else-not-before-2 w ↦
          c.push_from-in-Some.ensures.entries
          ∙ ap (λ (z : List (Pair × ℕ)). take c.args.most (z ++ right c.deref-in-Some.result.now)) (ap (λ v. v.items) w.entries-is)
          ∙ ap (λ (z : halves.Halves). take c.args.most (c.args.entries.now.items ++ right z)) s
          ∙ right_alone c.args.start c.args.most c.args.node.now c.deref.result.now c.args.entries.now.items c.requires.built i
          (w.if-not-before-2.ensures.0 refl)
    ]
