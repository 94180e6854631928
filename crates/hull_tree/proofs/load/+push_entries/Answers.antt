-- there is capacity for both halves, whose concatenated entries are those of the fork
use Rattle.std.proofs.Common.{◌≡◌, ◌∙◌, refl, sym, ap, arith, length, length-append, append_assoc, Some, ◌++◌, List, ℕ}
use Rattle.lattice.specs.Plane.{Pair}
use Rattle.hull_tree.specs.declared.node.Halves as halves
use Rattle.hull_tree.specs.Nodes.{below_of, left_half, right_half}
use Rattle.hull_tree.specs.Loaded.{entries_below}
use Rattle.hull_tree.specs.Changes.{points_below}
use Rattle.hull_tree.proofs.NodeEntries.{IsListedOver, listed_halves, length_of_entries}
use Rattle.hull_tree.proofs.load.+push_entries.Goals as goal

pub push_entries-requires : goal.push_entries-requires
push_entries-requires t c =
    let i : below_of c.args.node.now ≡ Some c.deref.result.now = rw (c.in-Some.is, c.deref.ensures) refl in
    let o : IsListedOver c.args.node.now c.deref.result.now = listed_halves _ _ i in
    let l = length-append (points_below (left_half c.deref.result.now)) (points_below (right_half c.deref.result.now)) in (
      omega (arith, c.decreases, o.height),
      omega (arith, c.requires, ap (λ (z : List Pair). length z) o.points, l),
    )

pub push_entries-requires-in-Some : goal.push_entries-requires-in-Some
push_entries-requires-in-Some t c =
    let i : below_of c.args.node.now ≡ Some c.deref.result.now = rw (c.in-Some.is, c.deref.ensures) refl in
    let o : IsListedOver c.args.node.now c.deref.result.now = listed_halves _ _ i in
    let l = length-append (points_below (left_half c.deref.result.now)) (points_below (right_half c.deref.result.now)) in
    let s : c.deref-in-Some.result.now ≡ c.deref.result.now = c.deref-in-Some.ensures ∙ sym c.deref.ensures in
    rw s (
      omega (arith, c.decreases, o.height),
      omega (
        arith,
        c.requires,
        ap (λ (z : List Pair). length z) o.points,
        l,
        c.push_entries.ensures.capacity,
        ap (λ (z : List (Pair × ℕ)). length z) c.push_entries.ensures.entries,
        length-append c.args.entries.now.items (entries_below (left_half c.deref.result.now)),
        length_of_entries (left_half c.deref.result.now),
      ),
    )

pub returns-in-Some-clause-entries : goal.returns-in-Some-clause-entries
returns-in-Some-clause-entries t c =
    let i : below_of c.args.node.now ≡ Some c.deref.result.now = rw (c.in-Some.is, c.deref.ensures) refl in
    let o : IsListedOver c.args.node.now c.deref.result.now = listed_halves _ _ i in
    let s : c.deref-in-Some.result.now ≡ c.deref.result.now = c.deref-in-Some.ensures ∙ sym c.deref.ensures in
    c.push_entries-in-Some.ensures.entries
    ∙ ap (λ (z : List (Pair × ℕ)). z ++ entries_below (right_half c.deref-in-Some.result.now)) c.push_entries.ensures.entries
    ∙ ap (λ (z : halves.Halves).
    (c.args.entries.now.items ++ entries_below (left_half c.deref.result.now)) ++ entries_below (right_half z)) s
    ∙ append_assoc c.args.entries.now.items (entries_below (left_half c.deref.result.now)) (entries_below (right_half c.deref.result.now))
    ∙ ap (λ (z : List (Pair × ℕ)). c.args.entries.now.items ++ z) (sym o.entries)
