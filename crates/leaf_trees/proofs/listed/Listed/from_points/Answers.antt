-- more entries than the limit are more points; and a set in which each multiplicity is the number of times among the points is the set after adding
-- them
use Rattle.std.proofs.Common.{ap, ◌∙◌, arith, inl, inr, length, rules, ◌<◌}
use Rattle.std.proofs.lemmas.Grind.{common_steps}
use Rattle.lattice.specs.Plane.{Pair}
use Rattle.hull_set.specs.declared.TheConstants.{MULTIPLICITY_LIMIT}
use Rattle.std.proofs.lemmas.Map.Entries.{length-keys_of}
use Rattle.hull_set.specs.Held.{Held, nothing_held, multiplicity_among}
use Rattle.leaf_trees.specs.Entries.{held_listed}
use Rattle.leaf_trees.proofs.AddedSets.{same_as_added, nothing_is_held, entries_held, after_multiplicity}
use Rattle.leaf_trees.proofs.listed.Listed.from_points.Goals as goal

pub returns-then-len-limit-clause-too_many : goal.returns-then-len-limit-clause-too_many
returns-then-len-limit-clause-too_many g c = λ _.
    inr (omega (
      arith,
      c.if-len-limit.true,
      c.len.ensures,
      length-keys_of c.in_ok-entries.entries.items,
      ap (λ (h : Held). length h.points)
          (same_as_added nothing_held (held_listed c.in_ok-entries.entries.items) c.args.points.now nothing_is_held
          (entries_held _ c.in_ok-entries.ensures.entries)
          (λ q. omega (arith, c.in_ok-entries.ensures.multiplicities q))),
    ))

pub returns-clause-held : goal.returns-clause-held
returns-clause-held g c =
    c.in_ok-from_entries.ensures.held ∙ ap held_listed c.deref.ensures.value
    ∙ same_as_added nothing_held (held_listed c.in_ok-entries.entries.items) c.args.points.now nothing_is_held
    (entries_held _ c.in_ok-entries.ensures.entries) (λ q. omega (arith, c.in_ok-entries.ensures.multiplicities q))

pub returns-in_err-entries-clause-too_many : goal.returns-in_err-entries-clause-too_many
returns-in_err-entries-clause-too_many g c = λ e.
    let f : (q : Pair) × (MULTIPLICITY_LIMIT < multiplicity_among c.args.points.now q) = search rules in
    inl (f.0, omega (arith, f.1, after_multiplicity c.args.points.now nothing_held f.0))

-- no points have no entries, and the empty set is never refused
pub returns-in_err-from_entries-clause-refused : goal.returns-in_err-from_entries-clause-refused
returns-in_err-from_entries-clause-refused g c = λ _. grind (arith, common_steps, c.in_ok-entries.ensures.none, c.in_err-from_entries.ensures.refused, c.deref.ensures.value)
