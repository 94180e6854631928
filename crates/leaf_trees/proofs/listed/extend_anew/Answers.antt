-- each multiplicity of the merged set is that of the set plus the number of times among the points, as after adding them
use Rattle.std.proofs.Common.{◌+◌, ◌<◌, ap, ◌∙◌, subst, arith, inl, inr, length, rules}
use Rattle.std.proofs.lemmas.Map.Entries.{length-keys_of}
use Rattle.lattice.specs.Plane.{Pair}
use Rattle.hull_set.specs.Held.{Held, multiplicity_among}
use Rattle.hull_set.specs.declared.TheConstants.{MULTIPLICITY_LIMIT}
use Rattle.leaf_trees.specs.Entries.{IsTrueHeld, multiplicity_listed, held_listed}
use Rattle.leaf_trees.proofs.AddedSets.{entries_held, merged_is_added, after_multiplicity}
use Rattle.leaf_trees.proofs.listed.extend_anew.Goals as goal

pub returns-in_err-added-clause-too_many : goal.returns-in_err-added-clause-too_many
returns-in_err-added-clause-too_many g c = λ e.
    let f : (q : Pair) × (MULTIPLICITY_LIMIT < multiplicity_among c.args.points.now q) = search rules in
    inl (f.0, omega (arith, f.1, after_multiplicity c.args.points.now (g.S.HullSet.held c.args.set.now) f.0))

pub returns-in_err-entries-clause-too_many : goal.returns-in_err-entries-clause-too_many
returns-in_err-entries-clause-too_many g c = λ e.
    let f : (q : Pair)
    × (MULTIPLICITY_LIMIT < multiplicity_listed c.deref.result.now q + multiplicity_listed c.deref-2.result.now q) = search rules in
    inl (
      f.0,
      omega (
        arith,
        f.1,
        ap (λ z. multiplicity_listed z f.0) c.deref.ensures.value,
        ap (λ z. multiplicity_listed z f.0) c.deref-2.ensures.value,
        ap (λ (z : Held). z.multiplicities f.0) c.in_ok-held.ensures.held,
        c.in_ok-added.ensures.multiplicities f.0,
        after_multiplicity c.args.points.now (g.S.HullSet.held c.args.set.now) f.0,
      ),
    )

pub returns-then-len-limit-clause-too_many : goal.returns-then-len-limit-clause-too_many
returns-then-len-limit-clause-too_many g c = λ _.
    let e =
    merged_is_added (g.S.HullSet.held c.args.set.now) c.args.points.now c.in_ok-held.held.items c.in_ok-added.added.items c.in_ok-entries.entries.items
    (subst IsTrueHeld c.in_ok-held.ensures.held (entries_held _ c.in_ok-held.ensures.entries))
    c.in_ok-entries.ensures.entries c.in_ok-held.ensures.held
    c.in_ok-added.ensures.multiplicities (rw (c.deref.ensures.value, c.deref-2.ensures.value) at c.in_ok-entries.ensures.multiplicities) in
    inr (omega (
      arith,
      c.if-len-limit.true,
      c.len.ensures,
      length-keys_of c.in_ok-entries.entries.items,
      ap (λ (z : Held). length z.points) e,
      c.limit-limit.ensures.value,
    ))

pub returns-clause-held : goal.returns-clause-held
returns-clause-held g c =
    c.in_ok-set.ensures.held ∙ ap (λ z. held_listed z) c.deref-3.ensures.value
    ∙ merged_is_added (g.S.HullSet.held c.args.set.now) c.args.points.now c.in_ok-held.held.items c.in_ok-added.added.items c.in_ok-entries.entries.items
    (subst IsTrueHeld c.in_ok-held.ensures.held (entries_held _ c.in_ok-held.ensures.entries))
    c.in_ok-entries.ensures.entries c.in_ok-held.ensures.held
    c.in_ok-added.ensures.multiplicities (rw (c.deref.ensures.value, c.deref-2.ensures.value) at c.in_ok-entries.ensures.multiplicities)
