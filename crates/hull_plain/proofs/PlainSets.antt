-- The invariant of a plain set after a change.
use Rattle.std.proofs.Common.{◌≡◌, ℕ, sym, ap, ◌∙◌, subst, List, arith, ◌+◌, ◌≤◌, ◌<◌, [], ◌∷◌, inl, inr, length}
use Rattle.std.proofs.Common.{BTreeMap, Some}
use Rattle.std.specs.BTreeMap.{is_at, insert_entry}
use Rattle.std.specs.Map.{keys_of, lookup, remove_entry, set_value}
use Rattle.std.proofs.lemmas.Map.{keys-set_value}
use Rattle.std.proofs.lemmas.Map.Entries.{length-keys_of}
use Rattle.std.proofs.lemmas.Map.Steps.{set_value_same}
use Rattle.std.proofs.lemmas.Map.Views.{All-values-insert_entry, All-values-set_value, All-map-remove_entry}
use Rattle.lattice.specs.Covers.{IsPointSet, with_point, without_point}
use Rattle.lattice.specs.Plane.{Pair}
use Rattle.lattice.proofs.Order.{before_irrefl, before_total, before_not, is_before-true, is_before-false}
use Rattle.hull_geometry.specs.Monotone.{IsChainOf, IsCandidateListOf, AreChainsOf, AreCandidateListsOf}
use Rattle.hull_plain.specs.ChainPairs.{HasSpace, CandidateListsHaveSpace, IsHullChainsOf, AreAlike, IsPlainSet}
use Rattle.lattice.specs.declared.side.Side.{Side}
use Rattle.hull_plain.specs.declared.candidate_lists.CandidateLists.{CandidateLists}
use Rattle.hull_plain.specs.declared.hull_chains.HullChains.{HullChains}
use Rattle.hull_geometry.proofs.Between.{set_few}
use Rattle.hull_set.proofs.OrderedMaps.{point_cmp, insert_is, remove_is}
use Rattle.hull_geometry.proofs.SetLaws.{ordered_with, ordered_without}

-- the capacity for the candidate lists of more points is enough for those of fewer
pub candidate_lists_have_less : {f : CandidateLists} {m n : ℕ} → CandidateListsHaveSpace f n → m ≤ n → CandidateListsHaveSpace f m
candidate_lists_have_less {f} {m} {n} h l = record { below = omega (arith, h.below); above = omega (arith, h.above) }

-- the storage for more points is enough for fewer
pub has_less : {o : HullChains} {m n : ℕ} → HasSpace o n → m ≤ n → HasSpace o m
has_less {o} {m} {n} h l = record {
  lower = omega (arith, h.lower);
  upper = omega (arith, h.upper);
  candidate_lists = candidate_lists_have_less h.candidate_lists l;
  scratch_chain = record { fresh = omega (arith, h.scratch_chain.fresh); rest = omega (arith, h.scratch_chain.rest) };
}

-- the chain of a set has no more points than the set
pub chain_few : (side : Side) (S chain : List Pair) → IsChainOf side S chain → length chain ≤ length S
chain_few side S chain c = set_few chain S c.strict.ordered c.among

-- a candidate list of a set has no more points than the set
pub candidates_few : (side : Side) (S candidates : List Pair) → IsCandidateListOf side S candidates → length candidates ≤ length S
candidates_few side S candidates f = set_few candidates S f.ordered f.among

-- adding a point adds at most one point
pub length_with : (p : Pair) (S : List Pair) → length (with_point p S) ≤ length S + 1
length_with p [] = omega arith
length_with p (x ∷ xs) =
    elim (before_total x p) [
      | inl b ↦ rw (is_before-true x p b) (omega (arith, length_with p xs))
      | inr (inl e) ↦ rw (e, is_before-false p p (before_irrefl p)) (omega arith)
      | inr (inr b) ↦ rw (is_before-false x p (before_not p x b), is_before-true p x b) (omega arith)
    ]

-- removing a point adds no point
length_without : (p : Pair) (S : List Pair) → length (without_point p S) ≤ length S
length_without p [] = omega arith
length_without p (x ∷ xs) =
    elim (before_total x p) [
      | inl b ↦ rw (is_before-true x p b) (omega (arith, length_without p xs))
      | inr (inl e) ↦ rw (e, is_before-false p p (before_irrefl p)) (omega arith)
      | inr (inr b) ↦ rw (is_before-false x p (before_not p x b), is_before-true p x b) (omega arith)
    ]

-- a plain set stays one if the multiplicity of a point is set to a number of at least 1
pub written : {limit : ℕ} {es : List (Pair × ℕ)} {o : HullChains} → IsPlainSet limit es o
    → (p : Pair) (n : ℕ) (fs : List (Pair × ℕ)) → fs ≡ set_value (is_at (point_cmp p)) es n → 1 ≤ n
    → IsPlainSet limit fs o
written {limit} {es} {o} k p n fs e above = subst (λ (z : List (Pair × ℕ)). IsPlainSet limit z o) (sym e) (record {
  low = k.low;
  high = k.high;
  few = subst (λ (z : List Pair). length z ≤ limit) same k.few;
  in_order = subst IsPointSet same k.in_order;
  each_held = All-values-set_value (is_at (point_cmp p)) (λ m. 1 ≤ m) es n k.each_held above;
  hull_chains = subst (λ (z : List Pair). IsHullChainsOf z o) same k.hull_chains;
  space = subst (λ (z : List Pair). HasSpace o (length z)) same k.space;
})
  where
    same : keys_of es ≡ keys_of (set_value (is_at (point_cmp p)) es n)
    same = sym (keys-set_value (is_at (point_cmp p)) es n)

-- hull chains stay those of a set if the chains and candidate lists stay
pub same_hull_chains : (S : List Pair) (o new : HullChains) → AreAlike o new → IsHullChainsOf S o → IsHullChainsOf S new
same_hull_chains S o new e k = record {
  chains = subst (λ (z : List Pair). AreChainsOf S z new.upper.items) (sym e.lower)
      (subst (AreChainsOf S o.lower.items) (sym e.upper) k.chains);
  candidate_lists = subst (λ (z : List Pair). AreCandidateListsOf S z new.candidate_lists.above.items) (sym e.below)
      (subst (AreCandidateListsOf S o.candidate_lists.below.items) (sym e.above) k.candidate_lists);
}

-- a plain set stays one if its hull chains keep their points, and have at least the same storage
pub reserved : {limit : ℕ} {es : List (Pair × ℕ)} {o : HullChains} → IsPlainSet limit es o → (new : HullChains)
    → AreAlike o new → ((n : ℕ) → HasSpace o n → HasSpace new n) → IsPlainSet limit es new
reserved {limit} {es} {o} k new e kept = record {
  low = k.low;
  high = k.high;
  few = k.few;
  in_order = k.in_order;
  each_held = k.each_held;
  hull_chains = same_hull_chains (keys_of es) o new e k.hull_chains;
  space = kept _ k.space;
}

-- a plain set stays one if a new point is added, once
pub put_in : {limit : ℕ} {es : List (Pair × ℕ)} {o : HullChains} → IsPlainSet limit es o → (p : Pair) (new : HullChains)
    → length (keys_of es) < limit → IsHullChainsOf (with_point p (keys_of es)) new
    → HasSpace new (length (keys_of es) + 1) → IsPlainSet limit (insert_entry point_cmp es p 1) new
put_in {limit} {es} {o} k p new l hull_chains space = record {
  low = k.low;
  high = k.high;
  few = omega (arith, few);
  in_order = subst IsPointSet (sym same) (ordered_with p (keys_of es) k.in_order);
  each_held = All-values-insert_entry point_cmp p 1 (λ m. 1 ≤ m) es k.each_held (omega arith);
  hull_chains = subst (λ (z : List Pair). IsHullChainsOf z new) (sym same) hull_chains;
  space = has_less space few;
}
  where
    same : keys_of (insert_entry point_cmp es p 1) ≡ with_point p (keys_of es)
    same = insert_is es p 1

    few : length (keys_of (insert_entry point_cmp es p 1)) ≤ length (keys_of es) + 1
    few = rw same (length_with p (keys_of es))

-- a plain set stays one if a point is removed
pub taken_out : {limit : ℕ} {es : List (Pair × ℕ)} {o : HullChains} → IsPlainSet limit es o
    → (p : Pair) (fs : List (Pair × ℕ)) (new : HullChains) → fs ≡ remove_entry (is_at (point_cmp p)) es
    → IsHullChainsOf (keys_of fs) new → ((n : ℕ) → HasSpace o n → HasSpace new n) → IsPlainSet limit fs new
taken_out {limit} {es} {o} k p fs new e hull_chains kept = record {
  low = k.low;
  high = k.high;
  few = omega (arith, few, k.few);
  in_order = subst IsPointSet (sym same) (ordered_without p (keys_of es) k.in_order);
  each_held = rw e (All-map-remove_entry (is_at (point_cmp p)) (λ e. e.1) (λ m. 1 ≤ m) es k.each_held);
  hull_chains = hull_chains;
  space = kept _ (has_less k.space few);
}
  where
    same : keys_of fs ≡ without_point p (keys_of es)
    same = ap keys_of e ∙ remove_is es p k.in_order

    few : length (keys_of fs) ≤ length (keys_of es)
    few = rw same (length_without p (keys_of es))

-- the storage of a set is enough for the set without a point
pub left_space : {limit : ℕ} {es : List (Pair × ℕ)} {o : HullChains} → IsPlainSet limit es o → (p : Pair)
    (fs : List (Pair × ℕ)) → fs ≡ remove_entry (is_at (point_cmp p)) es → HasSpace o (length (keys_of fs))
left_space {limit} {es} {o} k p fs e =
    let same : keys_of fs ≡ without_point p (keys_of es) = ap keys_of e ∙ remove_is es p k.in_order in
    let few : length (keys_of fs) ≤ length (keys_of es) = rw same (length_without p (keys_of es)) in
    has_less k.space few

-- the length of a map that is another is the number of its points
pub count_is : {m n : BTreeMap Pair ℕ} {count : ℕ} → n ≡ m → count ≡ length n.entries
    → count ≡ length (keys_of m.entries)
count_is {m} e h = h ∙ ap (λ (z : BTreeMap Pair ℕ). length z.entries) e ∙ sym (length-keys_of m.entries)

-- the entries after p was removed, if the number that a look-up found had been written back
pub left_entries : (es written fs : List (Pair × ℕ)) (p : Pair) (n : ℕ) → Some n ≡ lookup (is_at (point_cmp p)) es
    → written ≡ set_value (is_at (point_cmp p)) es n → fs ≡ remove_entry (is_at (point_cmp p)) written
    → fs ≡ remove_entry (is_at (point_cmp p)) es
left_entries es written fs p n found e h =
    h ∙ ap (remove_entry (is_at (point_cmp p))) (e ∙ set_value_same (is_at (point_cmp p)) es n (sym found))
