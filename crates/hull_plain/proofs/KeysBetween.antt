-- The keys of a map between a chain and the rest of it.
use Rattle.std.proofs.lemmas.Grind.{common_steps}
use Rattle.std.proofs.Common.{◌≡◌, ℕ, inl, inr, refl, sym, ap, ◌∙◌, subst, List, arith, zero, suc, [], ◌∷◌, ◌++◌}
use Rattle.std.proofs.Common.{Bool, true, false, cond, not, ◌&&◌}
use Rattle.std.specs.BTreeMap.Range.{entries_between, range_contains, is_from_start, is_past_end, IsLeBy, IsLtBy}
use Rattle.std.specs.Bound.{IsForward}
use Rattle.std.specs.Ordering.{is_lt, is_le}
use Rattle.std.specs.List.{All, Contains, filter}
use Rattle.std.specs.Map.{keys_of}
use Rattle.std.specs.declared.ops.Bound.{Bound}
use Rattle.std.specs.declared.ops.Bound.TheVariants.{Included, Excluded, Unbounded}
use Rattle.std.proofs.lemmas.Bool.{false≢true}
use Rattle.std.proofs.lemmas.List.Elements.{All-contains, All-filter, filter_passes, Contains-append_cases}
use Rattle.lattice.specs.Covers.{IsPointSet}
use Rattle.lattice.specs.Plane.{Pair, IsBefore}
use Rattle.lattice.proofs.Order.{before_total, before_trans}
use Rattle.hull_geometry.specs.Mending.{IsBetween}
use Rattle.hull_plain.specs.Bounds.{IsBehind, IsAhead}
use Rattle.hull_geometry.proofs.Between.{after_ends, end_in, first_in}
use Rattle.hull_set.proofs.OrderedMaps.{point_cmp, less, greater, equal}
use Rattle.hull_geometry.proofs.PointSets.{set_append, set_left, set_right, set_apart}
use Rattle.hull_geometry.proofs.PointLists.{AllPairs-cons, AllPairs-head, AllPairs-tail, get_or_free}

-- ---- filters of a set

-- filtering the entries by their keys filters the keys
keys_filter : (P : Pair → Bool) (es : List (Pair × ℕ)) → keys_of (filter (λ e. P e.0) es) ≡ filter P (keys_of es)
keys_filter P [] = refl
keys_filter P (e ∷ es) = elim (P e.0) as (λ b. keys_of (cond b (e ∷ filter (λ e. P e.0) es) (filter (λ e. P e.0) es))
    ≡ cond b (e.0 ∷ filter P (keys_of es)) (filter P (keys_of es)))
    [ true ↦ ap (λ (z : List Pair). e.0 ∷ z) (keys_filter P es) | false ↦ keys_filter P es ]

-- a set without some of its points is a set
filter_set : (P : Pair → Bool) (S : List Pair) → IsPointSet S → IsPointSet (filter P S)
filter_set P [] s = s
filter_set P (x ∷ xs) s = elim (P x) as (λ b. IsPointSet (cond b (x ∷ filter P xs) (filter P xs))) [
  | true ↦ AllPairs-cons x (filter P xs) (All-filter P (IsBefore x) xs (AllPairs-head x xs s))
      (filter_set P xs (AllPairs-tail x xs s))
  | false ↦ filter_set P xs (AllPairs-tail x xs s)
]

-- the members of a filtered list are members of the list
filter_among : (P : Pair → Bool) (S : List Pair) (t : Pair) → Contains (filter P S) t → Contains S t
filter_among P S t m =
    All-contains (Contains S) (filter P S) t
    (All-filter P (Contains S) S (λ k d l. (k, l, get_or_free S k _ d l))) m

-- a member that passes the test stays in the filtered list
filter_kept : (P : Pair → Bool) (S : List Pair) (t : Pair) → Contains S t → P t ≡ true → Contains (filter P S) t
filter_kept P [] t m p = m
filter_kept P (x ∷ xs) t (zero, l, e) p =
    let q : P x ≡ true = ap P e ∙ p in
    subst (λ b. Contains (cond b (x ∷ filter P xs) (filter P xs)) t) (sym q) (0, omega arith, e)
filter_kept P (x ∷ xs) t (suc k, l, e) p =
    elim (P x) as (λ b. Contains (cond b (x ∷ filter P xs) (filter P xs)) t) [
      | true ↦ let r = filter_kept P xs t (k, omega (arith, l), e) p in (suc r.0, omega (arith, r.1), r.2)
      | false ↦ filter_kept P xs t (k, omega (arith, l), e) p
    ]

-- ---- bounds

-- true is not false
true_false : {A : Type 0} → false ≡ true → A
true_false e = absurd (false≢true e)

-- a point that compares as less is before
less_returned : (a q : Pair) → is_lt (point_cmp a q) ≡ true → IsBefore a q
less_returned a q h = grind (arith, common_steps, before_total, true_false, is_lt, point_cmp, equal, greater)

-- a point that does not compare as at most another is after it
not_le_returned : (b q : Pair) → is_le (point_cmp b q) ≡ false → IsBefore q b
not_le_returned b q h = grind (arith, common_steps, before_total, true_false, is_le, less, point_cmp, equal)

-- a point within a bound after a chain is after the chain
after_start : (left : List Pair) (start : Bound Pair) (t q : Pair) → IsPointSet left → IsBehind left start
    → is_from_start point_cmp start q ≡ true → Contains left t → IsBefore t q
after_start left (Included a) t q s b h m = absurd b
after_start left (Excluded a) t q s b h m = after_ends a left t q s b m (less_returned a q h)
after_start left Unbounded t q s b h m = absurd (no_member t (subst (λ (z : List Pair). Contains z t) b m))
  where
    no_member : (t : Pair) → Contains [] t → ⊥
    no_member t m = omega (arith, m.1)

-- a point after the chain is within the bound
from_start : (left : List Pair) (start : Bound Pair) (q : Pair) → IsBehind left start
    → All (λ u. IsBefore u q) left → is_from_start point_cmp start q ≡ true
from_start left (Included a) q b h = absurd b
from_start left (Excluded a) q b h =
    ap is_lt (less a q (All-contains (λ u. IsBefore u q) left a h (end_in a left b)))
from_start left Unbounded q b h = refl

-- a point within a bound before a chain is before the chain
before_end : (right : List Pair) (end : Bound Pair) (t q : Pair) → IsPointSet right → IsAhead right end
    → is_past_end point_cmp end q ≡ false → Contains right t → IsBefore q t
before_end right (Included a) t q s b h m = absurd b
before_end right (Excluded a) t q s b h m = go (subst (λ (z : List Pair). Contains z t) b.1 m)
  where
    go : Contains (a ∷ b.0) t → IsBefore q t
    go (zero, l, e) = subst (IsBefore q) e (not_le_returned a q h)
    go (suc k, l, e) =
        before_trans q a t (not_le_returned a q h)
        (All-contains (IsBefore a) b.0 t (AllPairs-head a b.0 (subst IsPointSet b.1 s)) (k, omega (arith, l), e))
before_end right Unbounded t q s b h m = absurd (no_member t (subst (λ (z : List Pair). Contains z t) b m))
  where
    no_member : (t : Pair) → Contains [] t → ⊥
    no_member t m = omega (arith, m.1)

-- a point before the chain is within the bound
to_end : (right : List Pair) (end : Bound Pair) (q : Pair) → IsAhead right end → All (IsBefore q) right
    → is_past_end point_cmp end q ≡ false
to_end right (Included a) q b h = absurd b
to_end right (Excluded a) q b h =
    ap is_le (greater a q (All-contains (IsBefore q) right a h (first_in a right b.0 b.1)))
to_end right Unbounded q b h = refl

-- the bounds on the two sides of a set are in order
pub runs_forward : (left right : List Pair) (start end : Bound Pair) → IsPointSet (left ++ right) → IsBehind left start
    → IsAhead right end → IsForward (IsLeBy point_cmp) (IsLtBy point_cmp) start end
runs_forward left right (Included a) end s b e = absurd b
runs_forward left right Unbounded end s b e = tt
runs_forward left right (Excluded a) (Included c) s b e = absurd e
runs_forward left right (Excluded a) (Excluded c) s b e =
    less a c (set_apart left right a c s (end_in a left b) (first_in c right e.0 e.1))
runs_forward left right (Excluded a) Unbounded s b e = tt

-- ---- a point that is between

-- if both tests are true together, each is true
both : (a b : Bool) → (a && b) ≡ true → (a ≡ true) × (b ≡ true)
both true b h = (refl, h)
both false b h = true_false h

-- if each of two tests is true, both together are
and_true : (a b : Bool) → a ≡ true → b ≡ true → (a && b) ≡ true
and_true a b h k = ap (λ z. z && b) h ∙ k

-- if the negation of a test is true, the test is false
negated : (b : Bool) → not b ≡ true → b ≡ false
negated true h = true_false h
negated false h = refl

-- the points of a set between two bounds
abbrev between : Bound Pair → Bound Pair → List Pair → List Pair
between start end S = filter (range_contains point_cmp start end) S

-- a point between the bounds passes both tests
passes_both : (start end : Bound Pair) (S : List Pair) (t : Pair) → Contains (between start end S) t
    → (is_from_start point_cmp start t ≡ true) × (is_past_end point_cmp end t ≡ false)
passes_both start end S t m = grind (arith, common_steps, both, range_contains, point_cmp, true, filter_passes, negated)

-- the points of a set between the bounds on the two sides of a chain are all that are between
all_between : (S left right : List Pair) (start end : Bound Pair) → IsPointSet S → IsPointSet (left ++ right)
    → IsBehind left start → IsAhead right end → IsBetween S left right (between start end S)
all_between S left right start end s sides b e = record {
  ordered = set_append (left ++ between start end S) right
      (set_append left (between start end S) ls (filter_set (range_contains point_cmp start end) S s) after_left) rs
      (λ t u m n. elim (Contains-append_cases left (between start end S) t m)
      [ inl k ↦ set_apart left right t u sides k n | inr k ↦ before_right t u k n ]);
  among = filter_among (range_contains point_cmp start end) S;
  all = λ t m h k. filter_kept (range_contains point_cmp start end) S t m
      (and_true _ _ (from_start left start t b h) (ap not (to_end right end t e k)));
}
  where
    ls : IsPointSet left
    ls = set_left left right sides

    rs : IsPointSet right
    rs = set_right left right sides

    after_left : (t u : Pair) → Contains left t → Contains (between start end S) u → IsBefore t u
    after_left t u m n = after_start left start t u ls b (passes_both start end S u n).0 m

    before_right : (t u : Pair) → Contains (between start end S) t → Contains right u → IsBefore t u
    before_right t u m n = before_end right end u t rs e (passes_both start end S t m).1 n

-- the keys of a map between these bounds
pub keys_between : (entries es : List (Pair × ℕ)) (left right : List Pair) (start end : Bound Pair)
    → es ≡ entries_between point_cmp start end entries → IsPointSet (keys_of entries) → IsPointSet (left ++ right)
    → IsBehind left start → IsAhead right end → IsBetween (keys_of entries) left right (keys_of es)
keys_between entries es left right start end is s sides b e =
    subst (IsBetween (keys_of entries) left right)
    (sym (ap keys_of is ∙ keys_filter (range_contains point_cmp start end) entries))
    (all_between (keys_of entries) left right start end s sides b e)
