-- A point that is counted in at the end of entries.
use Rattle.std.proofs.lemmas.Grind.{common_steps}
use Rattle.std.proofs.Common.{◌≡◌, ℕ, ◌+◌, ◌<◌, ◌≤◌, inl, inr, refl, sym, ◌∙◌, ap, subst, List, [], ◌∷◌, ◌++◌, length}
use Rattle.std.proofs.Common.{take, get_or, arith, zero, suc, Bool, true, false, if◌then◌else◌, ◌⊎◌}
use Rattle.std.specs.Prelude.{not}
use Rattle.std.specs.List.{All, Contains}
use Rattle.std.proofs.Math.ListN.{get_or-map}
use Rattle.std.proofs.Math.Nat.{eq-or-lt_of_le}
use Rattle.std.proofs.lemmas.List.{map-append, take-append-drop}
use Rattle.std.proofs.lemmas.List.Elements.{All-append, All-cons, All-contains, Contains-push_cases}
use Rattle.std.proofs.lemmas.List.Elements.{Contains-append_left, Contains-get_or, All-head, All-tail}
use Rattle.std.proofs.lemmas.List.Sums.{sum_by_push, sum_by_more, sum_by_more_le, sum_by-cons, sum_by-append}
use Rattle.std.proofs.lemmas.Map.Entries.{length-keys_of}
use Rattle.lattice.specs.Plane.{Pair, IsBefore}
use Rattle.lattice.specs.Covers.{IsPointSet}
use Rattle.lattice.proofs.Order.{before_trans, before_total, before_not}
use Rattle.bridge_search.proofs.Leaves.{sets_in_row}
use Rattle.hull_set.specs.Held.{once}
use Rattle.hull_set.specs.PointLists.{is_same_pair}
use Rattle.hull_geometry.proofs.PointLists.{AllPairs-none, AllPairs-cons, get_or_free, later}
use Rattle.hull_set.proofs.HeldMultiplicities.{same_or_other, once_same, returned_other}
use Rattle.leaf_trees.specs.Entries.{several, IsMultiplicity}
use Rattle.leaf_trees.specs.Entries.{points_listed, multiplicity_listed, AreEntries}
use Rattle.hull_set.specs.Held.{multiplicity_among}
use Rattle.leaf_trees.specs.Entries.{Precedes}
use Rattle.hull_geometry.proofs.PointSets.{set_apart}
use Rattle.leaf_trees.proofs.Multiplicities.{several_there, several_elsewhere}

-- the points of entries with one more after them
points_pushed : (es : List (Pair × ℕ)) (e : Pair × ℕ) → points_listed (es ++ e ∷ []) ≡ points_listed es ++ e.0 ∷ []
points_pushed es e = map-append (λ (e : Pair × ℕ). e.0) es (e ∷ [])

-- so they are the same if the last points are
same_points : (es : List (Pair × ℕ)) (e f : Pair × ℕ) → e.0 ≡ f.0
    → points_listed (es ++ e ∷ []) ≡ points_listed (es ++ f ∷ [])
same_points es e f h = points_pushed es e ∙ ap (λ (z : Pair). points_listed es ++ z ∷ []) h ∙ sym (points_pushed es f)

-- each multiplicity but the last is legal
held_left : (es : List (Pair × ℕ)) (e : Pair × ℕ) → All (λ (e : Pair × ℕ). IsMultiplicity e.1) (es ++ e ∷ [])
    → All (λ (e : Pair × ℕ). IsMultiplicity e.1) es
held_left es e h k d l =
    All-contains (λ (e : Pair × ℕ). IsMultiplicity e.1) (es ++ e ∷ []) (get_or es k d) h
    (Contains-append_left es (e ∷ []) (get_or es k d) (Contains-get_or es k d l))

-- the last entry
pub last_held : (es : List (Pair × ℕ)) (e : Pair × ℕ) → AreEntries (es ++ e ∷ []) → IsMultiplicity e.1
last_held es e h = grind (arith, common_steps)

-- its point is one of the points
pub last_among : (es : List (Pair × ℕ)) (e : Pair × ℕ) → Contains (points_listed (es ++ e ∷ [])) e.0
last_among es e = grind (arith, common_steps, points_pushed, points_listed)

-- a list of one entry
one_held : (p : Pair) (n : ℕ) → IsMultiplicity n → All (λ (e : Pair × ℕ). IsMultiplicity e.1) ((p, n) ∷ [])
one_held p n h = All-cons (λ (e : Pair × ℕ). IsMultiplicity e.1) (p, n) [] h (λ k d l. absurd (omega arith))

-- the last entry may get another number
pub recounted : (es : List (Pair × ℕ)) (e : Pair × ℕ) (p : Pair) (n : ℕ) → AreEntries (es ++ e ∷ []) → e.0 ≡ p
    → IsMultiplicity n → AreEntries (es ++ (p, n) ∷ [])
recounted es e p n h s m = record {
  in_order = subst IsPointSet (same_points es e (p, n) s) h.in_order;
  held = All-append (λ (e : Pair × ℕ). IsMultiplicity e.1) es ((p, n) ∷ []) (held_left es e h.held) (one_held p n m);
}

-- and the same points
pub points_recounted : (es : List (Pair × ℕ)) (e : Pair × ℕ) (p : Pair) (n : ℕ) (t : Pair) → e.0 ≡ p
    → Contains (points_listed (es ++ (p, n) ∷ [])) t → Contains (points_listed (es ++ e ∷ [])) t
points_recounted es e p n t s m = subst (λ z. Contains z t) (sym (same_points es e (p, n) s)) m

-- a point that is before none of the points of a set, and none of them, is after all of them
pub after_all : (xs : List Pair) (x p t : Pair) → IsPointSet (xs ++ x ∷ []) → ¬ IsBefore p x → ¬ (x ≡ p)
    → Contains (xs ++ x ∷ []) t → IsBefore t p
after_all xs x p t s n d m =
    elim (Contains-push_cases xs x t m) [
      | inl i ↦ before_trans t x p (set_apart xs (x ∷ []) t x s i (0, omega arith, refl)) ahead
      | inr e ↦ subst (λ z. IsBefore z p) e ahead
    ]
  where
    ahead : IsBefore x p
    ahead = elim (before_total x p) [ inl b ↦ b | inr (inl e) ↦ absurd (d e) | inr (inr b) ↦ absurd (n b) ]

-- a point after a set makes a larger set
pub set_pushed : (xs : List Pair) (p : Pair) → IsPointSet xs → ((t : Pair) → Contains xs t → IsBefore t p)
    → IsPointSet (xs ++ p ∷ [])
set_pushed xs p s h =
    sets_in_row xs (p ∷ []) s (AllPairs-cons p [] (λ k d l. absurd (omega arith)) AllPairs-none)
    (λ a b i j. subst (IsBefore a) (only b j) (h a i))
  where
    only : (b : Pair) → Contains (p ∷ []) b → p ≡ b
    only b (k, l, e) = elim (Contains-push_cases [] p b (k, l, e)) [ inl i ↦ absurd (omega (arith, i.1)) | inr i ↦ i ]

-- a new point after entries
pub followed : (es : List (Pair × ℕ)) (e f : Pair × ℕ) → AreEntries (es ++ e ∷ []) → ¬ IsBefore f.0 e.0
    → ¬ (e.0 ≡ f.0) → IsMultiplicity f.1 → AreEntries ((es ++ e ∷ []) ++ f ∷ [])
followed es e f h n d m =
    let s : IsPointSet (points_listed es ++ e.0 ∷ []) = subst IsPointSet (points_pushed es e) h.in_order in
    record {
      in_order = rw (points_pushed (es ++ e ∷ []) f, points_pushed es e)
          (set_pushed (points_listed es ++ e.0 ∷ []) f.0 s
          (λ t i. after_all (points_listed es) e.0 f.0 t s n d i));
      held = All-append (λ (e : Pair × ℕ). IsMultiplicity e.1) (es ++ e ∷ []) (f ∷ []) h.held
          (one_held f.0 f.1 m);
    }

-- m + n times is m times and n times more
more_multiplicities : (b : Bool) (m n : ℕ) → (if b then m + n else 0) ≡ (if b then m else 0) + (if b then n else 0)
more_multiplicities true m n = refl
more_multiplicities false m n = refl

-- the last point with a multiplicity that is n greater
pub multiplicity_recounted : (es : List (Pair × ℕ)) (e : Pair × ℕ) (p q : Pair) (n : ℕ) → e.0 ≡ p
    → multiplicity_listed (es ++ (p, e.1 + n) ∷ []) q ≡ multiplicity_listed (es ++ e ∷ []) q + several n p q
multiplicity_recounted es e p q n s = grind (arith, common_steps, sum_by_push, several, more_multiplicities, is_same_pair)

-- two points are different if the test returned so
pub other_point : {r : Bool} (p q : Pair) → r ≡ not (is_same_pair p q) → r ≡ true → ¬ (p ≡ q)
other_point p q e t = returned_other p q (not_true _ (sym e ∙ t))
  where
    not_true : (b : Bool) → not b ≡ true → b ≡ false
    not_true true h = sym h
    not_true false h = refl

-- a point is at least once more among all points than before its index
pub counted_past : (xs : List Pair) (i : ℕ) (p : Pair) → p ≡ get_or xs i p → i < length xs
    → multiplicity_among (take i xs) p + 1 ≤ multiplicity_among xs p
counted_past xs i p e l = grind (arith, common_steps, multiplicity_among, once, sum_by_more_le, once_same)

-- the same point, whatever the default for a missing one
pub at_place : (xs : List Pair) (i : ℕ) (p t : Pair) → p ≡ get_or xs i p → i < length xs → p ≡ get_or xs i t
at_place xs i p t e l = e ∙ get_or_free xs i p t l

-- the multiplicity of each of the points of entries is at least one
pub live_of : (es : List (Pair × ℕ)) (t : Pair) → All (λ (e : Pair × ℕ). IsMultiplicity e.1) es
    → Contains (points_listed es) t → 1 ≤ multiplicity_listed es t
live_of [] t h (k, l, e) = absurd (omega (arith, l))
live_of (x ∷ es) t h (zero, l, e) =
    let m : IsMultiplicity x.1 = All-head (λ (e : Pair × ℕ). IsMultiplicity e.1) x es h in
    let s : several x.1 x.0 t ≡ x.1 = subst (λ z. several x.1 x.0 z ≡ x.1) e (several_there x.1 x.0) in
    rw (sum_by-cons (λ (e : Pair × ℕ). several e.1 e.0 t) x es) (omega (arith, m.0, s))
live_of (x ∷ es) t h (suc k, l, e) =
    let r : 1 ≤ multiplicity_listed es t =
    live_of es t (All-tail (λ (e : Pair × ℕ). IsMultiplicity e.1) x es h) (k, omega (arith, l), e) in
    rw (sum_by-cons (λ (e : Pair × ℕ). several e.1 e.0 t) x es) (omega (arith, r))

-- and a point with a multiplicity of at least one is one of them
pub listed_live : (es : List (Pair × ℕ)) (t : Pair) → 1 ≤ multiplicity_listed es t → Contains (points_listed es) t
listed_live [] t h = absurd (omega (arith, h))
listed_live (x ∷ es) t h =
    elim (same_or_other x.0 t) [
      | inl e ↦ (0, omega arith, e)
      | inr d ↦
          let z : several x.1 x.0 t ≡ 0 = several_elsewhere x.1 x.0 t d in
          let r : 1 ≤ multiplicity_listed es t =
          omega (arith, h, z, sum_by-cons (λ (e : Pair × ℕ). several e.1 e.0 t) x es) in
          later x.0 t (points_listed es) (listed_live es t r)
    ]

-- ---- two lists of entries

-- the entry at an index adds its multiplicity to the entries before it
pub listed_more : (es : List (Pair × ℕ)) (i : ℕ) (e : Pair × ℕ) (q : Pair) → e ≡ get_or es i e → i < length es
    → multiplicity_listed (take (i + 1) es) q ≡ multiplicity_listed (take i es) q + several e.1 e.0 q
listed_more es i e q h l = grind (arith, common_steps, sum_by_more, several, multiplicity_listed)

-- a point is at least once more among all points than before its index
pub listed_past : (es : List (Pair × ℕ)) (i : ℕ) (e : Pair × ℕ) → e ≡ get_or es i e → i < length es
    → multiplicity_listed (take i es) e.0 + e.1 ≤ multiplicity_listed es e.0
listed_past es i e h l = grind (arith, common_steps, multiplicity_listed, several, sum_by_more_le, several_there)

-- a multiplicity among the first entries is at most the one among all
pub listed_few : (es : List (Pair × ℕ)) (i : ℕ) (q : Pair) → multiplicity_listed (take i es) q ≤ multiplicity_listed es q
listed_few es i q = grind (arith, common_steps, sum_by-append, several, multiplicity_listed, take-append-drop)

-- no entry after an index is before the one there
pub entry_behind : (es : List (Pair × ℕ)) (i k : ℕ) (d : Pair × ℕ) → AreEntries es → i < k → k < length es
    → IsBefore (get_or es i d).0 (get_or es k d).0
entry_behind es i k d h l m =
    subst (λ (z : Pair). IsBefore z (get_or es k d).0) (get_or-map (λ (e : Pair × ℕ). e.0) es i d)
    (subst (λ (z : Pair). IsBefore (get_or (points_listed es) i d.0) z) (get_or-map (λ (e : Pair × ℕ). e.0) es k d)
    (h.in_order i k d.0 l (omega (arith, m, length-keys_of es))))

-- the entry at an index, whatever the default for a missing one
same_entry : (es : List (Pair × ℕ)) (i : ℕ) (d e : Pair × ℕ) → i < length es → get_or es i d ≡ get_or es i e
same_entry [] i d e l = absurd (omega (arith, l))
same_entry (x ∷ es) zero d e l = refl
same_entry (x ∷ es) (suc i) d e l = same_entry es i d e (omega (arith, l))

-- none of the entries from an index on is before one of the points
abbrev pub AreBehind : List (Pair × ℕ) → ℕ → List Pair → Type 0
AreBehind es i points =
    (t : Pair) → Contains points t → (k : ℕ) (d : Pair × ℕ) → i ≤ k → k < length es → ¬ IsBefore (get_or es k d).0 t

-- the entry there was added to the points: those after it are before none of them
behind_taken : (es : List (Pair × ℕ)) (i : ℕ) (e : Pair × ℕ) (before after : List Pair) → AreEntries es
    → e ≡ get_or es i e → i < length es → AreBehind es i before
    → ((t : Pair) → Contains after t → Contains before t ⊎ (t ≡ e.0)) → AreBehind es (i + 1) after
behind_taken es i e before after h g l b among t m k d n o p =
    elim (among t m) [
      | inl c ↦ b t c k d (omega (arith, n)) o p
      | inr q ↦
          let same : t ≡ (get_or es i d).0 = q ∙ ap (λ (z : Pair × ℕ). z.0) (g ∙ same_entry es i e d l) in
          before_not (get_or es i d).0 (get_or es k d).0 (entry_behind es i k d h (omega (arith, n)) o)
          (subst (IsBefore (get_or es k d).0) same p)
    ]

-- an entry was added to them that none of another list's remaining entries is before
behind_other : (es fs : List (Pair × ℕ)) (i j : ℕ) (e : Pair × ℕ) (before after : List Pair) → AreEntries fs
    → e ≡ get_or es i e → Precedes es i fs j → AreBehind fs j before
    → ((t : Pair) → Contains after t → Contains before t ⊎ (t ≡ e.0)) → AreBehind fs j after
behind_other es fs i j e before after h g s b among t m k d n o p =
    elim (among t m) [
      | inl c ↦ b t c k d n o p
      | inr q ↦
          let same : t ≡ (get_or es i d).0 = q ∙ ap (λ (z : Pair × ℕ). z.0) (g ∙ same_entry es i e d s.there) in
          s.first d (omega (arith, n, o)) (reaches (subst (IsBefore (get_or fs k d).0) same p))
    ]
  where
    reaches : IsBefore (get_or fs k d).0 (get_or es i d).0 → IsBefore (get_or fs j d).0 (get_or es i d).0
    reaches a = elim (eq-or-lt_of_le n) [
      | inl w ↦ rw w a
      | inr c ↦ before_trans _ _ _ (entry_behind fs j k d h c o) a
    ]

-- so after a step of merging
pub behind_both : (es fs : List (Pair × ℕ)) (i j : ℕ) (e : Pair × ℕ) (before after : List Pair) → AreEntries es
    → AreEntries fs → e ≡ get_or es i e → Precedes es i fs j → AreBehind es i before → AreBehind fs j before
    → ((t : Pair) → Contains after t → Contains before t ⊎ (t ≡ e.0)) → AreBehind es (i + 1) after × AreBehind fs j after
behind_both es fs i j e before after h k g s a b among = (
  behind_taken es i e before after h g s.there a among,
  behind_other es fs i j e before after k g s b among,
)
