-- The sooner of two arrivals, as fractions of a motion.
use Rattle.std.proofs.Common.{◌≡◌, ℕ, ◌+◌, ◌*◌, ◌<◌, ◌≤◌, ◌⊎◌, inl, inr, refl, sym, ap, ◌∙◌, subst, List, [], ◌∷◌, ◌++◌, length, take}
use Rattle.std.proofs.Common.{get_or, Option, Some, None, IfSome, arith}
use Rattle.std.specs.List.{Contains}
use Rattle.std.proofs.lemmas.Bool.{cases_lt}
use Rattle.std.proofs.lemmas.List.Elements.{Contains-append_cases, Contains-append_left, Contains-append_right}
use Rattle.std.proofs.lemmas.List.{take_more}
use Rattle.std.proofs.Math.Nat.{mul-le-mul_left, mul-le-mul_right}
use Rattle.lattice.specs.Plane.{Pair}
use Rattle.hull_polygon.specs.Raycasts.{IsHit, moved}
use Rattle.first_meeting.specs.Arrivals.{ArrivesFirst, CoversAfter, NoneArrives, ReturnsFirst, ReturnsSooner}
use Rattle.first_meeting.specs.declared.arrivals.Arrival.{Arrival}
use Rattle.first_meeting.proofs.Hits.{denominator_above}

-- ---- fractions

-- a factor above 0 is left out
pub cancel : (x y k : ℕ) → 0 < k → x * k ≤ y * k → x ≤ y
cancel x y k hk h = elim (cases_lt y x) [
  | inr l ↦ l
  | inl l ↦ absurd (clash l)
]
  where
    clash : y < x → ⊥
    clash l = let m : (y + 1) * k ≤ x * k = mul-le-mul_right k (omega arith) in omega (arith, m, h)

-- x / y is at most n / k if p / q is between them
pub between_fractions : (x y p q n k : ℕ) → 0 < q → x * q ≤ p * y → p * k ≤ n * q → x * k ≤ n * y
between_fractions x y p q n k hq h l =
    cancel (x * k) (n * y) q hq
    (let a : (x * q) * k ≤ (p * y) * k = mul-le-mul_right k h in
    let b : (p * k) * y ≤ (n * q) * y = mul-le-mul_right y l in omega (arith, a, b))

-- a part of the motion is no later than what is beyond the motion
pub before_beyond : (x y n k : ℕ) → x ≤ y → k < n → x * k ≤ n * y
before_beyond x y n k h l =
    let a : x * k ≤ y * k = mul-le-mul_right k h in
    let b : y * k ≤ y * n = mul-le-mul_left y (omega arith) in omega (arith, a, b)

-- ---- arrivals

-- no point of V is covered within the motion before x / y of it
abbrev pub NoneSooner : List Pair → Pair → List Pair → ℕ → ℕ → Type 0
NoneSooner T d V x y =
    (a : Pair) (n k : ℕ) → Contains V a → 0 < k → n ≤ k → CoversAfter T d a n k → x * k ≤ n * y

-- none is if none arrives
pub none_at_all : (T : List Pair) (d : Pair) (V : List Pair) (x y : ℕ) → NoneArrives T d V → NoneSooner T d V x y
none_at_all T d V x y h a n k m hk l c = absurd (h a n k m hk l c)

-- none is if the first arrival is no sooner
pub none_by_first : (T : List Pair) (d : Pair) (V : List Pair) (x y : ℕ) (found : Arrival) → ArrivesFirst T d V found
    → x * found.hit.denominator ≤ found.hit.numerator * y → NoneSooner T d V x y
none_by_first T d V x y found h l a n k m hk nk c =
    between_fractions x y found.hit.numerator found.hit.denominator n k
    (denominator_above T found.vertex (moved found.vertex d) found.hit h.hit) l (h.first a n k m hk c)

-- the arrival of a point is the first if none is sooner
first_of : (T : List Pair) (d : Pair) (X : List Pair) (found : Arrival) → Contains X found.vertex
    → IsHit T found.vertex (moved found.vertex d) found.hit → found.hit.numerator ≤ found.hit.denominator
    → NoneSooner T d X found.hit.numerator found.hit.denominator → ArrivesFirst T d X found
first_of T d X found m h l none = record {
  there = m;
  hit = h;
  within = l;
  first = λ a n k ma hk c. elim (cases_lt k n) [
    | inl b ↦ before_beyond found.hit.numerator found.hit.denominator n k l b
    | inr b ↦ none a n k ma hk b c
  ];
}

-- none of two lists is sooner
none_of_both : (T : List Pair) (d : Pair) (V U X : List Pair) (x y : ℕ)
    → ((a : Pair) → Contains X a → Contains V a ⊎ Contains U a) → NoneSooner T d V x y → NoneSooner T d U x y
    → NoneSooner T d X x y
none_of_both T d V U X x y parts f g a n k m hk l c = elim (parts a m) [
  | inl i ↦ f a n k i hk l c
  | inr i ↦ g a n k i hk l c
]

-- the sooner of the first arrivals of two lists is the first of both
pub sooner_first : (T : List Pair) (d : Pair) (V U X : List Pair) (f g r : Option Arrival)
    → ((a : Pair) → Contains X a → Contains V a ⊎ Contains U a) → ((a : Pair) → Contains V a → Contains X a)
    → ((a : Pair) → Contains U a → Contains X a) → ReturnsFirst T d V f → ReturnsFirst T d U g → ReturnsSooner f g r
    → ReturnsFirst T d X r
sooner_first T d V U X None None r parts left right hf hg e =
    subst (λ (z : Option Arrival). ReturnsFirst T d X z) (sym e)
    (λ a n k m hk l c. elim (parts a m) [ inl i ↦ hf a n k i hk l c | inr i ↦ hg a n k i hk l c ])
sooner_first T d V U X None (Some b) r parts left right hf hg e =
    subst (λ (z : Option Arrival). ReturnsFirst T d X z) (sym e)
    (first_of T d X b (right b.vertex hg.there) hg.hit hg.within
    (none_of_both T d V U X _ _ parts (none_at_all T d V _ _ hf) (none_by_first T d U _ _ b hg (omega arith))))
sooner_first T d V U X (Some a) None r parts left right hf hg e =
    subst (λ (z : Option Arrival). ReturnsFirst T d X z) (sym e)
    (first_of T d X a (left a.vertex hf.there) hf.hit hf.within
    (none_of_both T d V U X _ _ parts (none_by_first T d V _ _ a hf (omega arith)) (none_at_all T d U _ _ hg)))
sooner_first T d V U X (Some a) (Some b) r parts left right hf hg (inl e) =
    subst (λ (z : Option Arrival). ReturnsFirst T d X z) (sym e.0)
    (first_of T d X a (left a.vertex hf.there) hf.hit hf.within
    (none_of_both T d V U X _ _ parts (none_by_first T d V _ _ a hf (omega arith)) (none_by_first T d U _ _ b hg e.1)))
sooner_first T d V U X (Some a) (Some b) r parts left right hf hg (inr e) =
    subst (λ (z : Option Arrival). ReturnsFirst T d X z) (sym e.0)
    (first_of T d X b (right b.vertex hg.there) hg.hit hg.within
    (none_of_both T d V U X _ _ parts (none_by_first T d V _ _ a hf (weaker _ _ e.1)) (none_by_first T d U _ _ b hg (omega arith))))
  where
    weaker : (x y : ℕ) → x < y → x ≤ y
    weaker x y h = omega arith

-- ---- one vertex after the other

-- the first vertices and one more
pub one_more : (V : List Pair) (i : ℕ) (v : Pair) → i < length V → v ≡ get_or V i v → take (i + 1) V ≡ take i V ++ (v ∷ [])
one_more V i v l e = take_more V i v l ∙ ap (λ (z : Pair). take i V ++ (z ∷ [])) (sym e)

-- the first arrival of the first vertices and that of one more
pub one_more_first : (T : List Pair) (d : Pair) (V : List Pair) (i : ℕ) (v : Pair) (f g r : Option Arrival) → i < length V
    → v ≡ get_or V i v → ReturnsFirst T d (take i V) f → ReturnsFirst T d (v ∷ []) g → ReturnsSooner f g r
    → ReturnsFirst T d (take (i + 1) V) r
one_more_first T d V i v f g r l e hf hg h =
    subst (λ (z : List Pair). ReturnsFirst T d z r) (sym (one_more V i v l e))
    (sooner_first T d (take i V) (v ∷ []) (take i V ++ (v ∷ [])) f g r (λ a m. Contains-append_cases (take i V) (v ∷ []) a m)
    (λ a m. Contains-append_left (take i V) (v ∷ []) a m) (λ a m. Contains-append_right (take i V) (v ∷ []) a m) hf hg h)

-- the sooner of two has what both have
pub sooner_keeps : (P : Arrival → Type 0) (f g r : Option Arrival) → IfSome f P → IfSome g P → ReturnsSooner f g r → IfSome r P
sooner_keeps P None g r hf hg e = subst (λ (z : Option Arrival). IfSome z P) (sym e) hg
sooner_keeps P (Some a) None r hf hg e = subst (λ (z : Option Arrival). IfSome z P) (sym e) hf
sooner_keeps P (Some a) (Some b) r hf hg (inl e) = subst (λ (z : Option Arrival). IfSome z P) (sym e.0) hf
sooner_keeps P (Some a) (Some b) r hf hg (inr e) = subst (λ (z : Option Arrival). IfSome z P) (sym e.0) hg

-- an arrival, or none, stays if none comes
pub sooner_none : (f : Option Arrival) → ReturnsSooner f None f
sooner_none None = refl
sooner_none (Some a) = refl
