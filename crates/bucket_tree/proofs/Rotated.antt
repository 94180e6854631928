-- The bridges that a rotation keeps: each is the bridge of the new halves by what it is of the old ones, or because
-- each pair of halves has one bridge.
use Rattle.std.proofs.Common.{◌≡◌, ◌⊎◌, inl, inr, sym, subst}
use Rattle.lattice.specs.Bridges.{IsAllBefore, IsBridge}
use Rattle.lattice.specs.Plane.{Pair, IsBefore}
use Rattle.lattice.specs.declared.side.Side.{Side}
use Rattle.lattice.specs.declared.side.Side.TheVariants.{Lower, Upper}
use Rattle.lattice.proofs.Order.{before_irrefl}
use Rattle.bridge_search.specs.Trees.{Tree, Fork, On, IsBridged}
use Rattle.bucket_tree.specs.declared.rotation.Regrouped.{Regrouped}
use Rattle.bucket_tree.specs.declared.rotation.Rotation.{Rotation}
use Rattle.bucket_tree.specs.declared.rotation.Rotation.TheVariants.{Left, Right}
use Rattle.bucket_tree.specs.Rotations.{IsOnEither, IsPart, IsRegrouped, IsWhole, other}
use Rattle.bucket_tree.proofs.Added.{unique}
use Rattle.bucket_tree.proofs.SomeBridge.{some_bridge}

-- the points before the later half of the lower fork are before its first point, and its own are not
abbrev pub Begins : Rotation → Tree → Tree → Tree → Pair → Type 0
Begins Left x y z split = ((t : Pair) → On y t → IsBefore t split) × ((t : Pair) → On z t → ¬ IsBefore t split)
Begins Right x y z split = ((t : Pair) → On x t → IsBefore t split) × ((t : Pair) → On y t → ¬ IsBefore t split)

-- three bridged halves in a row, and the point at which the later half of the lower fork begins
pub record AreThree (rotation : Rotation) (x y z : Tree) (split : Pair) : Type 0 where
  pub first : IsBridged x
  pub middle : IsBridged y
  pub last : IsBridged z
  pub first_middle : IsAllBefore (On x) (On y)
  pub middle_last : IsAllBefore (On y) (On z)
  pub first_last : IsAllBefore (On x) (On z)
  pub begins : Begins rotation x y z split

-- ---- one bridge as that of other halves

-- a bridge of the first two halves and the last that begins in the middle one is that of the last two
later_two : (side : Side) (X Y Z : Pair → Type 0) (p q : Pair) → IsBridge side (λ t. X t ⊎ Y t) Z p q → Y p
    → IsBridge side Y Z p q
later_two side X Y Z p q b i = record {
  from_left = i;
  to_right = b.to_right;
  inner_left = λ t j. b.inner_left t (inr j);
  inner_right = b.inner_right;
  tie_left = λ t j. b.tie_left t (inr j);
  tie_right = b.tie_right;
}

-- a bridge of the first half and the last two that ends in the middle one is that of the first two
first_two : (side : Side) (X Y Z : Pair → Type 0) (p q : Pair) → IsBridge side X (λ t. Y t ⊎ Z t) p q → Y q
    → IsBridge side X Y p q
first_two side X Y Z p q b i = record {
  from_left = b.from_left;
  to_right = i;
  inner_left = b.inner_left;
  inner_right = λ t j. b.inner_right t (inl j);
  tie_left = b.tie_left;
  tie_right = λ t j. b.tie_right t (inl j);
}

-- a bridge from the first half to the last is that of either grouping, if it is that of the other
across_right : (side : Side) (X Y Z : Pair → Type 0) (p q : Pair) → IsBridge side (λ t. X t ⊎ Y t) Z p q → X p
    → IsBridge side X (λ t. Y t ⊎ Z t) p q
across_right side X Y Z p q b i = record {
  from_left = i;
  to_right = inr b.to_right;
  inner_left = λ t j. b.inner_left t (inl j);
  inner_right = λ t j. elim j [ inl k ↦ b.inner_left t (inr k) | inr k ↦ b.inner_right t k ];
  tie_left = λ t j. b.tie_left t (inl j);
  tie_right = λ t j. elim j [ inl k ↦ b.tie_left t (inr k) | inr k ↦ b.tie_right t k ];
}

across_left : (side : Side) (X Y Z : Pair → Type 0) (p q : Pair) → IsBridge side X (λ t. Y t ⊎ Z t) p q → Z q
    → IsBridge side (λ t. X t ⊎ Y t) Z p q
across_left side X Y Z p q b i = record {
  from_left = inl b.from_left;
  to_right = i;
  inner_left = λ t j. elim j [ inl k ↦ b.inner_left t k | inr k ↦ b.inner_right t (inl k) ];
  inner_right = λ t j. b.inner_right t (inr j);
  tie_left = λ t j. elim j [ inl k ↦ b.tie_left t k | inr k ↦ b.tie_right t (inl k) ];
  tie_right = λ t j. b.tie_right t (inr j);
}

-- ---- a tree over two halves

-- two bridged halves in order are those of a bridged fork
pub fork_of : (u w : Tree) → IsBridged u → IsBridged w → IsAllBefore (On u) (On w)
    → (e : Pair × Pair) × (f : Pair × Pair) × IsBridged (Fork e f u w)
fork_of u w b c o =
    let h = some_bridge Upper u w b c o in
    let k = some_bridge Lower u w b c o in
    ((h.0, h.1), (k.0, k.1), (o, h.2, k.2, b, c))

-- ---- the upper bridge ends in the middle

-- then the old lower bridge is the new upper one, after a rotation to the right
outer_right : (side : Side) (x y z : Tree) (split : Pair) (e d : Pair × Pair) → AreThree Right x y z split
    → IsWhole Right side x y z e
    → On y e.0 → IsPart Right side x y z d → IsWhole Left side x y z d
outer_right side x y z split e d h w i p =
    let f = fork_of y z h.middle h.last h.middle_last in
    let o : IsAllBefore (On x) (IsOnEither y z) =
    λ s t j k. elim k [ inl m ↦ h.first_middle s t j m | inr m ↦ h.first_last s t j m ] in
    let b = some_bridge side x (Fork f.0 f.1 y z) h.first f.2 o in
    elim b.2.to_right [
      | inl k ↦ same (unique side (On x) (On y) b.0 b.1 d.0 d.1 h.first_middle (first_two side (On x) (On y) (On z) b.0
          b.1 b.2 k) p)
          b.2
      | inr k ↦
          let q = unique side (IsOnEither x y) (On z) b.0 b.1 e.0 e.1
          (λ s t j m. elim j [ inl n ↦ h.first_last s t n m | inr n ↦ h.middle_last s t n m ])
          (across_left side (On x) (On y) (On z) b.0 b.1 b.2 k) w in
          absurd (before_irrefl b.0 (h.first_middle b.0 b.0 b.2.from_left (subst (On y) (sym q.0) i)))
    ]
  where
    same : {p q : Pair} → (p ≡ d.0) × (q ≡ d.1) → IsBridge side (On x) (IsOnEither y z) p q
        → IsBridge side (On x) (IsOnEither y z) d.0 d.1
    same e b = subst (λ s. IsBridge side (On x) (IsOnEither y z) s d.1) e.0
        (subst (IsBridge side (On x) (IsOnEither y z) _) e.1 b)

-- and after one to the left
outer_left : (side : Side) (x y z : Tree) (split : Pair) (e d : Pair × Pair) → AreThree Left x y z split
    → IsWhole Left side x y z e
    → On y e.1 → IsPart Left side x y z d → IsWhole Right side x y z d
outer_left side x y z split e d h w i p =
    let f = fork_of x y h.first h.middle h.first_middle in
    let o : IsAllBefore (IsOnEither x y) (On z) =
    λ s t j k. elim j [ inl m ↦ h.first_last s t m k | inr m ↦ h.middle_last s t m k ] in
    let b = some_bridge side (Fork f.0 f.1 x y) z f.2 h.last o in
    elim b.2.from_left [
      | inl k ↦
          let q = unique side (On x) (IsOnEither y z) b.0 b.1 e.0 e.1
          (λ s t j m. elim m [ inl n ↦ h.first_middle s t j n | inr n ↦ h.first_last s t j n ])
          (across_right side (On x) (On y) (On z) b.0 b.1 b.2 k) w in
          absurd (before_irrefl b.1 (h.middle_last b.1 b.1 (subst (On y) (sym q.1) i) b.2.to_right))
      | inr k ↦ same (unique side (On y) (On z) b.0 b.1 d.0 d.1 h.middle_last (later_two side (On x) (On y) (On z) b.0
          b.1 b.2 k) p)
          b.2
    ]
  where
    same : {p q : Pair} → (p ≡ d.0) × (q ≡ d.1) → IsBridge side (IsOnEither x y) (On z) p q
        → IsBridge side (IsOnEither x y) (On z) d.0 d.1
    same e b = subst (λ s. IsBridge side (IsOnEither x y) (On z) s d.1) e.0
        (subst (IsBridge side (IsOnEither x y) (On z) _) e.1 b)

-- ---- a rotation

-- the two halves of the fork that a rotation makes
abbrev pub lower_first : Rotation → Tree → Tree → Tree → Tree
lower_first Left x y z = x
lower_first Right x y z = y

abbrev pub lower_second : Rotation → Tree → Tree → Tree → Tree
lower_second Left x y z = y
lower_second Right x y z = z

-- the edges after a rotation are the bridges of the two forks that it makes
pub regrouped_is : (side : Side) (rotation : Rotation) (x y z : Tree) (whole part : Pair
    × Pair) (split : Pair) (new : Regrouped)
    → AreThree rotation x y z split → IsWhole rotation side x y z whole → IsPart rotation side x y z part
    → IsRegrouped side rotation whole part split (lower_first rotation x y z) (lower_second rotation x y z) new
    → IsPart (other rotation) side x y z new.inner × IsWhole (other rotation) side x y z new.outer
regrouped_is side Right x y z whole part split new h w p (inl k) =
    let i : On y whole.0 = elim w.from_left [ inl m ↦ absurd (k.0 (h.begins.0 whole.0 m)) | inr m ↦ m ] in (
      subst (λ (e : Pair × Pair). IsBridge side (On y) (On z) e.0 e.1) (sym k.1)
          (later_two side (On x) (On y) (On z) whole.0 whole.1 w i),
      subst (λ (e : Pair × Pair). IsBridge side (On x) (IsOnEither y z) e.0 e.1) (sym k.2)
          (outer_right side x y z split whole part h w i p),
    )
regrouped_is side Right x y z whole part split new h w p (inr k) =
    let i : On x whole.0 = elim w.from_left [ inl m ↦ m | inr m ↦ absurd (k.0 (h.begins.1 whole.0 m)) ] in (
      k.1,
      subst (λ (e : Pair × Pair). IsBridge side (On x) (IsOnEither y z) e.0 e.1) (sym k.2)
          (across_right side (On x) (On y) (On z) whole.0 whole.1 w i),
    )
regrouped_is side Left x y z whole part split new h w p (inl k) =
    let i : On y whole.1 = elim w.to_right [ inl m ↦ m | inr m ↦ absurd (h.begins.1 whole.1 m k.0) ] in (
      subst (λ (e : Pair × Pair). IsBridge side (On x) (On y) e.0 e.1) (sym k.1)
          (first_two side (On x) (On y) (On z) whole.0 whole.1 w i),
      subst (λ (e : Pair × Pair). IsBridge side (IsOnEither x y) (On z) e.0 e.1) (sym k.2)
          (outer_left side x y z split whole part h w i p),
    )
regrouped_is side Left x y z whole part split new h w p (inr k) =
    let i : On z whole.1 = elim w.to_right [ inl m ↦ absurd (k.0 (h.begins.0 whole.1 m)) | inr m ↦ m ] in (
      k.1,
      subst (λ (e : Pair × Pair). IsBridge side (IsOnEither x y) (On z) e.0 e.1) (sym k.2)
          (across_left side (On x) (On y) (On z) whole.0 whole.1 w i),
    )

-- ---- groups of four

-- a bridge whose second set is grouped in the other way
pub second_again : (side : Side) (X A B C : Pair → Type 0) (p q : Pair) → IsBridge side X (λ t. (A t ⊎ B t) ⊎ C t) p q
    → IsBridge side X (λ t. A t ⊎ (B t ⊎ C t)) p q
second_again side X A B C p q b = record {
  from_left = b.from_left;
  to_right = there q b.to_right;
  inner_left = b.inner_left;
  inner_right = λ t j. b.inner_right t (back t j);
  tie_left = b.tie_left;
  tie_right = λ t j. b.tie_right t (back t j);
}
  where
    there : (t : Pair) → (A t ⊎ B t) ⊎ C t → A t ⊎ (B t ⊎ C t)
    there t j = elim j [ inl k ↦ elim k [ inl m ↦ inl m | inr m ↦ inr (inl m) ] | inr k ↦ inr (inr k) ]

    back : (t : Pair) → A t ⊎ (B t ⊎ C t) → (A t ⊎ B t) ⊎ C t
    back t j = elim j [ inl k ↦ inl (inl k) | inr k ↦ elim k [ inl m ↦ inl (inr m) | inr m ↦ inr m ] ]

-- and one whose first set is
pub first_again : (side : Side) (A B C Z : Pair → Type 0) (p q : Pair) → IsBridge side (λ t. A t ⊎ (B t ⊎ C t)) Z p q
    → IsBridge side (λ t. (A t ⊎ B t) ⊎ C t) Z p q
first_again side A B C Z p q b = record {
  from_left = there p b.from_left;
  to_right = b.to_right;
  inner_left = λ t j. b.inner_left t (back t j);
  inner_right = b.inner_right;
  tie_left = λ t j. b.tie_left t (back t j);
  tie_right = b.tie_right;
}
  where
    there : (t : Pair) → A t ⊎ (B t ⊎ C t) → (A t ⊎ B t) ⊎ C t
    there t j = elim j [ inl k ↦ inl (inl k) | inr k ↦ elim k [ inl m ↦ inl (inr m) | inr m ↦ inr m ] ]

    back : (t : Pair) → (A t ⊎ B t) ⊎ C t → A t ⊎ (B t ⊎ C t)
    back t j = elim j [ inl k ↦ elim k [ inl m ↦ inl m | inr m ↦ inr (inl m) ] | inr k ↦ inr (inr k) ]
