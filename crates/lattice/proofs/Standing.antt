-- A bridge stays if both its ends stay and each point of the new sets was in the old ones or lies on its inner side.
use Rattle.std.proofs.Common.{◌⊎◌, refl, sym, subst, inl, inr}
use Rattle.lattice.specs.Plane.{Pair}
use Rattle.lattice.specs.Bridges.{IsBridge}
use Rattle.lattice.specs.Standing.{WithPoint, WithoutPoint, IsInnerToEdge}
use Rattle.lattice.specs.Laws.{BridgeStandsAsPointComes, BridgeStandsAsPointGoes}
use Rattle.lattice.specs.declared.side.Side.{Side}

-- the bridge of l and r is the bridge of m and n
pub stands : (side : Side) (l r m n : Pair → Type 0) (u v : Pair) → IsBridge side l r u v → m u → n v
    → ((t : Pair) → m t → l t ⊎ IsInnerToEdge side u v t) → ((t : Pair) → n t → r t ⊎ IsInnerToEdge side u v t)
    → IsBridge side m n u v
stands side l r m n u v b i j f g = record {
  from_left = i;
  to_right = j;
  inner_left = λ t h. (on_left t h).0;
  inner_right = λ t h. (on_right t h).0;
  tie_left = λ t h. (on_left t h).1;
  tie_right = λ t h. (on_right t h).1;
}
  where
    on_left : (t : Pair) → m t → IsInnerToEdge side u v t
    on_left t h = elim (f t h) [ inl k ↦ (b.inner_left t k, b.tie_left t k) | inr k ↦ k ]

    on_right : (t : Pair) → n t → IsInnerToEdge side u v t
    on_right t h = elim (g t h) [ inl k ↦ (b.inner_right t k, b.tie_right t k) | inr k ↦ k ]

-- a point of l with p is one of l, or lies on the inner side of an edge on whose inner side p lies
inner_with : (side : Side) (l : Pair → Type 0) (u v p t : Pair) → IsInnerToEdge side u v p → WithPoint p l t
    → l t ⊎ IsInnerToEdge side u v t
inner_with side l u v p t h (inl e) = inr (subst (IsInnerToEdge side u v) (sym e) h)
inner_with side l u v p t h (inr k) = inl k

-- the law of a bridge holds when a point is added
pub as_comes : (side : Side) (l r : Pair → Type 0) → BridgeStandsAsPointComes side l r
as_comes side l r u v p b = (
  (
    (λ k. (k.inner_left p (inl refl), k.tie_left p (inl refl))),
    (λ h. stands side l r (WithPoint p l) r u v b (inr b.from_left) b.to_right (λ t. inner_with side l u v p t h)
        (λ t k. inl k)),
  ),
  (
    (λ k. (k.inner_right p (inl refl), k.tie_right p (inl refl))),
    (λ h. stands side l r l (WithPoint p r) u v b b.from_left (inr b.to_right) (λ t k. inl k)
        (λ t. inner_with side r u v p t h)),
  ),
)

-- the law of a bridge holds when a point is removed
pub as_goes : (side : Side) (l r : Pair → Type 0) → BridgeStandsAsPointGoes side l r
as_goes side l r u v p b = (
  (
    (λ k. k.from_left.0),
    (λ h. stands side l r (WithoutPoint p l) r u v b (h, b.from_left) b.to_right (λ t k. inl k.1) (λ t k. inl k)),
  ),
  (
    (λ k. k.to_right.0),
    (λ h. stands side l r l (WithoutPoint p r) u v b b.from_left (h, b.to_right) (λ t k. inl k) (λ t k. inl k.1)),
  ),
)
