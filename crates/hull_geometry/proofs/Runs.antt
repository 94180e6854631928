-- The edge between two slices of vertices is their bridge: a point between its ends is on the other chain, and so
-- strictly inwards of it; a point beyond an end is inwards of it since that end is a vertex of the chain.
use Rattle.std.proofs.Common.{◌≡◌, ◌∙◌, pos, neg_ℤ, ◌<ℤ◌, ◌⊎◌, inl, inr, sym, subst, List}
use Rattle.std.specs.List.{Contains}
use Rattle.lattice.specs.Plane.{Pair, IsBefore}
use Rattle.lattice.specs.Signs.{le_or_lt}
use Rattle.lattice.specs.Standing.{IsInnerToEdge}
use Rattle.lattice.specs.Orientations.{orient_on}
use Rattle.lattice.specs.declared.side.Side.{Side}
use Rattle.lattice.specs.declared.side.Side.TheVariants.{Lower, Upper}
use Rattle.lattice.proofs.Numbers.{nn_opposite}
use Rattle.lattice.proofs.Order.{before_total}
use Rattle.hull_geometry.specs.Monotone.{IsChainOf}
use Rattle.hull_geometry.specs.Runs.{opposite, RunsHaveTheirBridge}
use Rattle.hull_geometry.proofs.CandidateListChains.{vertex_outwards}
use Rattle.hull_geometry.proofs.Fringed.{strictly_inner, start_inner, end_inner}
use Rattle.hull_geometry.proofs.Orientations.{orient_on_cycle, orient_on_swap}
use Rattle.lattice.proofs.LineCrossings.{orient_other}

-- an orientation on the other side is the negated one
orient_on_opposite : (side : Side) (a b t : Pair) → orient_on (opposite side) a b t ≡ neg_ℤ (orient_on side a b t)
orient_on_opposite Lower a b t = orient_other a b t
orient_on_opposite Upper a b t = orient_other b a t

-- a vertex of the other chain between a and b is strictly inwards of the edge
between : (side : Side) (S other : List Pair) (a b t : Pair) → IsChainOf (opposite side) S other → Contains other t
    → Contains S a → Contains S b → IsBefore a t → IsBefore t b → pos 0 <ℤ orient_on side a b t
between side S other a b t c m ma mb at tb = elim (le_or_lt (orient_on side a b t) (pos 0)) [
  | inl h ↦ absurd (vertex_outwards (opposite side) S other t a b c m ma mb
      (at, tb, nn_opposite _ _ (orient_on_opposite side a b t) h))
  | inr h ↦ h
]

-- a point after b, a vertex of the chain, is inwards of the edge
after : (side : Side) (S chain : List Pair) (a b t : Pair) → IsChainOf side S chain → Contains chain b → Contains S a
    → Contains S t → IsBefore a b → IsBefore b t → pos 0 <ℤ orient_on side a b t
after side S chain a b t c m ma mt ab bt = elim (le_or_lt (orient_on side a b t) (pos 0)) [
  | inl h ↦ absurd (vertex_outwards side S chain b a t c m ma mt (ab, bt, nn_opposite _ _ (orient_on_swap side a b t) h))
  | inr h ↦ h
]

-- a point before a, a vertex of the chain, is inwards of the edge
ahead : (side : Side) (S chain : List Pair) (a b t : Pair) → IsChainOf side S chain → Contains chain a → Contains S b
    → Contains S t → IsBefore a b → IsBefore t a → pos 0 <ℤ orient_on side a b t
ahead side S chain a b t c m mb mt ab ta = elim (le_or_lt (orient_on side a b t) (pos 0)) [
  | inl h ↦ absurd (vertex_outwards side S chain a t b c m mt mb (ta, ab, nn_opposite _ _ swapped h))
  | inr h ↦ h
]
  where
    swapped : orient_on side t b a ≡ neg_ℤ (orient_on side a b t)
    swapped = orient_on_cycle side t b a ∙ orient_on_cycle side b a t ∙ orient_on_swap side a b t

-- the edge between two slices is their bridge
pub runs_bridge : (side : Side) (l r : Pair → Type 0) → RunsHaveTheirBridge side l r
runs_bridge side l r S chain other a b c o p = record {
  from_left = p.from_left;
  to_right = p.to_right;
  inner_left = λ t i. (on_left t i).0;
  inner_right = λ t i. (on_right t i).0;
  tie_left = λ t i. (on_left t i).1;
  tie_right = λ t i. (on_right t i).1;
}
  where
    ab : IsBefore a b
    ab = p.separated a b p.from_left p.to_right

    member : (t : Pair) → Contains chain t ⊎ Contains other t → Contains S t
    member t (inl m) = c.among t m
    member t (inr m) = o.among t m

    in_left : (t : Pair) → l t → Contains S t
    in_left t i = member t (p.left_vertices t i)

    in_right : (t : Pair) → r t → Contains S t
    in_right t i = member t (p.right_vertices t i)

    on_other : (t : Pair) → Contains chain t ⊎ Contains other t → ¬ Contains chain t → Contains other t
    on_other t (inl m) n = absurd (n m)
    on_other t (inr m) n = m

    on_left : (t : Pair) → l t → IsInnerToEdge side a b t
    on_left t i = elim (before_total a t) [
      | inl at ↦ strictly_inner side a b t
          (between side S other a b t o (on_other t (p.left_vertices t i) (p.none_after t i at)) (in_left a p.from_left)
          (in_right b p.to_right) at (p.separated t b i p.to_right))
      | inr (inl e) ↦ subst (IsInnerToEdge side a b) e (start_inner side a b ab)
      | inr (inr ta) ↦ elim p.left_end [
        | inl m ↦ strictly_inner side a b t
            (ahead side S chain a b t c m (in_right b p.to_right) (in_left t i) ab ta)
        | inr n ↦ absurd (n t i ta)
      ]
    ]

    on_right : (t : Pair) → r t → IsInnerToEdge side a b t
    on_right t i = elim (before_total t b) [
      | inl tb ↦ strictly_inner side a b t
          (between side S other a b t o (on_other t (p.right_vertices t i) (p.none_ahead t i tb))
          (in_left a p.from_left) (in_right b p.to_right) (p.separated a t p.from_left i) tb)
      | inr (inl e) ↦ subst (IsInnerToEdge side a b) (sym e) (end_inner side a b ab)
      | inr (inr bt) ↦ elim p.right_end [
        | inl m ↦ strictly_inner side a b t
            (after side S chain a b t c m (in_left a p.from_left) (in_right t i) ab bt)
        | inr n ↦ absurd (n t i bt)
      ]
    ]
