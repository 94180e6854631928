-- Points under an edge do not matter to a bridge.
use Rattle.std.proofs.lemmas.Grind.{common_steps}
use Rattle.std.proofs.Common.{◌≡◌, ℤ, pos, ◌≤ℤ◌, ◌<ℤ◌, ◌⊎◌, inl, inr, refl, sym, subst, arith, List, [], ◌∷◌, suc}
use Rattle.std.specs.List.{Contains}
use Rattle.lattice.specs.Bridges.{IsAllBefore, IsBridge, IsInner}
use Rattle.lattice.specs.Plane.{Pair, orient, IsBefore}
use Rattle.lattice.specs.Signs.{le_or_lt}
use Rattle.lattice.specs.Standing.{WithPoint, IsInnerToEdge}
use Rattle.lattice.specs.Orientations.{orient_on}
use Rattle.lattice.specs.declared.side.Side.{Side}
use Rattle.lattice.specs.declared.side.Side.TheVariants.{Lower, Upper}
use Rattle.lattice.proofs.Numbers.{nn_above, nn_opposite, np_opposite, zero_opposite, zero_between, nn_not_below}
use Rattle.lattice.proofs.Numbers.{np_by, above_not_np}
use Rattle.lattice.proofs.Order.{before_trans, before_irrefl, before_not}
use Rattle.lattice.proofs.UniqueBridge.{one_bridge, one_lower_bridge}
use Rattle.hull_geometry.specs.CandidateLists.{UnderAnEdgeIsInner, IsCandidateList, BridgeIsOfCandidateLists, ChainIsACandidateList}
use Rattle.hull_geometry.specs.CandidateLists.{BridgeEndsAtWhatCame}
use Rattle.hull_geometry.specs.Monotone.{IsInwards, IsInnerFrom}
use Rattle.hull_geometry.specs.Monotone as monotone
use Rattle.hull_geometry.proofs.Orientations.{stays_outwards, stays_first, stays_second, orient_on_start, orient_on_end}
use Rattle.lattice.proofs.LineCrossings.{orient_other}
use Rattle.hull_geometry.proofs.Touching.{straight}

-- ---- inner to an edge, by orientations

-- a point inner to a line is not outwards of it
to_orient_on : (side : Side) (u v t : Pair) → IsInner side (orient u v t) → pos 0 ≤ℤ orient_on side u v t
to_orient_on Lower u v t h = h
to_orient_on Upper u v t h = nn_opposite _ _ (orient_other u v t) h

-- a point not outwards of a line is inner to it
from_orient_on : (side : Side) (u v t : Pair) → pos 0 ≤ℤ orient_on side u v t → IsInner side (orient u v t)
from_orient_on Lower u v t h = h
from_orient_on Upper u v t h = np_opposite _ _ (orient_other v u t) h

-- a point on a line is on it on either side
to_none : (side : Side) (u v t : Pair) → orient u v t ≡ pos 0 → orient_on side u v t ≡ pos 0
to_none Lower u v t e = e
to_none Upper u v t e = zero_opposite _ _ (orient_other u v t) e

-- a number that is 0 is at most 0
at_most : (x : ℤ) → x ≡ pos 0 → x ≤ℤ pos 0
at_most x e = np_by x (pos 0) e (omega arith)

-- a point strictly inwards of a line is inner to each edge along it
pub strictly_inner : (side : Side) (u v t : Pair) → pos 0 <ℤ orient_on side u v t → IsInnerToEdge side u v t
strictly_inner side u v t h = grind (arith, common_steps, from_orient_on, nn_above, above_not_np, to_none)

-- the start of an edge is inner to it
pub start_inner : (side : Side) (u v : Pair) → IsBefore u v → IsInnerToEdge side u v u
start_inner side u v uv = grind (arith, common_steps, from_orient_on, pos, orient_on_start, before_irrefl, before_not)

-- the end of an edge is inner to it
pub end_inner : (side : Side) (u v : Pair) → IsBefore u v → IsInnerToEdge side u v v
end_inner side u v uv = grind (arith, common_steps, from_orient_on, pos, orient_on_end, before_not, before_irrefl)

-- ---- under an edge

-- a point that is inner to an edge and before its start lies strictly inwards of its line
strictly_before : (side : Side) (u v a : Pair) → IsBefore a u → IsInnerToEdge side u v a → pos 0 <ℤ orient_on side u v a
strictly_before side u v a au h = elim (le_or_lt (orient_on side u v a) (pos 0)) [
  | inl k ↦ absurd ((h.1 (straight side u v a (zero_between _ (to_orient_on side u v a h.0) k))).0 au)
  | inr k ↦ k
]

-- a point that is inner to an edge and after its end lies strictly inwards of its line
strictly_after : (side : Side) (u v b : Pair) → IsBefore v b → IsInnerToEdge side u v b → pos 0 <ℤ orient_on side u v b
strictly_after side u v b vb h = elim (le_or_lt (orient_on side u v b) (pos 0)) [
  | inl k ↦ absurd ((h.1 (straight side u v b (zero_between _ (to_orient_on side u v b h.0) k))).1 vb)
  | inr k ↦ k
]

-- a point inwards of a segment is inner to each edge to which the segment's two ends are inner
pub under_is_inner : (side : Side) → UnderAnEdgeIsInner side
under_is_inner side u v a b t uv k ha hb = (inwards, λ e. (not_ahead e, not_behind e))
  where
    inwards : IsInner side (orient u v t)
    inwards = elim (le_or_lt (pos 0) (orient_on side u v t)) [
      | inl h ↦ from_orient_on side u v t h
      | inr h ↦ absurd (nn_not_below _ k.2
          (stays_outwards side u v a t b uv k.0 k.1 h (to_orient_on side u v a ha.0) (to_orient_on side u v b hb.0)))
    ]

    not_ahead : orient u v t ≡ pos 0 → ¬ IsBefore t u
    not_ahead e h = nn_not_below _ k.2
        (stays_first side u v a t b uv k.0 k.1 (at_most _ (to_none side u v t e))
        (strictly_before side u v a (before_trans a t u k.0 h) ha) (to_orient_on side u v b hb.0))

    not_behind : orient u v t ≡ pos 0 → ¬ IsBefore v t
    not_behind e h = nn_not_below _ k.2
        (stays_second side u v a t b uv k.0 k.1 (at_most _ (to_none side u v t e)) (to_orient_on side u v a ha.0)
        (strictly_after side u v b (before_trans v t b h k.1) hb))

-- the start of an edge does not lie inwards of a segment between two points that are inner to it
start_is_no_under : (side : Side) (u v a b : Pair) → IsBefore u v → IsInwards side a b u → IsInnerToEdge side u v a
    → IsInnerToEdge side u v b → ⊥
start_is_no_under side u v a b uv k ha hb = nn_not_below _ k.2
    (stays_first side u v a u b uv k.0 k.1 (at_most _ (orient_on_start side u v)) (strictly_before side u v a k.0 ha)
    (to_orient_on side u v b hb.0))

-- the end of an edge does not lie inwards of such a segment
end_is_no_under : (side : Side) (u v a b : Pair) → IsBefore u v → IsInwards side a b v → IsInnerToEdge side u v a
    → IsInnerToEdge side u v b → ⊥
end_is_no_under side u v a b uv k ha hb = nn_not_below _ k.2
    (stays_second side u v a v b uv k.0 k.1 (at_most _ (orient_on_end side u v)) (to_orient_on side u v a ha.0)
    (strictly_after side u v b k.1 hb))

-- ---- candidate lists

-- if all points of a candidate list are inner to an edge, all points of its set are
pub all_inner : (side : Side) (l m : Pair → Type 0) (u v : Pair) → IsCandidateList side l m → IsBefore u v
    → ((t : Pair) → l t → IsInnerToEdge side u v t) → (t : Pair) → m t → IsInnerToEdge side u v t
all_inner side l m u v f uv h t i = elim (f.under t i) [
  | inl k ↦ h t k
  | inr k ↦ under_is_inner side u v k.0 k.1 t uv k.4 (h k.0 k.2) (h k.1 k.3)
]

-- two sets have the bridges of their candidate lists
pub of_candidate_lists : (side : Side) (l m r s : Pair → Type 0) → BridgeIsOfCandidateLists side l m r s
of_candidate_lists side l m r s u v f g o = (there, back)
  where
    there : IsBridge side l r u v → IsBridge side m s u v
    there b = record {
      from_left = f.among u b.from_left;
      to_right = g.among v b.to_right;
      inner_left = λ t i. (on_left t i).0;
      inner_right = λ t i. (on_right t i).0;
      tie_left = λ t i. (on_left t i).1;
      tie_right = λ t i. (on_right t i).1;
    }
      where
        uv : IsBefore u v
        uv = o u v (f.among u b.from_left) (g.among v b.to_right)

        on_left : (t : Pair) → m t → IsInnerToEdge side u v t
        on_left = all_inner side l m u v f uv (λ t i. (b.inner_left t i, b.tie_left t i))

        on_right : (t : Pair) → s t → IsInnerToEdge side u v t
        on_right = all_inner side r s u v g uv (λ t i. (b.inner_right t i, b.tie_right t i))

    back : IsBridge side m s u v → IsBridge side l r u v
    back b = record {
      from_left = elim (f.under u b.from_left) [
        | inl k ↦ k
        | inr k ↦ absurd (start_is_no_under side u v k.0 k.1 uv k.4 (left k.0 k.2) (left k.1 k.3))
      ];
      to_right = elim (g.under v b.to_right) [
        | inl k ↦ k
        | inr k ↦ absurd (end_is_no_under side u v k.0 k.1 uv k.4 (right k.0 k.2) (right k.1 k.3))
      ];
      inner_left = λ t i. (left t i).0;
      inner_right = λ t i. (right t i).0;
      tie_left = λ t i. (left t i).1;
      tie_right = λ t i. (right t i).1;
    }
      where
        uv : IsBefore u v
        uv = o u v b.from_left b.to_right

        left : (t : Pair) → l t → IsInnerToEdge side u v t
        left t i = (b.inner_left t (f.among t i), b.tie_left t (f.among t i))

        right : (t : Pair) → r t → IsInnerToEdge side u v t
        right t i = (b.inner_right t (g.among t i), b.tie_right t (g.among t i))

-- a candidate list with more points of the set is a candidate list
pub wider_candidates : (side : Side) (l k m : Pair → Type 0) → IsCandidateList side l m → ((t : Pair) → l t → k t)
    → ((t : Pair) → k t → m t) → IsCandidateList side k m
wider_candidates side l k m f in_k in_m = record {
  among = in_m;
  under = λ t i. elim (f.under t i)
      [ inl h ↦ inl (in_k t h) | inr h ↦ inr (h.0, h.1, in_k h.0 h.2, in_k h.1 h.3, h.4) ];
}

-- two candidate lists together are one of both sets together
pub both_candidate_lists : (side : Side) (l m r s : Pair → Type 0) → IsCandidateList side l m → IsCandidateList side r s
    → IsCandidateList side (λ t. l t ⊎ r t) (λ t. m t ⊎ s t)
both_candidate_lists side l m r s f g = record {
  among = λ t i. elim i [ inl k ↦ inl (f.among t k) | inr k ↦ inr (g.among t k) ];
  under = λ t i. elim i [
    | inl k ↦ elim (f.under t k) [ inl h ↦ inl (inl h) | inr h ↦ inr (h.0, h.1, inl h.2, inl h.3, h.4) ]
    | inr k ↦ elim (g.under t k) [ inl h ↦ inl (inr h) | inr h ↦ inr (h.0, h.1, inr h.2, inr h.3, h.4) ]
  ];
}

-- a point that is inner to a list is one of its points, or lies inwards of a segment between two, by recursion
whence_from : (side : Side) (x : Pair) (rest : List Pair) (t : Pair) → IsInnerFrom side x rest t
    → Contains rest t
    ⊎ ((a b : Pair) × Contains (x ∷ rest) a × Contains (x ∷ rest) b × IsInwards side a b t)
whence_from side x [] t k = elim k [ ]
whence_from side x (y ∷ ys) t (inl e) = inl (0, omega arith, sym e)
whence_from side x (y ∷ ys) t (inr (inl k)) = inr (x, y, (0, omega arith, refl), (1, omega arith, refl), k)
whence_from side x (y ∷ ys) t (inr (inr k)) = elim (whence_from side y ys t k) [
  | inl m ↦ inl (further ys y t m)
  | inr m ↦ inr (m.0, m.1, further (y ∷ ys) x m.0 m.2, further (y ∷ ys) x m.1 m.3, m.4)
]
  where
    further : (zs : List Pair) (z t : Pair) → Contains zs t → Contains (z ∷ zs) t
    further zs z t (i, l, e) = (suc i, omega (arith, l), e)

-- the chain of a set is a candidate list of it
pub chain_candidates : (side : Side) → ChainIsACandidateList side
chain_candidates side S [] c = record {
  among = c.among;
  under = λ t m. elim (c.inner t m) [ ];
}
chain_candidates side S (x ∷ rest) c = record {
  among = c.among;
  under = λ t m. whence t (c.inner t m);
}
  where
    whence : (t : Pair) → monotone.IsInner side (x ∷ rest) t → Contains (x ∷ rest) t
        ⊎ ((a b : Pair) × Contains (x ∷ rest) a × Contains (x ∷ rest) b × IsInwards side a b t)
    whence t (inl e) = inl (0, omega arith, sym e)
    whence t (inr k) = elim (whence_from side x rest t k) [
      | inl m ↦ inl (suc m.0, omega (arith, m.1), m.2)
      | inr m ↦ inr m
    ]

-- ---- a point that was added

-- two sets have one bridge on a side
bridge_unique : (side : Side) (l r : Pair → Type 0) (p q a b : Pair) → IsAllBefore l r → IsBridge side l r p q
    → IsBridge side l r a b → (p ≡ a) × (q ≡ b)
bridge_unique Lower l r p q a b o h k = one_lower_bridge l r p q a b o h k
bridge_unique Upper l r p q a b o h k = one_bridge l r p q a b o h k

-- a point inner to one bridge of two sets is inner to the other, since the two are equal
inner_to_old : (side : Side) (l r : Pair → Type 0) (u v p a b : Pair) → IsAllBefore l r → IsBridge side l r u v
    → IsBridge side l r a b → IsInnerToEdge side a b p → IsInnerToEdge side u v p
inner_to_old side l r u v p a b o old again h =
    let same = bridge_unique side l r a b u v o again old in
    subst (λ (w : Pair). IsInnerToEdge side u w p) same.1 (subst (λ (w : Pair). IsInnerToEdge side w b p) same.0 h)

-- if a point outwards of the old bridge is added, the new bridge ends at it
pub ends_there : (side : Side) (l r : Pair → Type 0) → BridgeEndsAtWhatCame side l r
ends_there side l r u v p a b o old out = (
  λ new. elim new.from_left [
    | inl e ↦ e
    | inr k ↦ absurd (out (inner_to_old side l r u v p a b o old (without_left new k)
        (new.inner_left p (inl refl), new.tie_left p (inl refl))))
  ],
  λ new. elim new.to_right [
    | inl e ↦ e
    | inr k ↦ absurd (out (inner_to_old side l r u v p a b o old (without_right new k)
        (new.inner_right p (inl refl), new.tie_right p (inl refl))))
  ],
)
  where
    without_left : IsBridge side (WithPoint p l) r a b → l a → IsBridge side l r a b
    without_left new k = record {
      from_left = k;
      to_right = new.to_right;
      inner_left = λ t i. new.inner_left t (inr i);
      inner_right = new.inner_right;
      tie_left = λ t i. new.tie_left t (inr i);
      tie_right = new.tie_right;
    }

    without_right : IsBridge side l (WithPoint p r) a b → r b → IsBridge side l r a b
    without_right new k = record {
      from_left = new.from_left;
      to_right = k;
      inner_left = new.inner_left;
      inner_right = λ t i. new.inner_right t (inr i);
      tie_left = new.tie_left;
      tie_right = λ t i. new.tie_right t (inr i);
    }
