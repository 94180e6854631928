-- The results of passes over points in order: how two passes compose, and when one may stop early.
use Rattle.std.proofs.Common.{◌≡◌, ◌<ℤ◌, ◌≤ℤ◌, pos, ◌⊎◌, inl, inr, refl, sym, ap, ◌∙◌, subst, List, arith, zero, suc}
use Rattle.std.proofs.Common.{[], ◌∷◌, ◌++◌, ◌<◌, ◌+◌, ◌-◌, length, length-append, get_or, take, drop, ℕ}
use Rattle.std.specs.List.{Contains}
use Rattle.std.proofs.lemmas.List.Elements.{Contains-append_left, Contains-append_right}
use Rattle.std.proofs.lemmas.List.Elements.{Contains-append_cases}
use Rattle.std.proofs.lemmas.Bool.{cases_lt}
use Rattle.std.proofs.lemmas.Grind.{common_steps}
use Rattle.lattice.specs.Covers.{IsPointSet}
use Rattle.lattice.specs.Plane.{Pair}
use Rattle.hull_geometry.specs.Edges.{end_of}
use Rattle.hull_geometry.specs.Monotone.{IsInwards, IsInnerFrom, IsInner, IsConvexFrom, IsConvex, IsStrict}
use Rattle.lattice.specs.Orientations.{orient_on}
use Rattle.hull_geometry.specs.Monotone.{EndsInwards, EndsWith, IsPassed, IsThinned}
use Rattle.hull_geometry.specs.Positions.{point_at, origin}
use Rattle.lattice.specs.declared.side.Side.{Side}
use Rattle.hull_geometry.proofs.ChainPasses.{take_next}
use Rattle.hull_geometry.proofs.PointSets.{set_left, set_right, set_apart, set_append}
use Rattle.hull_geometry.proofs.PointLists.{append_none, append_twice, get_or_free, cut, cut_at}

-- ---- points that are inner to two lists in a row

-- the list ends with d, and u is inwards of the segment from d to y
abbrev Across : Side → List Pair → Pair → Pair → Type 0
Across side xs y u = (d : Pair) × EndsWith d xs × IsInwards side d y u

-- the same by recursion, after a point
cut_from : (side : Side) (x : Pair) (xs : List Pair) (y : Pair) (rest : List Pair) (u : Pair)
    → IsInnerFrom side x (xs ++ y ∷ rest) u
    → IsInnerFrom side x xs u ⊎ (Across side (x ∷ xs) y u ⊎ IsInner side (y ∷ rest) u)
cut_from side x [] y rest u (inl e) = inr (inr (inl e))
cut_from side x [] y rest u (inr (inl k)) = inr (inl (x, refl, k))
cut_from side x [] y rest u (inr (inr k)) = inr (inr (inr k))
cut_from side x (z ∷ zs) y rest u (inl e) = inl (inl e)
cut_from side x (z ∷ zs) y rest u (inr (inl k)) = inl (inr (inl k))
cut_from side x (z ∷ zs) y rest u (inr (inr k)) = elim (cut_from side z zs y rest u k)
    [ inl m ↦ inl (inr (inr m)) | inr m ↦ inr m ]

-- a point that is inner to two lists is inner to the front, to the rest, or inwards of the segment between them
pub inner_cut : (side : Side) (xs : List Pair) (y : Pair) (rest : List Pair) (u : Pair)
    → IsInner side (xs ++ y ∷ rest) u → IsInner side xs u ⊎ (Across side xs y u ⊎ IsInner side (y ∷ rest) u)
inner_cut side [] y rest u k = inr (inr k)
inner_cut side (x ∷ xs) y rest u (inl e) = inl (inl e)
inner_cut side (x ∷ xs) y rest u (inr k) = elim (cut_from side x xs y rest u k)
    [ inl m ↦ inl (inr m) | inr m ↦ inr m ]

-- the same by recursion, after a point
left_from : (side : Side) (x : Pair) (xs ys : List Pair) (u : Pair) → IsInnerFrom side x xs u
    → IsInnerFrom side x (xs ++ ys) u
left_from side x [] ys u k = elim k [ ]
left_from side x (z ∷ zs) ys u (inl e) = inl e
left_from side x (z ∷ zs) ys u (inr (inl k)) = inr (inl k)
left_from side x (z ∷ zs) ys u (inr (inr k)) = inr (inr (left_from side z zs ys u k))

-- a point that is inner to the front is inner to both
pub inner_left : (side : Side) (xs ys : List Pair) (u : Pair) → IsInner side xs u → IsInner side (xs ++ ys) u
inner_left side [] ys u k = elim k [ ]
inner_left side (x ∷ xs) ys u (inl e) = inl e
inner_left side (x ∷ xs) ys u (inr k) = inr (left_from side x xs ys u k)

-- a point that is inner to the rest is inner to both, after a point
right_from : (side : Side) (x : Pair) (xs ys : List Pair) (u : Pair) → IsInner side ys u
    → IsInnerFrom side x (xs ++ ys) u
right_from side x [] [] u k = elim k [ ]
right_from side x [] (y ∷ ys) u (inl e) = inl e
right_from side x [] (y ∷ ys) u (inr k) = inr (inr k)
right_from side x (z ∷ zs) ys u k = inr (inr (right_from side z zs ys u k))

-- a point that is inner to the rest is inner to both
pub inner_right : (side : Side) (xs ys : List Pair) (u : Pair) → IsInner side ys u → IsInner side (xs ++ ys) u
inner_right side [] ys u k = k
inner_right side (x ∷ xs) ys u k = inr (right_from side x xs ys u k)

-- a point inwards of the segment between them is inner to both, after a point
across_from : (side : Side) (x : Pair) (xs : List Pair) (y : Pair) (rest : List Pair) (u : Pair)
    → IsInwards side (end_of x xs) y u → IsInnerFrom side x (xs ++ y ∷ rest) u
across_from side x [] y rest u k = inr (inl k)
across_from side x (z ∷ zs) y rest u k = inr (inr (across_from side z zs y rest u k))

-- a point inwards of the segment between them is inner to both
pub inner_across : (side : Side) (xs : List Pair) (d y : Pair) (rest : List Pair) (u : Pair) → EndsWith d xs
    → IsInwards side d y u → IsInner side (xs ++ y ∷ rest) u
inner_across side [] d y rest u e k = absurd e
inner_across side (x ∷ xs) d y rest u e k =
    inr (across_from side x xs y rest u (subst (λ (z : Pair). IsInwards side z y u) (sym e) k))

-- a member of a list is inner to it
pub member_inner : (side : Side) (xs : List Pair) (u : Pair) → Contains xs u → IsInner side xs u
member_inner side [] u m = absurd (omega (arith, m.1))
member_inner side (x ∷ xs) u (zero, l, e) = inl (sym e)
member_inner side (x ∷ xs) u (suc k, l, e) =
    inr (right_from side x [] xs u (member_inner side xs u (k, omega (arith, l), e)))

-- ---- ends

-- the end of two lists in a row is that of the second, after a point
pub end_from : (x : Pair) (xs : List Pair) (y : Pair) (rest : List Pair) → end_of x (xs ++ y ∷ rest) ≡ end_of y rest
end_from x [] y rest = refl
end_from x (z ∷ zs) y rest = end_from z zs y rest

-- the end of the rest is that of both
pub ends_right : (c : Pair) (xs ys : List Pair) → EndsWith c ys → EndsWith c (xs ++ ys)
ends_right c xs [] e = absurd e
ends_right c [] (y ∷ ys) e = e
ends_right c (x ∷ xs) (y ∷ ys) e = end_from x xs y ys ∙ e

-- the end of both is that of the rest, if it has a point
ends_back : (c : Pair) (xs : List Pair) (y : Pair) (rest : List Pair) → EndsWith c (xs ++ y ∷ rest)
    → EndsWith c (y ∷ rest)
ends_back c [] y rest e = e
ends_back c (x ∷ xs) y rest e = sym (end_from x xs y rest) ∙ e

-- two lists with the same point added have the same end
pub pushed_ends : (xs ys : List Pair) (p c : Pair) → EndsWith c (xs ++ p ∷ []) → EndsWith c (ys ++ p ∷ [])
pushed_ends xs ys p c e = ends_right c ys (p ∷ []) (ends_back c xs p [] e)

-- ---- convex lists

-- the front of a convex list is convex, after a point
convex_left_from : (side : Side) (x : Pair) (xs ys : List Pair) → IsConvexFrom side x (xs ++ ys)
    → IsConvexFrom side x xs
convex_left_from side x [] ys h = tt
convex_left_from side x (z ∷ []) ys h = (tt, tt)
convex_left_from side x (z ∷ w ∷ ws) ys h = (h.0, convex_left_from side z (w ∷ ws) ys h.1)

-- the front of a convex list is convex
pub convex_left : (side : Side) (xs ys : List Pair) → IsConvex side (xs ++ ys) → IsConvex side xs
convex_left side [] ys h = tt
convex_left side (x ∷ xs) ys h = convex_left_from side x xs ys h

-- its first points are convex
pub convex_take : (side : Side) (n : ℕ) (xs : List Pair) → IsConvex side xs → IsConvex side (take n xs)
convex_take side n xs h = elim (cases_lt n (length xs)) [
  | inl l ↦ convex_left side (take n xs) (drop n xs) (subst (IsConvex side) (cut xs n (omega (arith, l))) h)
  | inr l ↦ let e : take n xs ≡ xs = grind (arith, common_steps, l) in subst (IsConvex side) (sym e) h
]

-- the rest of a convex list is convex, after a point
convex_right_from : (side : Side) (x : Pair) (xs ys : List Pair) → IsConvexFrom side x (xs ++ ys) → IsConvex side ys
convex_right_from side x [] [] h = tt
convex_right_from side x [] (y ∷ ys) h = h.1
convex_right_from side x (z ∷ zs) ys h = convex_right_from side z zs ys h.1

-- the rest of a convex list is convex
pub convex_right : (side : Side) (xs ys : List Pair) → IsConvex side (xs ++ ys) → IsConvex side ys
convex_right side [] ys h = h
convex_right side (x ∷ xs) ys h = convex_right_from side x xs ys h

-- its last points are convex
pub convex_drop : (side : Side) (n : ℕ) (xs : List Pair) → IsConvex side xs → IsConvex side (drop n xs)
convex_drop side n xs h = elim (cases_lt n (length xs)) [
  | inl l ↦ convex_right side (take n xs) (drop n xs) (subst (IsConvex side) (cut xs n (omega (arith, l))) h)
  | inr l ↦ let e : drop n xs ≡ [] = grind (arith, common_steps, l) in subst (IsConvex side) (sym e) tt
]

-- two convex lists of which the second begins with the two last points of the first are one, after a point
convex_join_from : (side : Side) (x : Pair) (front : List Pair) (a b : Pair) (rest : List Pair)
    → IsConvexFrom side x (front ++ a ∷ b ∷ []) → IsConvex side (a ∷ b ∷ rest)
    → IsConvexFrom side x (front ++ a ∷ b ∷ rest)
convex_join_from side x [] a b rest h k = (h.0, k)
convex_join_from side x (y ∷ []) a b rest h k = (h.0, convex_join_from side y [] a b rest h.1 k)
convex_join_from side x (y ∷ z ∷ zs) a b rest h k = (h.0, convex_join_from side y (z ∷ zs) a b rest h.1 k)

-- two convex lists of which the second begins with the two last points of the first are one
pub convex_join : (side : Side) (front : List Pair) (a b : Pair) (rest : List Pair)
    → IsConvex side (front ++ a ∷ b ∷ []) → IsConvex side (a ∷ b ∷ rest) → IsConvex side (front ++ a ∷ b ∷ rest)
convex_join side [] a b rest h k = k
convex_join side (x ∷ front) a b rest h k = convex_join_from side x front a b rest h k

-- a list is its front and its last two points
last_two : (xs : List Pair) (a b : Pair) → 1 < length xs → a ≡ get_or xs (length xs - 2) a
    → b ≡ get_or xs (length xs - 1) b → xs ≡ take (length xs - 2) xs ++ a ∷ b ∷ []
last_two xs a b l ea eb = grind (arith, common_steps, ea, eb)

-- a convex list with a point added stays convex if its last point lies outwards
pub convex_push : (side : Side) (chain : List Pair) (a b c : Pair) → 1 < length chain
    → a ≡ get_or chain (length chain - 2) a → b ≡ get_or chain (length chain - 1) b → IsConvex side chain
    → pos 0 <ℤ orient_on side a b c → IsConvex side (chain ++ c ∷ [])
convex_push side chain a b c l ea eb h k =
    let front = take (length chain - 2) chain in
    let e : chain ≡ front ++ a ∷ b ∷ [] = last_two chain a b l ea eb in
    subst (IsConvex side) (sym (append_twice front (a ∷ b ∷ []) (c ∷ [])) ∙ ap (λ (z : List Pair). z ++ c ∷ []) (sym e))
    (convex_join side front a b (c ∷ []) (subst (IsConvex side) e h) (k, (tt, tt)))

-- a list ends inwards if its last point does not lie outwards of the segment from the one before it to c
pub ends_inwards_of : (side : Side) (chain : List Pair) (a b c : Pair) → 1 < length chain
    → a ≡ get_or chain (length chain - 2) a → b ≡ get_or chain (length chain - 1) b → orient_on side a b c ≤ℤ pos 0
    → EndsInwards side chain c
ends_inwards_of side chain a b c l ea eb h =
    let next : length chain - 2 + 1 ≡ length chain - 1 = omega (arith, l) in
    record {
      front = take (length chain - 2) chain;
      a = a;
      b = b;
      whole = last_two chain a b l ea eb;
      kept = ap (λ (n : ℕ). take n chain) (sym next) ∙ take_next chain (length chain - 2) a (omega (arith, l)) ea;
      inwards = h;
    }

-- ---- passes

-- a member of either of two lists in a row, of which the front has its members from another
pub from_front : (xs ys zs : List Pair) → ((t : Pair) → Contains ys t → Contains xs t) → (t : Pair)
    → Contains (ys ++ zs) t → Contains (xs ++ zs) t
from_front xs ys zs h t m = elim (Contains-append_cases ys zs t m)
    [ inl k ↦ Contains-append_left xs zs t (h t k) | inr k ↦ Contains-append_right xs zs t k ]

-- a strict chain is the result of a pass over it
pub passed_itself : (side : Side) (xs : List Pair) → IsStrict side xs → IsPassed side xs xs
passed_itself side xs s =
    record { strict = s; among = λ t m. m; inner = λ u k. k; ends = λ c e. e; short = omega arith }

-- a set of which no point is removed is left as it is
pub thinned_itself : (side : Side) (xs : List Pair) → IsPointSet xs → IsThinned side xs xs
thinned_itself side xs s =
    record { ordered = s; among = λ t m. m; inner = λ u k. k; ends = λ c e. e; short = omega arith }

-- the result of a pass over a list is a list without some inner points
pub thinned_of : (side : Side) (xs ys : List Pair) → IsPassed side xs ys → IsThinned side xs ys
thinned_of side xs ys p =
    record { ordered = p.strict.ordered; among = p.among; inner = p.inner; ends = p.ends; short = p.short }

-- such a list that bends is the result of a pass
pub passed_of : (side : Side) (xs ys : List Pair) → IsThinned side xs ys → IsConvex side ys → IsPassed side xs ys
passed_of side xs ys p h =
    record {
      strict = record {
        ordered = p.ordered;
        convex = h;
      };
      among = p.among;
      inner = p.inner;
      ends = p.ends;
      short = p.short;
    }

-- a point inner to a list and more is inner to what is left of the list and more
inner_with : (side : Side) (xs ys zs : List Pair) (u : Pair) → IsThinned side xs ys → IsInner side (xs ++ zs) u
    → IsInner side (ys ++ zs) u
inner_with side xs ys [] u p k =
    inner_left side ys [] u (p.inner u (subst (λ (l : List Pair). IsInner side l u) (sym (append_none xs)) k))
inner_with side xs ys (z ∷ zs) u p k = grind (arith, common_steps, inner_cut, inner_left, inner_across, inner_right)

-- a list and more has the end of what is left of the list and more
ends_with : (side : Side) (xs ys zs : List Pair) (c : Pair) → IsThinned side xs ys → EndsWith c (xs ++ zs)
    → EndsWith c (ys ++ zs)
ends_with side xs ys [] c p e =
    subst (EndsWith c) (append_none ys) (p.ends c (subst (EndsWith c) (sym (append_none xs)) e))
ends_with side xs ys (z ∷ zs) c p e = ends_right c ys (z ∷ zs) (ends_back c xs z zs e)

-- if inner points are removed twice, in both lists together inner points are removed
pub thinned_through : (side : Side) (xs ys zs ws : List Pair) → IsThinned side xs ys → IsThinned side (ys ++ zs) ws
    → IsThinned side (xs ++ zs) ws
thinned_through side xs ys zs ws p q = record {
  ordered = q.ordered;
  among = λ t m. from_front xs ys zs p.among t (q.among t m);
  inner = λ u k. q.inner u (inner_with side xs ys zs u p k);
  ends = λ c e. q.ends c (ends_with side xs ys zs c p e);
  short = let a = q.short in let b = p.short in let m = length-append ys zs in let n = length-append xs zs in
      omega (arith, a, b, m, n);
}

-- the front of a set without some inner points is a set with the rest
pub thinned_set : (side : Side) (xs ys zs : List Pair) → IsThinned side xs ys → IsPointSet (xs ++ zs)
    → IsPointSet (ys ++ zs)
thinned_set side xs ys zs p s =
    set_append ys zs p.ordered (set_right xs zs s) (λ t u m n. set_apart xs zs t u s (p.among t m) n)

-- if inner points are removed from the front, the points after it may stay as they are
pub thinned_copied : (side : Side) (xs ys zs : List Pair) → IsThinned side xs ys → IsPointSet (xs ++ zs)
    → IsThinned side (xs ++ zs) (ys ++ zs)
thinned_copied side xs ys zs p s = record {
  ordered = thinned_set side xs ys zs p s;
  among = from_front xs ys zs p.among;
  inner = λ u k. inner_with side xs ys zs u p k;
  ends = λ c e. ends_with side xs ys zs c p e;
  short = let b = p.short in let m = length-append ys zs in let n = length-append xs zs in omega (arith, b, m, n);
}

-- a pass over the result of another and more is a pass over the list and more
pub passed_through : (side : Side) (xs ys zs ws : List Pair) → IsPassed side xs ys → IsPassed side (ys ++ zs) ws
    → IsPassed side (xs ++ zs) ws
passed_through side xs ys zs ws p q =
    passed_of side (xs ++ zs) ws
    (thinned_through side xs ys zs ws (thinned_of side xs ys p) (thinned_of side (ys ++ zs) ws q)) q.strict.convex

-- the result of a pass over the front of a set is a set with the rest
pub passed_set : (side : Side) (xs ys zs : List Pair) → IsPassed side xs ys → IsPointSet (xs ++ zs)
    → IsPointSet (ys ++ zs)
passed_set side xs ys zs p s = thinned_set side xs ys zs (thinned_of side xs ys p) s

-- if the result of a pass bends on into the points after it, these may stay as they are
pub passed_copied : (side : Side) (xs ys zs : List Pair) → IsPassed side xs ys → IsPointSet (xs ++ zs)
    → IsConvex side (ys ++ zs) → IsPassed side (xs ++ zs) (ys ++ zs)
passed_copied side xs ys zs p s h = passed_of side (xs ++ zs) (ys ++ zs)
    (thinned_copied side xs ys zs (thinned_of side xs ys p) s) h

-- ---- a pass that goes on over a convex list

-- the number before a positive one, plus 1, is that number
before_place : (i : ℕ) → 0 < i → i - 1 + 1 ≡ i
before_place i h = omega (arith, h)

-- a list is its first points, the one at an index, and the rest
separated_at : (xs : List Pair) (i : ℕ) (p : Pair) → i < length xs → p ≡ get_or xs i p
    → xs ≡ take (i + 1) xs ++ drop (i + 1) xs
separated_at xs i p l e = cut xs (i + 1) (omega (arith, l))

-- the points after a chain and the one at an index are one more
one_on : (old rest : List Pair) (i : ℕ) (p : Pair) → i < length rest → p ≡ get_or rest i p
    → old ++ take i rest ++ p ∷ [] ≡ old ++ take (i + 1) rest
one_on old rest i p l e =
    append_twice old (take i rest) (p ∷ []) ∙ ap (λ (z : List Pair). old ++ z) (sym (take_next rest i p l e))

-- the result of the pass with the point at the index is a set with the rest
pub take_up_set : (side : Side) (old rest chain : List Pair) (i : ℕ) (p : Pair) → i < length rest → p ≡ get_or rest i p
    → IsPointSet (old ++ rest) → IsPassed side (old ++ take i rest) chain → IsPointSet (chain ++ p ∷ [])
take_up_set side old rest chain i p l e s h =
    passed_set side (old ++ take i rest) chain (p ∷ []) h
    (subst IsPointSet (sym (one_on old rest i p l e))
    (set_left (old ++ take (i + 1) rest) (drop (i + 1) rest)
    (subst IsPointSet
    (ap (λ (z : List Pair). old ++ z) (separated_at rest i p l e)
    ∙ sym (append_twice old (take (i + 1) rest) (drop (i + 1) rest))) s)))

-- one more point is passed
pub take_up_step : (side : Side) (old rest chain new : List Pair) (i : ℕ) (p : Pair) → i < length rest
    → p ≡ get_or rest i p → IsPassed side (old ++ take i rest) chain → IsPassed side (chain ++ p ∷ []) new
    → IsPassed side (old ++ take (i + 1) rest) new
take_up_step side old rest chain new i p l e h k =
    subst (λ (z : List Pair). IsPassed side z new) (one_on old rest i p l e)
    (passed_through side (old ++ take i rest) chain (p ∷ []) new h k)

-- a list is a front and its end, by recursion
ends_cut_from : (x : Pair) (xs : List Pair) → (front : List Pair) × (x ∷ xs ≡ front ++ end_of x xs ∷ [])
ends_cut_from x [] = ([], refl)
ends_cut_from x (y ∷ ys) = let r = ends_cut_from y ys in (x ∷ r.0, ap (λ (z : List Pair). x ∷ z) r.1)

-- a list is a front and its end
pub ends_cut : (c : Pair) (xs : List Pair) → EndsWith c xs → (front : List Pair) × (xs ≡ front ++ c ∷ [])
ends_cut c [] e = absurd e
ends_cut c (x ∷ xs) e = let r = ends_cut_from x xs in
    (r.0, r.1 ∙ ap (λ (z : Pair). r.0 ++ z ∷ []) e)

-- the first i + 1 points of a list end with the one at i
pub ends_take : (xs : List Pair) (i : ℕ) → i < length xs → EndsWith (point_at xs i) (take (i + 1) xs)
ends_take xs i l = grind (arith, common_steps, take_next, get_or_free, ends_right)

-- the rest from an index on begins with the point there
pub rest_at : (xs : List Pair) (i : ℕ) (p : Pair) → i < length xs → p ≡ get_or xs i p → drop i xs ≡ p ∷ drop (i + 1) xs
rest_at xs i p l e = grind (arith, common_steps, e)

-- if a point stays after the one before it, the rest may stay as it is
pub take_up_stop : (side : Side) (old rest chain new : List Pair) (i : ℕ) (p : Pair) → 0 < i → i < length rest
    → p ≡ get_or rest i p → IsPointSet (old ++ rest) → IsConvex side rest → IsPassed side (old ++ take i rest) chain
    → IsPassed side (chain ++ p ∷ []) new → new ≡ chain ++ p ∷ []
    → IsPassed side (old ++ rest) (new ++ drop (i + 1) rest)
take_up_stop side old rest chain new i p some l e s t h k same =
    subst (λ (z : List Pair). IsPassed side z (new ++ drop (i + 1) rest)) whole
    (passed_copied side (old ++ take (i + 1) rest) new (drop (i + 1) rest) (take_up_step side old rest chain new i p l e h k)
    (subst IsPointSet (sym whole) s) turns)
  where
    whole : old ++ take (i + 1) rest ++ drop (i + 1) rest ≡ old ++ rest
    whole = append_twice old (take (i + 1) rest) (drop (i + 1) rest)
        ∙ ap (λ (z : List Pair). old ++ z) (sym (separated_at rest i p l e))

    turns : IsConvex side (new ++ drop (i + 1) rest)
    turns =
        let a : Pair = point_at rest (i - 1) in
        let l' : i - 1 < length rest = omega (arith, l) in
        let ends : EndsWith a chain = h.ends a (ends_right a old (take i rest)
        (subst (λ (n : ℕ). EndsWith a (take n rest)) (before_place i some) (ends_take rest (i - 1) l'))) in
        let c = ends_cut a chain ends in
        let is : new ≡ c.0 ++ a ∷ p ∷ [] =
        same ∙ ap (λ (z : List Pair). z ++ p ∷ []) c.1 ∙ append_twice c.0 (a ∷ []) (p ∷ []) in
        let behind : suc (i - 1) ≡ i = omega (arith, some) in
        let parts : rest ≡ take (i - 1) rest ++ a ∷ p ∷ drop (i + 1) rest =
        cut_at rest (i - 1) origin l'
        ∙ ap (λ (n : ℕ). take (i - 1) rest ++ a ∷ drop n rest) behind
        ∙ ap (λ (z : List Pair). take (i - 1) rest ++ a ∷ z) (rest_at rest i p l e) in
        subst (IsConvex side)
        (sym (append_twice c.0 (a ∷ p ∷ []) (drop (i + 1) rest))
        ∙ ap (λ (z : List Pair). z ++ drop (i + 1) rest) (sym is))
        (convex_join side c.0 a p (drop (i + 1) rest) (subst (IsConvex side) is k.strict.convex)
        (convex_right side (take (i - 1) rest) (a ∷ p ∷ drop (i + 1) rest) (subst (IsConvex side) parts t)))
