-- A list without repeats whose members are points of S is no longer than S.
use Rattle.std.proofs.Common.{◌≡◌, ℕ, ◌⊎◌, inl, inr, ap, ◌∙◌, subst, List, arith, zero, suc, ◌<◌, ◌≤◌, [], ◌∷◌, ◌++◌}
use Rattle.std.proofs.Common.{length, get_or, take, drop, length-drop, length-take, ◌≢◌, length-append}
use Rattle.std.specs.List.{All, Contains, AllPairs}
use Rattle.std.proofs.lemmas.List.Elements.{All-head, Contains-append_left, Contains-append_right}
use Rattle.std.proofs.lemmas.List.Elements.{Contains-append_cases}
use Rattle.lattice.specs.Plane.{Pair}
use Rattle.lattice.specs.Vertices.{IsVertexList}
use Rattle.hull_geometry.proofs.PointLists.{get_or_free, cut_at}

-- a member other than the one at k is a member of the rest
in_rest : (S : List Pair) (k : ℕ) (v t : Pair) → k < length S → get_or S k v ≡ v → v ≢ t → Contains S t
    → Contains (take k S ++ drop (suc k) S) t
in_rest S k v t l e n m =
    go (Contains-append_cases (take k S) (v ∷ drop (suc k) S) t
    (subst (λ (z : List Pair). Contains z t)
    (cut_at S k v l ∙ ap (λ (z : Pair). take k S ++ z ∷ drop (suc k) S) e) m))
  where
    go : Contains (take k S) t ⊎ Contains (v ∷ drop (suc k) S) t → Contains (take k S ++ drop (suc k) S) t
    go (inl i) = Contains-append_left (take k S) (drop (suc k) S) t i
    go (inr (zero, h, f)) = absurd (n f)
    go (inr (suc j, h, f)) = Contains-append_right (take k S) (drop (suc k) S) t (j, omega (arith, h), f)

-- the rest has one member less
rest_shorter : (S : List Pair) (k : ℕ) → k < length S → length S ≡ suc (length (take k S ++ drop (suc k) S))
rest_shorter S k l = omega (arith, length-append (take k S) (drop (suc k) S), length-take k S, length-drop (suc k) S)

-- a list without repeats whose members are points of S is no longer than S
pub distinct_few : (vertices S : List Pair) → AllPairs (λ u v. u ≢ v) vertices → All (Contains S) vertices
    → length vertices ≤ length S
distinct_few [] S d a = omega arith
distinct_few (v ∷ rest) S d a =
    let m = All-head (Contains S) v rest a in
    let S' : List Pair = take m.0 S ++ drop (suc m.0) S in
    let shorter : length S ≡ suc (length S') = rest_shorter S m.0 m.1 in
    let again : length rest ≤ length S' =
    distinct_few rest S' (λ i j e h l. d (suc i) (suc j) e (omega (arith, h)) (omega (arith, l)))
    (λ k e l. in_rest S m.0 v (get_or rest k e) m.1 m.2 (d 0 (suc k) e (omega arith) (omega (arith, l)))
    (a (suc k) e (omega (arith, l)))) in
    omega arith

-- a set has no more vertices than points
pub vertices_few : (S vertices : List Pair) → IsVertexList S vertices → length vertices ≤ length S
vertices_few S vertices h =
    distinct_few vertices S h.distinct
    (λ k d l. ((h.members (get_or vertices k d)).0 (k, l, get_or_free vertices k _ d l)).0)
