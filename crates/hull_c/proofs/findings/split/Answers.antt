-- if there are vertices, two shapes that are not separated intersect
use Rattle.std.proofs.Common.{◌≡◌, ◌<◌, ◌⊎◌, List, [], length, sym, subst, arith, inl, inr}
use Rattle.lattice.specs.Plane.{Pair}
use Rattle.hull_polygon.specs.Meetings.{Intersects, segment}
use Rattle.hull_polygon.specs.Polygons.{HoldsOfSetsOf, IsPolygonOf}
use Rattle.hull_polygon.proofs.Vertices.{vertex_extreme}
use Rattle.hull_c.proofs.findings.split.Goals as goal

-- a set with vertices is not empty
not_empty : (S V : List Pair) → IsPolygonOf S V → 0 < length V → S ≡ [] → ⊥
not_empty S V o n e =
    let m = (vertex_extreme S V 0 o.1 n).0 in
    let l : 0 < length S = omega (arith, m.1) in
    absurd (omega (arith, subst (λ (z : List Pair). 0 < length z) e l))

-- a property of it or of an empty set is a property of it
said_of : (V : List Pair) (P : List Pair → Type 0) → 0 < length V
    → HoldsOfSetsOf V (λ S. (S ≡ []) ⊎ P S) → HoldsOfSetsOf V P
said_of V P n h S o = elim (h S o) [ inl e ↦ absurd (not_empty S V o n e) | inr p ↦ p ]

pub returns-in-Some : goal.returns-in-Some
returns-in-Some c = inr (inr (
  c.in-Some.found,
  c.separated.ensures,
  λ S o. c.in-Some.ensures S (subst (IsPolygonOf S) (sym c.of_vertices.ensures) o),
))

pub returns-in-None : goal.returns-in-None
returns-in-None c =
    let V = c.args.vertices.now in
    inr (inl (
      c.bare-in-None.ensures,
      said_of V (λ S. Intersects S (segment c.args.a c.args.b)) (grind (arith, c.is_empty.ensures, c.if-is_empty.false))
          (subst (λ (W : List Pair). HoldsOfSetsOf W (λ S. (S ≡ []) ⊎ Intersects S (segment c.args.a c.args.b)))
          c.of_vertices.ensures c.in-None.ensures),
    ))
