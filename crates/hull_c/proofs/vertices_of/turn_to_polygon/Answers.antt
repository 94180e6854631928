-- the points only change their order, and a convex polygon has its own points
use Rattle.std.proofs.Common.{◌≡◌, ◌∙◌, ◌<◌, ℕ, false, true, inl, inr, List, length, Vec, vec_len, arith, refl, subst, sym}
use Rattle.std.specs.List.{ReversedBelow, RotatedLeft}
use Rattle.lattice.specs.Plane.{Pair}
use Rattle.hull_polygon.specs.Polygons.{IsOwnPolygon, IsShortPolygon}
use Rattle.hull_c.specs.VerticesOf.{HaveSamePoints}
use Rattle.hull_c.proofs.VerticesOf.{own_vertices, permuted_same, same_after, turned_same}
use Rattle.hull_c.proofs.Rings.{IsLeastAt, turned_back, turned_round}
use Rattle.hull_c.proofs.vertices_of.turn_to_polygon.Goals as goal

pub returns-then-are_polygon-clause-same : goal.returns-then-are_polygon-clause-same
returns-then-are_polygon-clause-same c =
    turned_same c.first_place-first.result c.args.points.now.items c.rotate_left.new.self.items c.rotate_left.ensures.items

pub returns-then-are_polygon-clause-vertices : goal.returns-then-are_polygon-clause-vertices
returns-then-are_polygon-clause-vertices c = λ _.
    own_vertices c.args.points.now.items c.rotate_left.new.self.items
    (subst (λ (z : List Pair). IsOwnPolygon z) c.deref-2.ensures.value (c.are_polygon.ensures.own c.if-are_polygon.true))
    (turned_same c.first_place-first.result c.args.points.now.items c.rotate_left.new.self.items c.rotate_left.ensures.items)

-- so it is after the second rotation and the reversal
both : (c : goal.After-are_polygon-2) → HaveSamePoints c.reverse.new.self.items c.args.points.now.items
both c =
    same_after c.args.points.now.items c.rotate_left-2.new.self.items c.reverse.new.self.items
    (same_after c.args.points.now.items c.rotate_left.new.self.items c.rotate_left-2.new.self.items
    (turned_same c.first_place-first.result c.args.points.now.items c.rotate_left.new.self.items c.rotate_left.ensures.items)
    (turned_same 1 c.rotate_left.new.self.items c.rotate_left-2.new.self.items c.rotate_left-2.ensures.items))
    (permuted_same c.rotate_left-2.new.self.items c.reverse.new.self.items c.reverse.ensures.permutation)

pub returns-clause-same : goal.returns-clause-same
returns-clause-same c = both c

pub returns-clause-vertices : goal.returns-clause-vertices
returns-clause-vertices c = λ e.
    own_vertices c.args.points.now.items c.reverse.new.self.items
    (subst (λ (z : List Pair). IsOwnPolygon z) c.deref-3.ensures.value (c.are_polygon-2.ensures.own e)) (both c)

pub returns-then-are_polygon-clause-rings : goal.returns-then-are_polygon-clause-rings
returns-then-are_polygon-clause-rings c = λ _. refl

-- a vector has as many items as its length
long : {Z : Type 0} (v : Vec Pair Z) → vec_len v ≡ length v.items
long v = omega (arith, v.ok.0)

-- a rotated vector, by its items
turned_items : {Z : Type 0} (v w : Vec Pair Z) (f : ℕ) → RotatedLeft v.items w.items (vec_len v) f
    → RotatedLeft v.items w.items (length v.items) f
turned_items v w f r = subst (λ (n : ℕ). RotatedLeft v.items w.items n f) (long v) r

-- the index at which the ring begins
begins : (c : goal.After-are_polygon-2) → IsLeastAt c.args.points.now.items c.first_place-first.result
begins c = subst (λ (z : List Pair). IsLeastAt z c.first_place-first.result) c.deref.ensures.value c.first_place-first.ensures.first

within : (c : goal.After-are_polygon-2) → c.first_place-first.result < length c.args.points.now.items
within c = subst (λ (z : List Pair). c.first_place-first.result < length z) c.deref.ensures.value c.first_place-first.ensures.within

pub returns-clause-rings : goal.returns-clause-rings
returns-clause-rings c h =
    let P = c.args.points.now in
    let R = c.rotate_left.new.self in
    let Q = c.rotate_left-2.new.self in
    let W = c.reverse.new.self in
    let f = c.first_place-first.result in
    let m : length R.items ≡ length P.items = omega (arith, c.rotate_left.ensures.len, P.ok.0, R.ok.0) in
    let t = turned_items P R f c.rotate_left.ensures.by_index in
    elim h.2.1.2 [
      | inl round ↦
          let same = turned_round h.0 P.items R.items h.2.1.0 f h.1 h.2.0 h.2.1.1 (within c) round (begins c) m t in
          let e : false ≡ true = c.if-are_polygon.ensures.each
          (subst (λ (z : List Pair). IsShortPolygon z) (sym (c.deref-2.ensures.value ∙ same)) h.1) in cc
      | inr back ↦
          let same = turned_back h.0 P.items R.items Q.items W.items h.2.1.0 f h.1 h.2.0 h.2.1.1 (within c) back (begins c) m t
          (omega (arith, c.rotate_left-2.ensures.len, R.ok.0, Q.ok.0)) (turned_items R Q 1 c.rotate_left-2.ensures.by_index)
          (omega (arith, c.reverse.ensures.len, Q.ok.0, W.ok.0))
          (subst (λ (n : ℕ). ReversedBelow Q.items W.items n) (long Q) c.reverse.ensures.by_index) in
          c.are_polygon-2.ensures.each
          (subst (λ (z : List Pair). IsShortPolygon z) (sym (c.deref-3.ensures.value ∙ same)) h.1)
    ]
