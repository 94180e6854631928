-- the leftmost and the rightmost vertex decide whether the line is crossed; a vertex that is kept before one that is
-- not is the place
use Rattle.std.proofs.Common.{◌≡◌, ◌<◌, ◌+◌, ◌↔◌, IsTrue, ℕ, refl, sym, subst, Bool, false, List, length}
use Rattle.std.specs.Prelude.{not}
use Rattle.hull_polygon.specs.Polygons.{IsPolygonOf}
use Rattle.lattice.specs.Places.{IsFarthest}
use Rattle.lattice.specs.Plane.{Pair}
use Rattle.hull_polygon.specs.Raycasts.{IsCrossed, IsKept, moved}
use Rattle.hull_polygon.specs.Rounds.{vertex}
use Rattle.hull_polygon.specs.Steps.{backward, turned_left}
use Rattle.hull_polygon.proofs.Vertices.{vertex_extreme, next_left}
use Rattle.hull_polygon.proofs.Courses.{kept_over, most_left, most_right, none_left, none_right}
use Rattle.hull_polygon.proofs.raycasts.crossing.Goals as goal

-- an equal direction has the same farthest point
turned : (S : List Pair) (w d : Pair) (t : Pair) → d ≡ turned_left w → IsFarthest S d t → IsFarthest S (turned_left w) t
turned S w d t e f = subst (λ (v : Pair). IsFarthest S v t) e f

turned_back : (S : List Pair) (w d b : Pair) (t : Pair) → d ≡ turned_left w → b ≡ backward d → IsFarthest S b t
    → IsFarthest S (backward (turned_left w)) t
turned_back S w d b t e g f =
    subst (λ (v : Pair). IsFarthest S (backward v) t) e (subst (λ (v : Pair). IsFarthest S v t) g f)

pub returns-then-not-keeps : goal.returns-then-not-keeps
returns-then-not-keeps c = λ S o.
    let a = c.args.way.now.start in
    let w = c.args.way.now.along in
    let l = vertex c.args.vertices.now c.farthest_place-left.result in
    none_left S a (moved a w) l
    (λ s m. most_left S a w l s (turned S w _ l c.turned_left-normal.ensures (c.farthest_place-left.ensures.farthest S o).1) m)
    c.keeps-is_left.result c.keeps.result
    (subst (λ (t : Pair). IsTrue c.keeps-is_left.result ↔ IsKept false a (moved a w) t) c.vertex_at-most_left.ensures c.keeps-is_left.ensures)
    (subst (λ (t : Pair). IsTrue c.keeps.result ↔ IsKept (not c.keeps-is_left.result) a (moved a w) t) c.vertex_at-most_left.ensures c.keeps.ensures)
    c.if-not-keeps.true

pub returns-then-keeps : goal.returns-then-keeps
returns-then-keeps c = λ S o.
    let a = c.args.way.now.start in
    let w = c.args.way.now.along in
    let l = vertex c.args.vertices.now c.farthest_place-left.result in
    let r = vertex c.args.vertices.now c.farthest_place-right.result in
    none_right S a (moved a w) l r
    (λ s m. most_left S a w l s (turned S w _ l c.turned_left-normal.ensures (c.farthest_place-left.ensures.farthest S o).1) m)
    (λ s m. most_right S a w r s (turned_back S w _ _ r c.turned_left-normal.ensures c.back.ensures (c.farthest_place-right.ensures.farthest S o).1) m)
    c.keeps-is_left.result c.keeps-2.result
    (subst (λ (t : Pair). IsTrue c.keeps-is_left.result ↔ IsKept false a (moved a w) t) c.vertex_at-most_left.ensures c.keeps-is_left.ensures)
    (subst (λ (t : Pair). IsTrue c.keeps-2.result ↔ IsKept (not c.keeps-is_left.result) a (moved a w) t) c.vertex_at.ensures c.keeps-2.ensures)
    c.if-keeps.true

-- the vertices there are an edge at which the line is crossed
crossed : (S V : List Pair) (a b p q : Pair) (i : ℕ) (t : Bool) → IsPolygonOf S V → 0 < length V → i < length V
    → IsKept t a b (vertex V i) → ¬ IsKept t a b (vertex V (i + 1)) → p ≡ vertex V i → q ≡ vertex V (i + 1) → IsCrossed S a b p q
crossed S V a b p q i t o n l h f e g =
    subst (λ (v : Pair). IsCrossed S a b v q) (sym e)
    (subst (λ (v : Pair). IsCrossed S a b (vertex V i) v) (sym g)
    (let k = kept_over t a b (vertex V i) (vertex V (i + 1)) h f in record {
      start = vertex_extreme S V i o.1 n;
      end = vertex_extreme S V (i + 1) o.1 n;
      left = next_left S V i (i + 1) o.1 refl l;
      from = k.0;
      to = k.1;
      across = k.2;
    }))

pub returns : goal.returns
returns c = λ S o.
    crossed S c.args.vertices.now c.args.way.now.start (moved c.args.way.now.start c.args.way.now.along) _ _
    c.last_kept_round-place.result (not c.keeps-is_left.result) o c.requires.some c.last_kept_round-place.ensures.within
    c.last_kept_round-place.ensures.held c.last_kept_round-place.ensures.fails c.vertex_at-2.ensures c.vertex_at-3.ensures
