-- The results of asking one convex polygon about many segments or other polygons.
use Rattle.std.specs.Prelude.{◌≡◌, ◌≢◌, ℕ, ◌<◌, ◌≤◌, List, length, drop, slice_index, slice_index_or, Option, Some, None}
use denote.Ref.{Bor}
use Rattle.lattice.specs.Plane.{Pair}
use Rattle.hull_reply.specs.Encoded.{code_number}
use Rattle.hull_reply.specs.declared.code.Code.TheVariants as code
use Rattle.hull_reply.specs.declared.reply.HullReply.{HullReply}
use Rattle.hull_c.specs.declared.many.HullSegment.{HullSegment}
use Rattle.hull_c.specs.Findings.{EncodesWhether, IsEncodedOf}
use Rattle.hull_c.specs.Pairs.{relation_number}
use Rattle.hull_polygon.specs.Polygons.{HoldsOfBoth}
use Rattle.hull_polygon.specs.Relations.{IsRelation}
use Rattle.hull_polygon.specs.declared.relations.Relation.{Relation}

-- the reply to whether the polygon and the segment intersect
abbrev pub EncodesIntersectsSegment : List Pair → HullSegment → HullReply → Type 0
EncodesIntersectsSegment vertices s encoded =
    IsEncodedOf s.from.x s.from.y (λ a. IsEncodedOf s.to.x s.to.y (EncodesWhether vertices a)) encoded

-- that reply has this number, 1 or 0; or it has none
abbrev pub EncodesSegment : List Pair → HullSegment → Option ℕ → Type 0
EncodesSegment vertices s (Some n) =
    (encoded : HullReply) × EncodesIntersectsSegment vertices s encoded × (encoded.code ≡ code_number code.Number)
    × (encoded.number ≡ n)
EncodesSegment vertices s None =
    (encoded : HullReply) × EncodesIntersectsSegment vertices s encoded × (encoded.code ≢ code_number code.Number)

-- so many segments were answered, up to the first one that has a coordinate out of range; the rest of the array is unchanged
pub record AreSegmentsAnswered (vertices : List Pair) (segments : List HullSegment) (before after : List ℕ) (count : ℕ) : Type 0 where
  pub within : count ≤ length segments
  pub answered : (i : ℕ) (d : HullSegment) → i < count
      → EncodesSegment vertices (slice_index_or segments i d) (Some (slice_index after i))
  pub stopped : (d : HullSegment) → count < length segments → EncodesSegment vertices (slice_index_or segments count d) None
  pub rest : drop count after ≡ drop count before

-- the number of the relation of each set with the vertices to each with the others
abbrev pub IsRelationTo : List Pair → List Pair → ℕ → Type 0
IsRelationTo vertices others n =
    (found : Relation) × (n ≡ relation_number found) × HoldsOfBoth vertices others (λ S T. IsRelation S T found)

-- these numbers, of the relations to the polygons in their order
abbrev pub AreRelations : List Pair → List (Bor (List Pair)) → List ℕ → Type 0
AreRelations vertices others numbers =
    (i : ℕ) (d : Bor (List Pair)) → i < length others → IsRelationTo vertices (slice_index_or others i d).now (slice_index numbers i)
