-- the segment between the first two vertices is the other hull
use Rattle.std.proofs.Common.{List, Option, None, Some, inl, inr, sym, ◌∙◌, subst}
use Rattle.std.specs.List.{Contains}
use Rattle.std.specs.Prelude.{MatchOption}
use Rattle.lattice.specs.Plane.{Pair}
use Rattle.hull_polygon.specs.Meetings.{AreDisjoint, segment}
use Rattle.hull_polygon.specs.Rounds.{vertex}
use Rattle.hull_polygon.specs.Witnesses.{IsMeeting}
use Rattle.hull_polygon.specs.declared.meetings.Meeting.{Meeting}
use Rattle.hull_polygon.proofs.Shields.{one_of_two}
use Rattle.hull_polygon.proofs.Together.{apart_few}
use Rattle.hull_polygon.proofs.Vertices.{vertex_extreme}
use Rattle.hull_polygon.proofs.Witnessed.{meeting_more}
use Rattle.hull_polygon.proofs.polygon.Polygon.meeting_with_few.Goals as goal

-- what is found of a part is found of the whole, and a set disjoint from the part is disjoint from the whole
of_part : (r : Option Meeting) (S T U : List Pair) → ((t : Pair) → Contains T t → Contains U t) → (AreDisjoint S T → AreDisjoint S U)
    → MatchOption r (AreDisjoint S T) (λ m. IsMeeting S T m) → MatchOption r (AreDisjoint S U) (λ m. IsMeeting S U m)
of_part None S T U more apart h = apart h
of_part (Some m) S T U more apart h = meeting_more S T U m more h

pub returns : goal.returns
returns c = λ S o T t.
    let W = c.args.other.now.vertices.now in
    let a : Pair = c.vertex_at-start.result in
    let b : Pair = c.vertex_at-end.result in
    of_part c.meeting_with_segment.result S (segment a b) T
    (λ z m. elim (one_of_two a b z m) [
      | inl e ↦ subst (Contains T) (sym (e ∙ c.vertex_at-start.ensures)) (vertex_extreme T W 0 t.1 c.requires.that).0
      | inr e ↦ subst (Contains T) (sym (e ∙ c.vertex_at-end.ensures)) (vertex_extreme T W 1 t.1 c.requires.that).0
    ])
    (λ apart. apart_few S T W c.args.other.now.last t c.args.other.now.separated c.requires.that c.requires.few
    (subst (λ (z : Pair). AreDisjoint S (segment (vertex W 0) z)) c.vertex_at-end.ensures
    (subst (λ (z : Pair). AreDisjoint S (segment z b)) c.vertex_at-start.ensures apart)))
    (c.meeting_with_segment.ensures S o)
