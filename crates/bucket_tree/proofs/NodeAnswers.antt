-- The answers of the vertices below a node are those of its points.
use Rattle.std.proofs.Common.{inl, inr, List}
use Rattle.std.specs.Prelude.{Option, Some, None}
use Rattle.lattice.specs.Plane.{Pair}
use Rattle.bridge_search.specs.Leaves.{points_of}
use Rattle.bridge_search.specs.Trees.{Tree}
use Rattle.bridge_search.proofs.Leaves.{points_not_none}
use Rattle.hull_geometry.specs.CandidateLists.{AnswersFor}
use Rattle.hull_geometry.specs.declared.hand.Hand.TheVariants.{Left, Right}
use Rattle.hull_set.specs.Replies.{LiesAt, AnswersTangents, reply_to_tangents}
use Rattle.hull_set.specs.declared.set.Place.{Place}
use Rattle.hull_set.specs.declared.set.Place.TheVariants.{Inside, On, Outside}

-- the location of a point
pub lies_for : (F S : List Pair) (q : Pair) (place : Place) → AnswersFor F S → LiesAt F q place → LiesAt S q place
lies_for F S q Inside a h = ((a.covers q).0 h.0, λ o. h.1 ((a.outer q).1 o))
lies_for F S q On a h = ((a.covers q).0 h.0, (a.outer q).0 h.1)
lies_for F S q Outside a h = λ c. h ((a.covers q).1 c)

-- the tangents from a point
pub tangents_for : (t : Tree) (S : List Pair) (q : Pair) (ends : Option (Pair × Pair)) → AnswersFor (points_of t) S
    → AnswersTangents (points_of t) q (reply_to_tangents ends) → AnswersTangents S q (reply_to_tangents ends)
tangents_for t S q None a (inl e) = absurd (points_not_none t e)
tangents_for t S q None a (inr c) = inr ((a.covers q).0 c)
tangents_for t S q (Some ends) a h = (
  λ c. h.0 ((a.covers q).1 c),
  a.tangents Left q ends.0 h.0 h.1,
  a.tangents Right q ends.1 h.0 h.2,
)
