-- the location determines the place
use Rattle.bridge_search.specs.Trees.{Tree, first_of, last_of}
use Rattle.bridge_search.specs.Leaves.{points_of}
use Rattle.hull_questions.proofs.Sighted.{are_ends}
use Rattle.hull_questions.proofs.questions.place.place.Goals as goal

pub returns : goal.returns
returns g c =
    let t : Tree = g.H.Half.tree c.args.half in
    c.of_location.ensures (first_of t) (last_of t) (points_of t) c.args.q (are_ends t (g.met.H.Half.bridged c.args.half))
    c.look.ensures
