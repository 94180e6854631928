-- the tangents touch the chains that the location determines; if it determines none, the points cover q
use Rattle.std.proofs.Common.{inr}
use Rattle.bridge_search.specs.Trees.{Tree, first_of, last_of}
use Rattle.bridge_search.specs.Leaves.{points_of}
use Rattle.hull_questions.proofs.Sighted.{are_ends}
use Rattle.hull_questions.proofs.questions.tangents.tangents.Goals as goal

pub returns-in_default : goal.returns-in_default
returns-in_default g c =
    let t : Tree = g.H.Half.tree c.args.half in
    inr (c.in_default.ensures (first_of t) (last_of t) (points_of t) c.args.q (are_ends t (g.met.H.Half.bridged c.args.half))
    c.look.ensures)

pub tangent_on-requires : goal.tangent_on-requires
tangent_on-requires g c =
    let t : Tree = g.H.Half.tree c.args.half in
    (c.in-Some.ensures (first_of t) (last_of t) (points_of t) c.args.q (are_ends t (g.met.H.Half.bridged c.args.half))
    c.look.ensures).1

pub tangent_on-requires-2 : goal.tangent_on-requires-2
tangent_on-requires-2 g c =
    let t : Tree = g.H.Half.tree c.args.half in
    (c.in-Some.ensures (first_of t) (last_of t) (points_of t) c.args.q (are_ends t (g.met.H.Half.bridged c.args.half))
    c.look.ensures).2

pub returns : goal.returns
returns g c =
    let t : Tree = g.H.Half.tree c.args.half in (
      (c.in-Some.ensures (first_of t) (last_of t) (points_of t) c.args.q
          (are_ends t (g.met.H.Half.bridged c.args.half)) c.look.ensures).0,
      c.tangent_on.ensures,
      c.tangent_on-2.ensures,
    )
