-- the two chains, each without its last vertex, are the vertex list; and if one does not fit, that is too long
use Rattle.std.proofs.Common.{◌≡◌, ◌≤◌, ◌∙◌, ap, Bool, List, [], ◌∷◌, ◌++◌, length, arith, subst, sym}
use Rattle.bridge_search.specs.Trees.{Tree, first_of, last_of}
use Rattle.bridge_search.specs.Leaves.{points_of}
use Rattle.bridge_search.specs.TurnedTrees.{turned_tree}
use Rattle.lattice.specs.Plane.{Pair}
use Rattle.lattice.specs.Vertices.{IsVertexList}
use Rattle.lattice.specs.declared.side.Side.TheVariants.{Lower, Upper}
use Rattle.hull_questions.specs.Walks.{IsListed, IsListedUpTo, IsPushedUpTo}
use Rattle.hull_questions.proofs.LongWalks.{long_lower}
use Rattle.hull_questions.proofs.Walked.{both_listed, vertices_alone}
use Rattle.lattice.proofs.Tests.{passed, failed}
use Rattle.hull_questions.proofs.questions.few_vertices.vertices_up_to.Goals as goal

pub returns-then-not-branch-clause-more : goal.returns-then-not-branch-clause-more
returns-then-not-branch-clause-more g c =
    let t : Tree = g.H.Half.tree c.args.half in
    let k : c.args.most ≤ length c.new-out.result.items =
    subst (λ (r : Bool). IsPushedUpTo c.first-then-not-before.result c.args.most c.new-out.result.items
    c.push_up_to.new.out.items r) c.if-not-branch.true c.in_ok-push_up_to.ensures in (
      first_of t ∷ [],
      vertices_alone t (g.met.H.Half.bridged c.args.half)
          (rw (c.first.ensures, c.last.ensures) at (failed c.before-2.result _ c.if-not-before.true c.before-2.ensures)),
      omega (arith, k, ap length c.new-out.ensures.items),
    )

pub returns-then-not-before-clause-vertices : goal.returns-then-not-before-clause-vertices
returns-then-not-before-clause-vertices g c =
    let t : Tree = g.H.Half.tree c.args.half in
    let k = subst (λ (r : Bool). IsPushedUpTo c.first-then-not-before.result c.args.most c.new-out.result.items
    c.push_up_to.new.out.items r) c.if-not-branch.false c.in_ok-push_up_to.ensures in
    let e : c.push_up_to.new.out.items ≡ first_of t ∷ [] =
    k.0 ∙ ap (λ (z : List Pair). z ++ c.first-then-not-before.result ∷ []) c.new-out.ensures.items
    ∙ ap (λ (z : Pair). z ∷ []) c.first-then-not-before.ensures in
    subst (IsVertexList (points_of t)) (sym e)
    (vertices_alone t (g.met.H.Half.bridged c.args.half)
    (rw (c.first.ensures, c.last.ensures) at (failed c.before-2.result _ c.if-not-before.true c.before-2.ensures)))

pub returns-then-not-branch-2-clause-more : goal.returns-then-not-branch-2-clause-more
returns-then-not-branch-2-clause-more g c =
    let t : Tree = g.H.Half.tree c.args.half in
    let k = subst (λ (r : Bool). IsListedUpTo t (first_of t) (last_of t) Lower c.args.most c.new-out.result.items
    c.push_chain_up_to.new.out.items r) c.if-not-branch-2.true c.in_ok-push_chain_up_to.ensures in
    long_lower t c.args.most k.0 (g.met.H.Half.bridged c.args.half)
    (rw (c.first.ensures, c.last.ensures) at (passed c.before-2.result _ c.if-not-before.false c.before-2.ensures))
    (subst (λ (z : List Pair). IsListed t (first_of t) (last_of t) Lower z k.0) c.new-out.ensures.items k.1) k.2

pub returns-then-not-branch-3-clause-more : goal.returns-then-not-branch-3-clause-more
returns-then-not-branch-3-clause-more g c =
    let t : Tree = g.H.Half.tree c.args.half in
    let u : Tree = turned_tree t in
    let k = subst (λ (r : Bool). IsListedUpTo t (first_of t) (last_of t) Lower c.args.most c.new-out.result.items
    c.push_chain_up_to.new.out.items r) c.if-not-branch-2.false c.in_ok-push_chain_up_to.ensures in
    let l = subst (λ (r : Bool). IsListedUpTo u (first_of u) (last_of u) Upper c.args.most c.push_chain_up_to.new.out.items
    c.push_chain_up_to-2.new.out.items r) c.if-not-branch-3.true (rw (c.new.ensures) at c.in_ok-push_chain_up_to-2.ensures) in (
      l.0,
      both_listed t c.push_chain_up_to.new.out.items l.0 (g.met.H.Half.bridged c.args.half)
          (rw (c.first.ensures, c.last.ensures) at (passed c.before-2.result _ c.if-not-before.false c.before-2.ensures))
          (rw c.new-out.ensures.items at k.0) l.1,
      l.2,
    )

pub returns-clause-vertices : goal.returns-clause-vertices
returns-clause-vertices g c =
    let t : Tree = g.H.Half.tree c.args.half in
    let u : Tree = turned_tree t in
    let k = subst (λ (r : Bool). IsListedUpTo t (first_of t) (last_of t) Lower c.args.most c.new-out.result.items
    c.push_chain_up_to.new.out.items r) c.if-not-branch-2.false c.in_ok-push_chain_up_to.ensures in
    let l = subst (λ (r : Bool). IsListedUpTo u (first_of u) (last_of u) Upper c.args.most c.push_chain_up_to.new.out.items
    c.push_chain_up_to-2.new.out.items r) c.if-not-branch-3.false (rw (c.new.ensures) at c.in_ok-push_chain_up_to-2.ensures) in
    both_listed t c.push_chain_up_to.new.out.items c.push_chain_up_to-2.new.out.items (g.met.H.Half.bridged c.args.half)
    (rw (c.first.ensures, c.last.ensures) at (passed c.before-2.result _ c.if-not-before.false c.before-2.ensures))
    (rw c.new-out.ensures.items at k.0) l.0
