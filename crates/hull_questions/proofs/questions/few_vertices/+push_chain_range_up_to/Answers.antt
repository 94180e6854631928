-- the left half's range fills the list, or the start of the bridge does, or the right half's range follows them
use Rattle.std.proofs.Common.{Bool, [], ◌∷◌, ◌++◌, ◌∙◌, ap, subst, arith}
use Rattle.std.proofs.lemmas.Result.{IfOk-weaker}
use Rattle.lattice.specs.Plane.{Pair}
use Rattle.bridge_search.specs.Trees.{Tree, left_of, right_of}
use Rattle.hull_questions.specs.Walks.{IsListedUpTo, IsPushedUpTo}
use Rattle.hull_questions.proofs.LongWalks.{listed_up_to, too_many_left}
use Rattle.hull_questions.proofs.questions.few_vertices.+push_chain_range_up_to.Goals as goal

pub returns-then-not-branch : goal.returns-then-not-branch
returns-then-not-branch g t c =
    let u : Tree = g.H.Half.tree c.args.half in
    let k = subst (λ (r : Bool). IsListedUpTo (left_of u) c.args.from c.in-Across.bridge.0 c.args.side c.args.most
    c.args.out.now.items c.push_chain_range_up_to-in-Across.new.out.items r)
    c.if-not-branch.true (rw (c.left-in-Across.ensures) at c.in_ok-push_chain_range_up_to-in-Across.ensures) in
    too_many_left u c.args.from c.in-Across.bridge.0 c.in-Across.bridge.1 c.args.to c.args.side c.args.most
    c.args.out.now.items k.0 (g.met.H.Half.bridged c.args.half) c.in-Across.ensures.0 c.in-Across.ensures.1 k.1 (omega (arith, k.2))

pub returns-then-not-branch-2 : goal.returns-then-not-branch-2
returns-then-not-branch-2 g t c =
    let u : Tree = g.H.Half.tree c.args.half in
    let k = subst (λ (r : Bool). IsListedUpTo (left_of u) c.args.from c.in-Across.bridge.0 c.args.side c.args.most
    c.args.out.now.items c.push_chain_range_up_to-in-Across.new.out.items r)
    c.if-not-branch.false (rw (c.left-in-Across.ensures) at c.in_ok-push_chain_range_up_to-in-Across.ensures) in
    too_many_left u c.args.from c.in-Across.bridge.0 c.in-Across.bridge.1 c.args.to c.args.side c.args.most
    c.args.out.now.items c.push_chain_range_up_to-in-Across.new.out.items (g.met.H.Half.bridged c.args.half) c.in-Across.ensures.0 c.in-Across.ensures.1 k.0
    (subst (λ (r : Bool). IsPushedUpTo c.seen_from.result c.args.most c.push_chain_range_up_to-in-Across.new.out.items
    c.push_up_to.new.out.items r) c.if-not-branch-2.true
    c.in_ok-push_up_to-in-Across.ensures)

pub returns-else-not-branch-2 : goal.returns-else-not-branch-2
returns-else-not-branch-2 g t c =
    let u : Tree = g.H.Half.tree c.args.half in
    let k = subst (λ (r : Bool). IsListedUpTo (left_of u) c.args.from c.in-Across.bridge.0 c.args.side c.args.most
    c.args.out.now.items c.push_chain_range_up_to-in-Across.new.out.items r)
    c.if-not-branch.false (rw (c.left-in-Across.ensures) at c.in_ok-push_chain_range_up_to-in-Across.ensures) in
    let p = subst (λ (r : Bool). IsPushedUpTo c.seen_from.result c.args.most c.push_chain_range_up_to-in-Across.new.out.items
    c.push_up_to.new.out.items r) c.if-not-branch-2.false
    c.in_ok-push_up_to-in-Across.ensures in
    IfOk-weaker c.push_chain_range_up_to-in-Across-2.result _ _
    (λ whole r. listed_up_to u (left_of u) (right_of u) c.args.from c.in-Across.bridge.0 c.in-Across.bridge.1 c.args.to
    c.args.side c.args.most c.args.out.now.items c.push_chain_range_up_to-in-Across.new.out.items
    c.push_up_to.new.out.items c.push_chain_range_up_to-in-Across-2.new.out.items whole c.in-Across.ensures.1.walks k.0
    (p.0 ∙ ap (λ (z : Pair). c.push_chain_range_up_to-in-Across.new.out.items ++ z ∷ []) c.seen_from.ensures)
    (rw (c.right-in-Across.ensures) at r))
    c.push_chain_range_up_to-in-Across-2.ensures
