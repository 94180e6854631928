-- p lies inwards of a segment of the candidate list, or is inserted between its neighbours
use Rattle.std.proofs.Common.{◌≡◌, ◌++◌, ◌∷◌, [], ℕ, sym, ap, ◌∙◌, subst, List, take, drop, length, arith}
use Rattle.std.proofs.Common.{length-append, length-drop}
use Rattle.std.proofs.lemmas.Bool.{false≢true}
use Rattle.std.specs.List.{insert}
use Rattle.lattice.specs.Covers.{with_point}
use Rattle.lattice.specs.Plane.{Pair}
use Rattle.hull_plain.specs.Drafts.{drafted}
use Rattle.hull_geometry.specs.Monotone.{IsCandidateListOf}
use Rattle.hull_plain.specs.declared.scratch_chain.ScratchChain.{ScratchChain}
use Rattle.hull_plain.proofs.Drafts.{started, pushed, as_roomy}
use Rattle.hull_geometry.proofs.Mended.{put_on_same, put_on_all}
use Rattle.hull_geometry.proofs.PointLists.{append_twice, take_few}
use Rattle.hull_plain.proofs.candidates.put_on.Goals as goal

pub returns-then-is_inwards-clause-candidates : goal.returns-then-is_inwards-clause-candidates
returns-then-is_inwards-clause-candidates c = λ S k.
    put_on_same c.args.side S c.args.candidates.now.items c.args.p c.in-Err.i c.in-Err.ensures.position
    (c.is_inwards.ensures.0 c.if-is_inwards.true) k

pub push-requires : goal.push-requires
push-requires c =
    let n = ap length c.start.ensures.none in
    omega (arith, n, c.start.new.self.fresh.ok, c.start.ensures.space.fresh, c.requires.scratch_chain_space.fresh)

-- the candidate list with p at its position
with_p : (L : List Pair) (i : ℕ) (p : Pair) (a b : ScratchChain) → a.kept ≡ i → a.fresh.items ≡ [] → b.kept ≡ a.kept
    → b.fresh.items ≡ a.fresh.items ++ p ∷ [] → drafted L b ≡ take i L ++ p ∷ []
with_p L i p a b k n l m = pushed L a b p l m ∙ ap (λ (z : List Pair). z ++ p ∷ []) (started L a i k n)

pub write-requires-clause-order : goal.write-requires-clause-order
write-requires-clause-order c = omega (arith, c.push.ensures.kept, c.start.ensures.kept)

pub write-requires-clause-space : goal.write-requires-clause-space
write-requires-clause-space c =
    let L : List Pair = c.args.candidates.now.items in
    let n = ap length (with_p L c.in-Err.i c.args.p c.start.new.self c.push.new.self c.start.ensures.kept
    c.start.ensures.none c.push.ensures.kept c.push.ensures.more) in
    let both = length-append (take c.in-Err.i L) (c.args.p ∷ []) in
    let few = take_few c.in-Err.i L in
    let rest = length-drop c.in-Err.i L in
    omega (arith, n, both, few, rest, c.in-Err.ensures.position.0, c.requires.space)

pub write-requires-clause-rest_space : goal.write-requires-clause-rest_space
write-requires-clause-rest_space c =
    omega (arith, c.push.ensures.space.rest, c.start.ensures.space.rest, c.requires.scratch_chain_space.rest)

pub returns-clause-candidates : goal.returns-clause-candidates
returns-clause-candidates c = λ S k.
    let L : List Pair = c.args.candidates.now.items in
    let new : c.write.new.list.items ≡ insert L c.in-Err.i c.args.p =
    c.write.ensures.items
    ∙ ap (λ (z : List Pair). z ++ drop c.in-Err.i L)
    (with_p L c.in-Err.i c.args.p c.start.new.self c.push.new.self c.start.ensures.kept c.start.ensures.none
    c.push.ensures.kept c.push.ensures.more)
    ∙ append_twice (take c.in-Err.i L) (c.args.p ∷ []) (drop c.in-Err.i L) in
    subst (IsCandidateListOf c.args.side (with_point c.args.p S)) (sym new)
    (put_on_all c.args.side S L c.args.p c.in-Err.i c.in-Err.ensures.position
    (λ o. false≢true (sym c.if-is_inwards.false ∙ c.is_inwards.ensures.1 o)) k)

pub returns-clause-space : goal.returns-clause-space
returns-clause-space c =
    as_roomy _ _ _ (as_roomy _ _ _ c.start.ensures.space c.push.ensures.space) c.write.ensures.space
