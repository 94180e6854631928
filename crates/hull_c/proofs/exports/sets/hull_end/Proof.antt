-- `hull_end` meets its contract.
use Rattle.hull_reply.proofs.Steps.{◌≡◌, ℕ, ◌++◌, [], ◌∷◌, refl, proved, full_share, id⊢, ftrue, Val, fact, tables, WpFn, ‵, raw, ◌⊛◌, some}
use Rattle.hull_reply.proofs.Steps.{later, prop, at_ret, ◌$◌, ◌∵◌, !, qed, done, move, keep, drop, use1, split, join, pick, await, regoal}
use Rattle.hull_reply.proofs.Steps.{suffices, group, and_then, no_more, calls_at, framed, fpack, triple_of, lasts, Lasts, lands_as, u32}
use Rattle.hull_reply.proofs.Steps.{w32, uint_Lawful, fjoin, enter, of_opd, stop, first, blocks, exec, returns, alloc_all, pass_all}
use Rattle.hull_reply.proofs.Steps.{free_all, look_at, get, through, sets, sets_last, env, yes, Ptr, RawPtr, block_ptr, lies_at, in_a_block}
use Rattle.hull_reply.proofs.Steps.{rawptr_vals, rawptr_Tells, plain, nothing, on_entry, Stays, walk_of, stay_dropped, Goes-dropped}
use Rattle.hull_reply.proofs.Steps.{ends_at}
use Rattle.hull_c.specs.contracts.hull.Hull.{the_row as R}
use Rattle.hull_c.proofs.hull.Hull.TheLaws.{the_row_laws as tree_laws}
use borrow.Table.OneValue.{part_out}
use denote.Memory.{lone}
use base.Fml.{fat, froom}
use types.Run.{load, look}
use denote.Laws.{Is, shows}
use denote.Steps.{heard, peeks}
use Rattle.hull_c.specs.contracts.exports.sets.hull_end as f
use Rattle.hull_c.proofs.exports.sets.hull_end.Statement.{statement}
use Rattle.hull_c.proofs.exports.sets.hull_end.Code as code
use Rattle.hull_c.specs.contracts.calls.finish as g
use Rattle.hull_c.proofs.calls.finish.Met.{met}

abbrev stayed : Stays f.ended.signature.params f.ended.kept
stayed = (stay_dropped _ yes, tt)

pub hull_end_spec : {M : Type 1} → statement M
hull_end_spec 𝓤 𝓛 𝓜 𝓡 wired =
    let c = f.clauses 𝓛 𝓜.mem 𝓡.returns in let W = walk_of 𝓛 f.ended stayed c in let 𝓣 = tables 𝓤 𝓛.H 𝓜 𝓡 𝓡.env in
    proved 𝓛 f.ended stayed c 𝓜 𝓡 (Goes-dropped 𝓛 0 (plain (λ _. RawPtr)) yes (λ κs x w. refl), tt)
    f.Key.name code.function (code.unfolded 𝓤 𝓛.H 𝓜 𝓡 wired)
    (λ κs. (rawptr_vals, tt)) (λ κs. (rawptr_Tells, tt)) (λ κs qs bounds a t are.
    let y : Ptr → W.Ghost = λ p. ((κs, qs, bounds, (p, tt), (rawptr_vals p, tt)), t) in
    qed 𝓛 (raw (on_entry 𝓛 f.signature κs qs a (y a.0).0.4) ∷ ‵ (lies_at R full_share a.0 t) ∷ []) ∵ drop ! $
    in_a_block ! a.0 (λ p. lies_at R full_share p t) (id⊢ 𝓤 _) (λ b o e.
    regoal ! (λ p. prop (WpFn 𝓤 𝓛.H 𝓣.C 𝓣.Λ code.function (rawptr_vals p ++ []) (W.post (y p)))) e refl $
    enter ! _ _ _ _ _ $ alloc_all ! (λ l. pass_all ! refl ((tt, tt), tt) $
    use1 𝓛 (some (λ (v : Val). ‵ (fat full_share (lone R.mir) b o v) ⊛ ‵ (R.own_val t (v ∷ []))))
    (part_out 𝓛 R refl full_share t b o) $ pick ! (λ v. split ! $ move ! (1 ∷ []) $
    peeks ! R (Is R) (shows 𝓛 R) t (v ∷ []) (λ is. let ok = ((tree_laws.lawful 𝓛).typed t (v ∷ []) is).0 in
    sets ! (of_opd ! (get ! refl)) refl (tt, tt) $
    sets ! (of_opd ! (get ! refl)) refl (tt, tt) $
    first ! $ blocks ! $ sets ! (of_opd ! (get ! refl)) refl (tt, tt) $
    sets_last ! (of_opd ! (load ! (through ! refl (stop !)) (look ! 1 refl))) refl ok $
    exec ! 𝓣.C 𝓣.Λ (env code.Mir.locals l) code.Mir.t-4 (at_ret _ (W.post (y (block_ptr b o)))) $
    sets ! (of_opd ! (get ! refl)) refl ok $
    -- [what the tree owns; the cell]
    let G = triple_of 𝓛 g.signature (g.spec 𝓛 𝓜.mem 𝓡.returns) in
    let z : G.Ghost = ((tt, tt, tt, (t, tt), (v ∷ [], tt)), tt) in
    nothing ! $ move ! (1 ∷ 0 ∷ []) $ fjoin ! $ nothing ! $ join ! $ nothing ! $ move ! (1 ∷ 0 ∷ []) $ join ! $ use1 𝓛
    (raw (G.pre z)) (id⊢ 𝓤 _) $
    calls_at ! (framed 𝓤 𝓛.H 𝓜 (tables 𝓤 𝓛.H 𝓜 𝓡 𝓡.env)) G
    (met 𝓤 𝓛 𝓜 𝓡 (code.calls-hull_c::calls::finish 𝓡.env wired)) z
    (and_then ! (get ! refl) (no_more !)) (λ r.
    use1 𝓛 (later (some (λ (u : ℕ). (‵ ftrue ⊛ ‵ (u32.own_val u (r ∷ []))) ⊛
    some (λ (ws : Lasts g.ended z.0.0 z.0.3). ‵ (lasts g.ended z.0.0 z.0.3 ws) ⊛ raw (fact 𝓤 (u ≡ 0)))))) (id⊢ 𝓤 _) $
    await ! tt $ pick ! (λ u. split ! $ split ! $ drop ! $
    peeks ! u32 (Is u32) (shows 𝓛 u32) u (r ∷ []) (λ isu. lands_as ! refl refl ((uint_Lawful 𝓛 w32).typed u _ isu).0 $
    move ! (1 ∷ []) $ pick ! (λ ws. split ! $ drop ! $ heard ! _ (λ low. move ! (1 ∷ []) $
    use1 𝓛 (‵ (froom (lone R.mir) b o)) (𝓛.laws.at_room (lone R.mir) b o v) $
    -- [the storage; the result]
    nothing ! $ fpack ! (u ≡ 0) (λ _. ftrue) low $ move ! (1 ∷ 0 ∷ []) $ fjoin ! $
    returns ! (look_at ! 0 refl) $ free_all ! refl $ keep ! (1 ∷ 0 ∷ []) $
    suffices ! _ (ends_at 𝓛 f.ended stayed c (y (block_ptr b o)) r u (tt, tt) (tt, tt)) $
    nothing ! $ nothing ! $ join ! $ nothing ! $ group ! 3 $ done !))))))))))
