-- `hull_make` meets its contract.
use Rattle.hull_reply.proofs.Steps.{◌++◌, [], ◌∷◌, refl, proved, full_share, id⊢, ftrue, fact, tables, WpFn, ‵, raw, ◌⊛◌, some, later, prop}
use Rattle.hull_reply.proofs.Steps.{at_ret, ◌$◌, ◌∵◌, !, qed, done, move, keep, drop, use1, split, join, pick, await, regoal, suffices}
use Rattle.hull_reply.proofs.Steps.{group, heard, fpack, uint_vals, uint_Tells, uint_Makes, owned, and_then, no_more, calls_at, framed}
use Rattle.hull_reply.proofs.Steps.{triple_of, lasts, Lasts, lands_as, u32, w32, uint_Lawful, fjoin, enter, of_opd, stop, first, blocks}
use Rattle.hull_reply.proofs.Steps.{exec, returns, alloc_all, pass_all, free_all, look_at, get, through, sets, env, yes, Ptr, RawPtr}
use Rattle.hull_reply.proofs.Steps.{block_ptr, lies_at, in_a_block, rawptr_vals, rawptr_Tells, plain, nothing, Stays, walk_of, stay_dropped}
use Rattle.hull_reply.proofs.Steps.{Goes-dropped, ends_at}
use Rattle.hull_c.specs.contracts.hull.Hull.{the_row as R}
use Rattle.hull_c.proofs.hull.Hull.TheLaws.{the_row_laws as tree_laws}
use denote.Laws.{Is, shows}
use denote.Steps.{peeks}
use Rattle.hull_c.specs.contracts.exports.sets.hull_make as f
use Rattle.hull_c.proofs.exports.sets.hull_make.Statement.{statement}
use Rattle.hull_c.proofs.exports.sets.hull_make.Code as code
use Rattle.hull_c.specs.contracts.calls.fresh as g
use Rattle.hull_c.proofs.calls.fresh.Met.{met}
use types.Run.{assigns_last, init, unit_lit}
use types.Kit.{feq_i, use2}
use Rattle.hull_c.specs.Calls.{IsFresh}
use mir.Val.{vunit}
use borrow.Table.OneValue.{part_in}
use denote.RawPtr.{room_at}
use base.Fml.{fex, fsep}
use Rattle.heap.proofs.Laws as heap_laws
use Rattle.heap.specs.Rows.{heap_row as Heap}

abbrev stayed : Stays f.ended.signature.params f.ended.kept
stayed = (stay_dropped _ yes, (stay_dropped _ yes, (stay_dropped _ yes, tt)))

pub hull_make_spec : {M : Type 1} → statement M
hull_make_spec 𝓤 𝓛 𝓜 𝓡 wired =
    let c = f.clauses 𝓛 𝓜.mem 𝓡.returns in let W = walk_of 𝓛 f.ended stayed c in let 𝓣 = tables 𝓤 𝓛.H 𝓜 𝓡 𝓡.env in
    proved 𝓛 f.ended stayed c 𝓜 𝓡 (
      Goes-dropped 𝓛 0 (plain (λ _. Heap)) yes (λ κs x w. refl),
      (
        Goes-dropped 𝓛 0 (plain (λ _. u32)) yes (λ κs x w. refl),
        (Goes-dropped 𝓛 0 (plain (λ _. RawPtr)) yes (λ κs x w. refl), tt),
      ),
    )
    f.Key.name code.function (code.unfolded 𝓤 𝓛.H 𝓜 𝓡 wired)
    (λ κs. ((λ x. heap_laws.lowers.lowered x ∷ []), (uint_vals w32, (rawptr_vals, tt))))
    (λ κs. ((λ x vs is. heap_laws.lowers.val_is x vs is), (uint_Tells w32, (rawptr_Tells, tt))))
    (λ κs qs bounds a t are.
    let x = a.0 in let lim = a.1.0 in let hv = heap_laws.lowered x in
    let y : Ptr → W.Ghost =
    λ p. ((κs, qs, bounds, (x, (lim, (p, tt))), (hv ∷ [], (uint_vals w32 lim, (rawptr_vals p, tt)))), t) in
    qed 𝓛 ((‵ ftrue ⊛ ‵ (Heap.own_val x (hv ∷ [])) ⊛ ‵ (u32.own_val lim (uint_vals w32 lim)) ⊛ ‵
    (RawPtr.own_val a.1.1.0 (rawptr_vals a.1.1.0)) ⊛ ‵ ftrue) ∷ ‵ (room_at R a.1.1.0)
    ∷ []) ∵ split ! $ drop ! $ split ! $ move ! (1 ∷ []) $ drop ! $ move ! (1 ∷ []) $
    -- [the storage; what the allocator owns]
    in_a_block ! a.1.1.0 (λ p. room_at R p) (id⊢ 𝓤 _) (λ b o e.
    regoal ! (λ p. prop (WpFn 𝓤 𝓛.H 𝓣.C 𝓣.Λ code.function ((hv ∷ []) ++ (uint_vals w32 lim ++ (rawptr_vals p ++ [])))
    (W.post (y p)))) e refl $
    enter ! _ _ _ _ _ $ alloc_all !
    (λ l. pass_all ! refl (
      ((heap_laws.the_row_laws.lawful 𝓛).typed x _ are.0).0,
      (((uint_Lawful 𝓛 w32).typed lim _ are.1.0).0, ((tt, tt), tt)),
    ) $
    sets ! (of_opd ! (get ! refl)) refl (tt, tt) $
    let G = triple_of 𝓛 g.signature (g.spec 𝓛 𝓜.mem 𝓡.returns) in
    let z : G.Ghost = ((tt, tt, tt, (x, (lim, tt)), (hv ∷ [], (uint_vals w32 lim, tt))), tt) in
    nothing ! $ owned ! u32 (Is u32) (uint_Makes 𝓛 w32) lim _ are.1.0 $ fjoin ! $ move !
    (2 ∷ 0 ∷ []) $ fjoin ! $ nothing ! $ join ! $ nothing ! $ move ! (1 ∷ 0 ∷ []) $ join ! $ use1 𝓛
    (raw (G.pre z)) (id⊢ 𝓤 _) $
    calls_at ! (framed 𝓤 𝓛.H 𝓜 (tables 𝓤 𝓛.H 𝓜 𝓡 𝓡.env)) G (met 𝓤 𝓛 𝓜 𝓡 (code.calls-hull_c::calls::fresh 𝓡.env wired)) z
    (and_then ! (get ! refl) (and_then ! (get ! refl) (no_more !))) (λ v.
    use1 𝓛 (later (some (λ (u : R.Denot). (‵ ftrue ⊛ ‵ (R.own_val u (v ∷ []))) ⊛
    some (λ (ws : Lasts g.ended z.0.0 z.0.3). ‵ (lasts g.ended z.0.0 z.0.3 ws) ⊛ raw
    (fact 𝓤 (IsFresh lim u)))))) (id⊢ 𝓤 _) $
    await ! tt $ pick ! (λ u. split ! $ split ! $ drop ! $
    peeks ! R (Is R) (shows 𝓛 R) u (v ∷ [])
    (λ is. let ok = ((tree_laws.lawful 𝓛).typed u (v ∷ []) is).0 in lands_as ! refl refl ok $
    move ! (1 ∷ []) $ pick ! (λ ws. split ! $ move ! (1 ∷ []) $ heard ! _ (λ low. drop ! $
    -- [what the tree owns; the storage]
    first ! $ blocks ! $ sets ! (of_opd ! (get ! refl)) refl ok $
    assigns_last ! (of_opd ! (get ! refl)) (through ! refl (stop !)) (init ! 1 refl ok) $
    exec ! 𝓣.C 𝓣.Λ (env code.Mir.locals l) code.Mir.t-4 (at_ret _ (W.post (y (block_ptr b o)))) $
    sets ! (of_opd ! (unit_lit !)) refl (tt, tt) $
    returns ! (look_at ! 0 refl) $ free_all ! refl $ move ! (1 ∷ 0 ∷ []) $
    use2 𝓛 (‵ (lies_at R full_share (block_ptr b o) u)) (part_in 𝓛 R refl full_share u b o v) $
    nothing ! $ fpack ! (IsFresh lim u) (λ _. ftrue) low $ move ! (1 ∷ 0 ∷ []) $ fjoin ! $
    fpack ! R.Denot (λ t'. fsep (lies_at R full_share (block_ptr b o) t')
    (fex (IsFresh lim t') (λ _. ftrue))) u $ keep ! (0 ∷ []) $
    suffices ! _ (ends_at 𝓛 f.ended stayed c (y (block_ptr b o)) vunit tt (tt, (tt, (tt, tt))) (tt, (tt, (tt, tt)))) $
    feq_i ! _ (vunit ∷ []) _ refl $ nothing ! $ nothing ! $ join ! $ nothing ! $ join ! $ nothing ! $ join ! $ nothing ! $ group ! 3 $ done !))))))))
