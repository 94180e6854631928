-- An export in C that writes the result of one function without arguments to storage, and does nothing else, meets
-- its contract if that function meets its own.
use Rattle.hull_reply.proofs.Steps.{◌≡◌, [], ◌∷◌, refl, full_share, ftrue, Val, fact, tables, WpFn, ‵, raw, ◌⊛◌, some, later, at_ret, ◌$◌}
use Rattle.hull_reply.proofs.Steps.{◌∵◌, !, qed, done, move, keep, drop, use1, split, join, fjoin, fpack, pick, await, suffices, frame}
use Rattle.hull_reply.proofs.Steps.{enter, of_opd, stop, no_more, first, blocks, exec, returns, alloc_all, pass_all, free_all, look_at, get}
use Rattle.hull_reply.proofs.Steps.{through, sets, lands_as, env, Is, RawPtr, block_ptr, lies_at, rawptr_vals, rawptr_Tells, plain, nothing}
use Rattle.hull_reply.proofs.Steps.{heard, peeks, framed, shows, calls_at}
use Rattle.hull_reply.proofs.Lends.{copies, exported}
use Rattle.hull_reply.specs.Left.{leaves}
use Rattle.std.proofs.VecSteps.Shapes.{after}
use lib.Dec.{T}
use seplogic.Ra.Ura.{Ura}
use borrow.Table.OneValue.{part_in}
use base.Logic.{SProp, ent, sep, emp, ex, id⊢, via, snd∗, never_e}
use base.Fml.{fsep, fex}
use mir.Syntax.{Fn, Callee, local, value_local, place, copy, assign, rv_opd, deref, block, seq, call, return, ty_ptr, ty_unit, opd_unit}
use mir.Val.{has_ty, vunit, WT}
use prog.Model.{Model}
use prog.Wp.{Closed}
use contract.Running.{Running, MachineTables}
use types.Logic.{Logic, sem}
use types.Kit.{feq_i, show, use2}
use types.Run.{assigns_last, init, unit_lit}
use denote.Builtin.{unit}
use denote.Memory.{lone}
use denote.RattleType.{RattleType}
use denote.RawPtr.{Ptr, null_ptr, room_at}
use denote.Signature.{Signature}
use denote.Triple.Entry.{on_entry}
use denote.Triple.Spec.{Spec, Meets}
use denote.Triple.Statement.{Contract, Triple}

module _ {M : Type 1} (𝓤 : Ura M) (𝓛 : Logic 𝓤) (𝓜 : Model 𝓤 𝓛.H) (𝓡 : Running 𝓤 𝓛.H 𝓜) where
  open 𝓛 use {H}

  abbrev 𝓣 : MachineTables 𝓤 H 𝓜
  𝓣 = tables 𝓤 H 𝓜 𝓡 𝓡.env

  module _ (R : RattleType) (one : R.mir ≡ lone R.mir ∷ [])
      (typed : (u : R.Denot) (v : Val) → Is R u (v ∷ []) → T (has_ty (lone R.mir) v) × WT v) (law : R.Denot → Type 0) where
    -- the export's contract
    abbrev S : Signature
    S = record { lifetimes = 0; outlives = []; params = plain (λ _. RawPtr) ∷ []; result = plain (λ _. unit) }

    abbrev spec : Spec 𝓤 S
    spec κs a = record {
      ghost = Unit {0};
      requires = λ t. sem 𝓛 (room_at R a.0);
      ensures = λ t u. ex 𝓤 (λ (ws : Unit {0} × Unit {0}). sep 𝓤 (sem 𝓛 (fsep ftrue ftrue)) (sem 𝓛 (leaves R a.0 law)));
    }

    -- the function's contract
    abbrev pub Made : Contract 𝓤
    Made = record {
      Ghost = Unit {0};
      args = λ x. [];
      pre = λ x. sep 𝓤 (sep 𝓤 (emp 𝓤) (emp 𝓤)) (emp 𝓤);
      post = λ x v. H.⇛ (ex 𝓤 (λ (u : R.Denot). sep 𝓤 (sep 𝓤 (emp 𝓤) (sem 𝓛 (R.own_val u (v ∷ []))))
          (ex 𝓤 (λ (ws : Unit {0}). sep 𝓤 (emp 𝓤) (fact 𝓤 (law u))))));
    }

    -- the code with its call of the function
    abbrev pub making : Callee → Fn
    making j = record {
      lifetimes = 0;
      outlives = [];
      ty_params = [];
      givens = 0;
      params = 1;
      locals = local ty_unit value_local ∷ local ty_ptr value_local ∷ local ty_ptr value_local
          ∷ local (lone R.mir) value_local ∷ local (lone R.mir) value_local ∷ [];
      body = seq (assign (place 2 []) (rv_opd (copy (place 1 [])))) (seq (call j [] (place 3 []))
          (seq (block (seq (assign (place 4 []) (rv_opd (copy (place 3 []))))
          (assign (place 2 (deref (lone R.mir) ∷ [])) (rv_opd (copy (place 4 []))))))
          (seq (assign (place 0 []) (rv_opd opd_unit)) return)));
    }

    module _ {j : Callee} (meets : Triple 𝓤 (𝓣.C j) Made) where
      abbrev Ends : Ptr → Val → SProp 𝓤
      Ends p v = H.⇛ (ex 𝓤 (λ (u : Unit {0}). sep 𝓤 (sep 𝓤 (emp 𝓤) (sem 𝓛 (unit.own_val u (v ∷ [])))) ((spec tt (p, tt)).ensures tt u)))

      made : (p : Ptr) → ent 𝓤 (sep 𝓤 (on_entry 𝓛 S tt tt (p, tt) (rawptr_vals p, tt)) (sem 𝓛 (room_at R p)))
          (WpFn 𝓤 H 𝓣.C 𝓣.Λ (making j) (rawptr_vals p) (Ends p))
      made null_ptr = via 𝓤 _ (snd∗ 𝓤 (on_entry 𝓛 S tt tt (null_ptr, tt) (rawptr_vals null_ptr, tt)) _) (never_e 𝓤 _)
      made (block_ptr b o) =
          qed 𝓛 (raw (on_entry 𝓛 S tt tt (block_ptr b o, tt) (rawptr_vals (block_ptr b o), tt)) ∷ ‵ (room_at R (block_ptr b o)) ∷ []) ∵
          drop ! $ enter ! _ _ _ _ _ $ alloc_all ! (λ l. pass_all ! refl ((tt, tt), tt) $ copies ! refl refl (tt, tt) $
          nothing ! $ nothing ! $ join ! $ nothing ! $ move ! (1 ∷ 0 ∷ []) $ join ! $ use1 𝓛 (raw (Made.pre tt)) (id⊢ 𝓤 _) $
          calls_at ! (framed 𝓤 H 𝓜 𝓣) Made meets tt (no_more !) (λ v.
          use1 𝓛 (later (some (λ (u : R.Denot). (‵ ftrue ⊛ ‵ (R.own_val u (v ∷ []))) ⊛
          some (λ (ws : Unit {0}). ‵ ftrue ⊛ raw (fact 𝓤 (law u)))))) (id⊢ 𝓤 _) $
          await ! tt $ pick ! (λ u. split ! $ split ! $ drop ! $ peeks ! R (Is R) (shows 𝓛 R) u (v ∷ []) (λ is.
          lands_as ! refl refl (typed u v is) $
          move ! (1 ∷ []) $ pick ! (λ ws. split ! $ drop ! $ heard ! _ (λ holds.
          -- [what the value owns; the storage]
          first ! $ blocks ! $ sets ! (of_opd ! (get ! refl)) refl (typed u v is) $
          assigns_last ! (of_opd ! (get ! refl)) (through ! refl (stop !)) (init ! 1 refl (typed u v is)) $
          exec ! 𝓣.C 𝓣.Λ (env (making j).locals l) (after 3 (making j).body) (at_ret _ (Ends (block_ptr b o))) $
          sets ! (of_opd ! (unit_lit !)) refl (tt, tt) $ returns ! (look_at ! 0 refl) $ free_all ! refl $
          suffices ! _ (𝓛.laws.⇛_intro _) $ move ! (1 ∷ 0 ∷ []) $
          use2 𝓛 (‵ (lies_at R full_share (block_ptr b o) u)) (part_in 𝓛 R one full_share u b o v) $
          nothing ! $ fpack ! (law u) (λ _. ftrue) holds $ move ! (1 ∷ 0 ∷ []) $ fjoin ! $
          fpack ! R.Denot (λ new. fsep (lies_at R full_share (block_ptr b o) new) (fex (law new) (λ _. ftrue))) u $
          show ! (λ (u : Unit {0}). sep 𝓤 (sep 𝓤 (emp 𝓤) (sem 𝓛 (unit.own_val u (vunit ∷ []))))
          ((spec tt (block_ptr b o, tt)).ensures tt u)) tt $
          feq_i ! _ (vunit ∷ []) _ refl $ nothing ! $ join ! $ frame ! $
          show ! (λ (ws : Unit {0} × Unit {0}). sep 𝓤 (sem 𝓛 (fsep ftrue ftrue)) (sem 𝓛 (leaves R (block_ptr b o) law))) (tt, tt) $
          nothing ! $ nothing ! $ fjoin ! $ frame ! $ keep ! (0 ∷ []) $ done !))))))

      pub makes : {k : Callee} → Closed 𝓤 H 𝓣.C 𝓣.Λ k (making j) → Meets 𝓛 S (𝓣.C k) spec
      makes closed = exported 𝓤 𝓛 𝓜 𝓡 S spec (making j) closed (λ κs. (rawptr_vals, tt)) (λ κs. (rawptr_Tells, tt))
          (λ κs qs a t are. made a.0)
