-- An export in C that passes references to what two pointers point to on to one function, and does nothing else,
-- meets its contract if that function meets its own. Both contracts may require a fact about what is there.
use Rattle.hull_reply.proofs.Steps.{ℕ, ◌++◌, List, [], ◌∷◌, full_share, ftrue, flft, flent, fres, named, vptr, Val, fact, tables, WpFn, ‵}
use Rattle.hull_reply.proofs.Steps.{raw, ◌⊛◌, some, later, prop, ◌$◌, ◌∵◌, !, qed, done, move, keep, drop, use1, use3, split, join, fsplit}
use Rattle.hull_reply.proofs.Steps.{fjoin, fpack, pick, await, suffices, frame, lft_new, lft_end, yes, Is, mem, lends_ref, ref_back, RawPtr}
use Rattle.hull_reply.proofs.Steps.{block_ptr, lies_at, rawptr_vals, rawptr_Tells, MutRef, Body, plain, nothing, heard, peeks, framed}
use Rattle.hull_reply.proofs.Steps.{shows}
use Rattle.hull_reply.proofs.Lends.{Argument, Each, Result, all_told, each, exported, slots, spelled, stored}
use Rattle.hull_shared.specs.Left.{leaves_both}
use mathlib.Core.Option.{Option, none, some as wanted}
use lib.Dec.{T}
use seplogic.Ra.Ura.{Ura}
use base.Logic.{SProp, ent, sep, emp, ex, guard, id⊢, via, fst∗, snd∗, mono_r, never_e}
use base.Fml.{Lft, Share, GName, fbor, fsep, fex}
use mir.Syntax.{Fn, Callee}
use mir.Val.{has_ty, WT}
use prog.Model.{Model}
use prog.Wp.{Closed}
use contract.Monad.{fact_i, fact_use}
use contract.Running.{Running, MachineTables}
use types.Logic.{Logic, sem}
use types.Kit.{by, check as checks, show, updating, now as at_once, use0, Sq}
use denote.RattleType.{RattleType, Denots, Valss, flat, owns}
use denote.Laws.{Are, Ises}
use denote.RawPtr.{Ptr, ptr_val, null_ptr}
use denote.Ref.{MutBor}
use denote.Signature.{Signature, types_at}
use denote.Triple.End.{Kepts, Fins, lasts_of, all}
use denote.Triple.Entry.{on_entry}
use denote.Triple.Spec.{Spec, Meets}
use denote.Triple.Statement.{Contract, Triple}
use denote.Triple.Table.{enters}

-- a fact that may be required, before the other requirements, and only the fact
module _ {M : Type 1} (𝓤 : Ura M) where
  abbrev pub asks : Option (Type 0) → SProp 𝓤 → SProp 𝓤
  asks none P = P
  asks (wanted φ) P = sep 𝓤 (fact 𝓤 φ) P

  abbrev pub asked : Option (Type 0) → SProp 𝓤
  asked none = emp 𝓤
  asked (wanted φ) = fact 𝓤 φ

  -- the requirements give the other requirements, and the fact at no cost
  asked_for : (want : Option (Type 0)) (P T Q : SProp 𝓤) → (ent 𝓤 (emp 𝓤) (asked want) → ent 𝓤 (sep 𝓤 P T) Q) → ent 𝓤 (sep 𝓤 P (asks want T)) Q
  asked_for none P T Q h = h (id⊢ 𝓤 (emp 𝓤))
  asked_for (wanted φ) P T Q h =
      fact_use 𝓤 φ (via 𝓤 _ (snd∗ 𝓤 P (sep 𝓤 (fact 𝓤 φ) T)) (fst∗ 𝓤 (fact 𝓤 φ) T)) (λ holds.
      via 𝓤 _ (mono_r 𝓤 P (snd∗ 𝓤 (fact 𝓤 φ) T)) (h (fact_i 𝓤 φ (emp 𝓤) holds)))

module _ {M : Type 1} (𝓤 : Ura M) (𝓛 : Logic 𝓤) (𝓜 : Model 𝓤 𝓛.H) (𝓡 : Running 𝓤 𝓛.H 𝓜) where
  open 𝓛 use {H, A}

  abbrev 𝓣 : MachineTables 𝓤 H 𝓜
  𝓣 = tables 𝓤 H 𝓜 𝓡 𝓡.env

  module _ (As : List (Argument 0)) (R Q : RattleType) (Out : Result) (wants : R.Denot → Q.Denot → Option (Type 0))
      (law : Denots (types_at (slots As) tt) → R.Denot → R.Denot → Q.Denot → Q.Denot → Out.row.Denot → Type 0) where
    abbrev Rs : List RattleType
    Rs = types_at (slots As) tt

    abbrev kept : Kepts (slots As)
    kept = all yes (slots As)

    -- the export's contract
    abbrev S : Signature
    S = record {
      lifetimes = 0;
      outlives = [];
      params = plain (λ _. RawPtr) ∷ plain (λ _. RawPtr) ∷ slots As;
      result = plain (λ _. Out.row);
    }

    abbrev spec : Spec 𝓤 S
    spec κs a = record {
      ghost = R.Denot × Q.Denot;
      requires = λ t. asks 𝓤 (wants t.0 t.1) (sep 𝓤 (sem 𝓛 (lies_at R full_share a.0 t.0)) (sem 𝓛 (lies_at Q full_share a.1.0 t.1)));
      ensures = λ t u. ex 𝓤 (λ (ws : Fins κs S.params (yes, (yes, kept)) a). sep 𝓤
          (sem 𝓛 (lasts_of κs S.params (yes, (yes, kept)) a ws))
          (sem 𝓛 (leaves_both R Q a.0 a.1.0 (λ new left. law a.1.1 t.0 new t.1 left u))));
    }

    -- the function's contract: the two references come first, and their lifetimes
    abbrev pub LentBoth : Contract 𝓤
    LentBoth = record {
      Ghost = (κs : Lft × (Lft × Unit {0})) × (Share × (Share × Unit {0})) × Unit {0}
          × (MutBor R.Denot × (MutBor Q.Denot × Denots Rs)) × (List Val × (List Val × Valss Rs));
      args = λ x. x.4.0 ++ (x.4.1.0 ++ flat Rs x.4.1.1);
      pre = λ x. sep 𝓤
          (sep 𝓤 (sep 𝓤 (A.lft x.0.0 x.1.0) (sep 𝓤 (A.lft x.0.1.0 x.1.1.0) (emp 𝓤)))
          (sem 𝓛 (fsep ((MutRef (named 0) x.0.0 R).own_val x.3.0 x.4.0)
          (fsep ((MutRef (named 1) x.0.1.0 Q).own_val x.3.1.0 x.4.1.0) (owns Rs x.3.1.1 x.4.1.1)))))
          (asked 𝓤 (wants x.3.0.now x.3.1.0.now));
      post = λ x v. H.⇛ (ex 𝓤 (λ (u : Out.row.Denot). sep 𝓤
          (sep 𝓤 (sep 𝓤 (A.lft x.0.0 x.1.0) (sep 𝓤 (A.lft x.0.1.0 x.1.1.0) (emp 𝓤))) (sem 𝓛 (Out.row.own_val u (v ∷ []))))
          (ex 𝓤 (λ (ws : R.Denot × (Q.Denot × Fins tt (slots As) kept x.3.1.1)). sep 𝓤
          (sem 𝓛 (fsep (fsep (fres x.3.0.ghost_name (R.coded.code ws.0))
          (fbor x.0.0 (Body (mem R) x.3.0.ref_ptr.0 x.3.0.ref_ptr.1 x.3.0.ghost_name)))
          (fsep (fsep (fres x.3.1.0.ghost_name (Q.coded.code ws.1.0))
          (fbor x.0.1.0 (Body (mem Q) x.3.1.0.ref_ptr.0 x.3.1.0.ref_ptr.1 x.3.1.0.ghost_name)))
          (lasts_of tt (slots As) kept x.3.1.1 ws.1.1))))
          (fact 𝓤 (law x.3.1.1 x.3.0.now ws.0 x.3.1.0.now ws.1.0 u))))));
    }

    -- the code does what the function does at the same machine values
    abbrev pub Passes : Callee → Fn → Type 2
    Passes j e = (b o d w : ℕ) (P : Val → SProp 𝓤) → ((v : Val) → ent 𝓤 (P v) (guard 𝓤 (T (has_ty Out.ty v) × WT v) (P v)))
        → Each tt As (λ vs. Sq 𝓛 (raw (𝓣.C j (vptr b o ∷ vptr d w ∷ vs) (λ v. H.⇛ (P v))) ∷ [])
        (prop (WpFn 𝓤 H 𝓣.C 𝓣.Λ e (vptr b o ∷ vptr d w ∷ vs) (λ v. H.⇛ (P v)))))

    module _ {j : Callee} (meets : Triple 𝓤 (𝓣.C j) LentBoth) where
      module _ (a : Denots Rs) (t : R.Denot) (s : Q.Denot) where
        -- the state at the return, before the update
        abbrev Ends : Ptr → Ptr → Val → SProp 𝓤
        Ends p q v = ex 𝓤 (λ (u : Out.row.Denot).
            sep 𝓤 (sep 𝓤 (emp 𝓤) (sem 𝓛 (Out.row.own_val u (v ∷ [])))) ((spec tt (p, (q, a))).ensures (t, s) u))

        typed : (p q : Ptr) (v : Val) → ent 𝓤 (Ends p q v) (guard 𝓤 (T (has_ty Out.ty v) × WT v) (Ends p q v))
        typed p q v = let leaving = (spec tt (p, (q, a))).ensures (t, s) in
            qed 𝓛 (some (λ (u : Out.row.Denot). (‵ ftrue ⊛ ‵ (Out.row.own_val u (v ∷ []))) ⊛ raw (leaving u)) ∷ []) ∵
            pick ! (λ u. split ! $ split ! $ move ! (1 ∷ []) $
            peeks ! Out.row (Is Out.row) (shows 𝓛 Out.row) u (v ∷ []) (λ is. checks ! (Out.typed u v is) $
            show ! (λ (u : Out.row.Denot). sep 𝓤 (sep 𝓤 (emp 𝓤) (sem 𝓛 (Out.row.own_val u (v ∷ [])))) (leaving u)) u $
            move ! (1 ∷ 0 ∷ []) $ join ! $ join ! $ done !))

        module _ (vss : Valss Rs) (b o d w : ℕ) where
          abbrev lending : Lft → Lft → GName → GName → LentBoth.Ghost
          lending κ μ γ δ = (
            (κ, (μ, tt)),
            (full_share, (full_share, tt)),
            tt,
            (
              record { ref_ptr = (b, o); ghost_name = γ; now = t },
              (record { ref_ptr = (d, w); ghost_name = δ; now = s }, a),
            ),
            (vptr b o ∷ [], (vptr d w ∷ [], vss)),
          )

          abbrev Kept : Lft → Lft → GName → GName → SProp 𝓤
          Kept κ μ γ δ = sep 𝓤 (sem 𝓛 (flent κ (Body (mem R) b o γ))) (sem 𝓛 (flent μ (Body (mem Q) d w δ)))

          -- the state after the call and the end of both loans is the state that the export leaves
          taken_back : (α β : ℕ) (γ δ : GName) (v : Val)
              → ent 𝓤 (sep 𝓤 (LentBoth.post (lending (α ∷ []) (β ∷ []) γ δ) v) (Kept (α ∷ []) (β ∷ []) γ δ))
              (H.⇛ (Ends (block_ptr b o) (block_ptr d w) v))
          taken_back α β γ δ v = let κ : Lft = α ∷ [] in let μ : Lft = β ∷ [] in
              let left = λ (u : Out.row.Denot) (r : R.Denot) (q : Q.Denot). fsep (lies_at R full_share (block_ptr b o) r)
              (fsep (lies_at Q full_share (block_ptr d w) q) (fex (law a t r s q u) (λ _. ftrue))) in
              qed 𝓛 (later (some (λ (u : Out.row.Denot).
              ((‵ (flft κ full_share) ⊛ ‵ (flft μ full_share) ⊛ ‵ ftrue) ⊛ ‵ (Out.row.own_val u (v ∷ []))) ⊛
              some (λ (ws : R.Denot × (Q.Denot × Fins tt (slots As) kept a)).
              ‵ (fsep (fsep (fres γ (R.coded.code ws.0)) (fbor κ (Body (mem R) b o γ)))
              (fsep (fsep (fres δ (Q.coded.code ws.1.0)) (fbor μ (Body (mem Q) d w δ))) (lasts_of tt (slots As) kept a ws.1.1))) ⊛
              raw (fact 𝓤 (law a t ws.0 s ws.1.0 u)))))
              ∷ (‵ (flent κ (Body (mem R) b o γ)) ⊛ ‵ (flent μ (Body (mem Q) d w δ))) ∷ []) ∵
              updating ! $ await ! tt $ pick ! (λ u. split ! $ split ! $ split ! $ lft_end ! tt $ move ! (1 ∷ []) $ split ! $
              lft_end ! tt $
              -- [the second's lifetime is over; nothing; the first's is; the result; the rest; what the lenders keep]
              move ! (5 ∷ []) $ split ! $ move ! (6 ∷ []) $ pick ! (λ ws. split ! $ move ! (1 ∷ []) $ heard ! _ (λ holds.
              fsplit ! $ fsplit ! $
              -- [the first's last value; its borrow; the second's; the first's lender; the second's; the second's lifetime is
              -- over; nothing; the first's is; the result]
              move ! (7 ∷ 3 ∷ 0 ∷ []) $ use3 𝓛 (later (‵ ((mem R).own_at ws.0 b o))) (ref_back 𝓛 R κ γ ws.0 b o) $
              await ! tt $ move ! (2 ∷ []) $ fsplit ! $ fsplit ! $
              -- [the second's last value; its borrow; the other last values; the value at the first; its borrow; the second's
              -- lender; its lifetime is over; nothing; the result]
              move ! (6 ∷ 5 ∷ 0 ∷ []) $ use3 𝓛 (later (‵ ((mem Q).own_at ws.1.0 d w))) (ref_back 𝓛 Q μ δ ws.1.0 d w) $
              await ! tt $ at_once ! $
              -- [the value at the second; its borrow; the other last values; the value at the first; its borrow; nothing; the result]
              show ! (λ (u : Out.row.Denot). sep 𝓤 (sep 𝓤 (emp 𝓤) (sem 𝓛 (Out.row.own_val u (v ∷ []))))
              ((spec tt (block_ptr b o, (block_ptr d w, a))).ensures (t, s) u)) u $
              move ! (5 ∷ 6 ∷ []) $ join ! $ frame ! $
              show ! (λ (us : Unit {0} × (Unit {0} × Fins tt (slots As) kept a)). sep 𝓤
              (sem 𝓛 (fsep ftrue (fsep ftrue (lasts_of tt (slots As) kept a us.1.1))))
              (sem 𝓛 (leaves_both R Q (block_ptr b o) (block_ptr d w) (λ new left. law a t new s left u)))) (tt, (tt, ws.1.1)) $
              nothing ! $ move ! (0 ∷ 3 ∷ []) $ fjoin ! $ nothing ! $ move ! (0 ∷ 1 ∷ []) $ fjoin ! $ frame ! $
              nothing ! $ fpack ! (law a t ws.0 s ws.1.0 u) (λ _. ftrue) holds $ move ! (1 ∷ 0 ∷ []) $ fjoin ! $
              move ! (2 ∷ 0 ∷ []) $ fjoin ! $ fpack ! Q.Denot (λ q. left u ws.0 q) ws.1.0 $
              fpack ! R.Denot (λ r. fex Q.Denot (λ q. left u r q)) ws.0 $ keep ! (0 ∷ []) $ done !)))

          lent : ent 𝓤 (emp 𝓤) (asked 𝓤 (wants t s)) → ent 𝓤 (sep 𝓤
              (sep 𝓤 (emp 𝓤) (sem 𝓛 (fsep (RawPtr.own_val (block_ptr b o) (vptr b o ∷ []))
              (fsep (RawPtr.own_val (block_ptr d w) (vptr d w ∷ [])) (owns Rs a vss)))))
              (sep 𝓤 (sem 𝓛 (lies_at R full_share (block_ptr b o) t)) (sem 𝓛 (lies_at Q full_share (block_ptr d w) s))))
              (𝓣.C j (vptr b o ∷ vptr d w ∷ flat Rs vss) (λ v. H.⇛ (Ends (block_ptr b o) (block_ptr d w) v)))
          lent wants_it = let vs : List Val = vptr b o ∷ vptr d w ∷ flat Rs vss in
              qed 𝓛 ((‵ ftrue ⊛ ‵ (fsep (RawPtr.own_val (block_ptr b o) (vptr b o ∷ []))
              (fsep (RawPtr.own_val (block_ptr d w) (vptr d w ∷ [])) (owns Rs a vss))))
              ∷ ‵ (lies_at R full_share (block_ptr b o) t) ∷ ‵ (lies_at Q full_share (block_ptr d w) s) ∷ []) ∵
              suffices ! _ (enters 𝓤 H 𝓜 𝓣 j vs (λ v. H.⇛ (Ends (block_ptr b o) (block_ptr d w) v))) $ updating ! $
              split ! $ drop ! $ fsplit ! $ drop ! $ fsplit ! $ drop ! $
              -- [what else is passed; the value at the first; the value at the second]
              move ! (1 ∷ []) $ lft_new ! tt (λ α. let κ : Lft = α ∷ [] in move ! (1 ∷ []) $
              use1 𝓛 (later (some (λ (γ : GName). ‵ ((MutRef (named 0) κ R).own_val
              (record { ref_ptr = (b, o); ghost_name = γ; now = t }) (vptr b o ∷ [])) ⊛ ‵ (flent κ (Body (mem R) b o γ)))))
              (lends_ref 𝓛 R (named 0) κ t b o) $ await ! tt $ pick ! (λ γ. split ! $ move ! (4 ∷ []) $
              -- [the value at the second; the first's loan; what its lender keeps; its token; what else is passed]
              lft_new ! tt (λ β. let μ : Lft = β ∷ [] in move ! (1 ∷ []) $
              use1 𝓛 (later (some (λ (δ : GName). ‵ ((MutRef (named 1) μ Q).own_val
              (record { ref_ptr = (d, w); ghost_name = δ; now = s }) (vptr d w ∷ [])) ⊛ ‵ (flent μ (Body (mem Q) d w δ)))))
              (lends_ref 𝓛 Q (named 1) μ s d w) $ await ! tt $ pick ! (λ δ. split ! $
              -- [the second's loan; its lender; its token; the first's loan; its lender; its token; what else is passed]
              let x : LentBoth.Ghost = lending κ μ γ δ in
              move ! (0 ∷ 6 ∷ []) $ fjoin ! $ move ! (3 ∷ 0 ∷ []) $ fjoin ! $
              -- [what is passed; the second's lender; its token; the first's lender; its token]
              nothing ! $ move ! (3 ∷ 0 ∷ []) $ join ! $ move ! (4 ∷ 0 ∷ []) $ join ! $ join ! $
              use0 𝓛 (raw (asked 𝓤 (wants t s))) wants_it $ move ! (1 ∷ 0 ∷ []) $ join ! $
              -- [what the function asks; the second's lender; the first's]
              use1 𝓛 (raw (𝓣.C j vs (LentBoth.post x))) (meets x) $ at_once ! $ move ! (0 ∷ 2 ∷ 1 ∷ []) $
              by ! (framed 𝓤 H 𝓜 𝓣 j vs (LentBoth.post x) (λ v. H.⇛ (Ends (block_ptr b o) (block_ptr d w) v))
              (Kept κ μ γ δ) (taken_back α β γ δ))))))

      module _ {k : Callee} (e : Fn) (closed : Closed 𝓤 H 𝓣.C 𝓣.Λ k e) (passes : Passes j e) where
        abbrev Passed : Ptr → Ptr → Denots Rs → SProp 𝓤
        Passed p q a = on_entry 𝓛 S tt tt (p, (q, a)) (rawptr_vals p, (rawptr_vals q, stored tt As a))

        abbrev Lie : Ptr → Ptr → R.Denot × Q.Denot → SProp 𝓤
        Lie p q t = sep 𝓤 (sem 𝓛 (lies_at R full_share p t.0)) (sem 𝓛 (lies_at Q full_share q t.1))

        served : (p q : Ptr) (a : Denots Rs) (t : R.Denot × Q.Denot) → Are Rs (Ises Rs) a (stored tt As a)
            → ent 𝓤 (emp 𝓤) (asked 𝓤 (wants t.0 t.1)) → ent 𝓤 (sep 𝓤 (Passed p q a) (Lie p q t))
            (WpFn 𝓤 H 𝓣.C 𝓣.Λ e (ptr_val p ∷ ptr_val q ∷ flat Rs (stored tt As a)) (λ v. H.⇛ (Ends a t.0 t.1 p q v)))
        served null_ptr q a t are wants_it = via 𝓤 (Lie null_ptr q t) (snd∗ 𝓤 (Passed null_ptr q a) (Lie null_ptr q t))
            (via 𝓤 _ (fst∗ 𝓤 _ (sem 𝓛 (lies_at Q full_share q t.1))) (never_e 𝓤 _))
        served (block_ptr b o) null_ptr a t are wants_it = via 𝓤 (Lie (block_ptr b o) null_ptr t)
            (snd∗ 𝓤 (Passed (block_ptr b o) null_ptr a) (Lie (block_ptr b o) null_ptr t))
            (via 𝓤 _ (snd∗ 𝓤 (sem 𝓛 (lies_at R full_share (block_ptr b o) t.0)) _) (never_e 𝓤 _))
        served (block_ptr b o) (block_ptr d w) a t are wants_it =
            let P : Val → SProp 𝓤 = Ends a t.0 t.1 (block_ptr b o) (block_ptr d w) in
            via 𝓤 _ (lent a t.0 t.1 (stored tt As a) b o d w wants_it)
            (each tt As a are
            (λ vs. Sq 𝓛 (raw (𝓣.C j (vptr b o ∷ vptr d w ∷ vs) (λ v. H.⇛ (P v))) ∷ [])
            (prop (WpFn 𝓤 H 𝓣.C 𝓣.Λ e (vptr b o ∷ vptr d w ∷ vs) (λ v. H.⇛ (P v)))))
            (passes b o d w P (typed a t.0 t.1 (block_ptr b o) (block_ptr d w)))).prf

        pub lends_both : Meets 𝓛 S (𝓣.C k) spec
        lends_both = exported 𝓤 𝓛 𝓜 𝓡 S spec e closed (λ κs. (rawptr_vals, (rawptr_vals, spelled tt As)))
            (λ κs. (rawptr_Tells, (rawptr_Tells, all_told tt As))) (λ κs qs a t are.
            asked_for 𝓤 (wants t.0 t.1) (Passed a.0 a.1.0 a.1.1) (Lie a.0 a.1.0 t) _ (served a.0 a.1.0 a.1.1 t are.1.1))
