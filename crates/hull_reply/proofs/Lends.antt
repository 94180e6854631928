-- An export in C that only calls one function, with a reference to the object at a pointer, meets its contract if that
-- function meets its own. The export passes its other arguments on.
use Rattle.hull_reply.proofs.Steps.{◌≡◌, ℕ, ◌++◌, List, [], ◌∷◌, sym, full_share, ftrue, flft, flent, fres, named, vptr, Val, fact, tables, WpFn}
use Rattle.hull_reply.proofs.Steps.{‵, raw, ◌⊛◌, some, later, ◌$◌, ◌∵◌, !, qed, done, move, keep, drop, use1, use3, split, join, fsplit, fjoin}
use Rattle.hull_reply.proofs.Steps.{fpack, pick, await, suffices, frame, lft_new, lft_end, yes, Is, mem, lends_ref, ref_back, RawPtr, block_ptr}
use Rattle.hull_reply.proofs.Steps.{lies_at, rawptr_vals, rawptr_Tells, MutRef, Body, plain, nothing, heard, triple_of, framed, shows, peeks}
use Rattle.hull_reply.proofs.Steps.{refl, id⊢, enter, of_opd, addr, stop, no_more, and_then, first, blocks, exec, returns, alloc_all, pass_all}
use Rattle.hull_reply.proofs.Steps.{free_all, look_at, get, through, lands_as}
use Rattle.hull_reply.specs.Left.{leaves}
use Rattle.heap.specs.Rows.{heap_row}
use Rattle.hull_reply.specs.contracts.reply.HullReply.{the_row}
use Rattle.hull_reply.proofs.reply.HullReply.TheLaws.{lowers, the_row_laws}
use mathlib.Core.Path.{subst}
use lib.Dec.{T}
use seplogic.Ra.Ura.{Ura}
use base.Logic.{SProp, ent, sep, emp, ex, guard, via, fst∗, snd∗, never_e}
use base.Fml.{Fml, Lft, Share, GName, fbor, fsep, fex, fat, froom}
use mir.Syntax.{Ty, Fn, Callee, Local, local, value_local, place, copy, assign, rv_opd, addr_of, deref, block, seq, call, return, erased, ty_ptr}
use mir.Syntax.{Body as Code, Opd, Place, Lifetime, field, aggregate, Step as PStep, Width, ty_int, ty_ref, imm, mut}
use mir.Val.{has_ty, WT, vint, of_z}
use prog.Model.{Model}
use prog.Wp.{Closed, Env, Calls, Loops, spot_of, Spot}
use contract.Lifetimes.{Lfts, Shares, toks, Within, lft_at}
use contract.Monad.{fact_use}
use contract.Running.{Running, MachineTables}
use types.Logic.{Logic, sem}
use types.Kit.{given, learn, by, check as checks, show, updating, now as at_once, Seq, Item, Post, Step, step, runs, lands, prop, Sq}
use denote.RattleType.{RattleType, Denots, Valss, flat, owns}
use denote.Laws.{Tells, Are, Ises, Spells, Tellss, valss, all_tell, owns_show, showss}
use denote.RawPtr.{Ptr, ptr_val, null_ptr}
use denote.Ref.{MutBor}
use denote.Signature.{Slot, Signature, type_at, types_at}
use denote.Triple.End.{Kepts, Fins, lasts_of, all}
use denote.Triple.Entry.{Args, Res, on_entry}
use denote.Triple.Spec.{Spec, Meets}
use denote.Triple.Statement.{Contract, Triple}
use denote.Triple.Table.{entered, enters}
use denote.Triple.Call.{calls_from}
use sound.WpLaws.{FmC}
use types.Part.{Part, whole, sub, agg}
use types.Run.{Reads, Walks, fld, hop, load, Opds, assigns, assigns_last, from, init}
use types.ByLocal.{look_in_at, at, cell, set}
use Prim.Native.Nat.{zero, suc, ◌+◌}
use lib.ListN.{length}
use denote.Memory.{lone, pointee}
use denote.Plain.{UInt, uint_Tells, uint_Lawful}
use denote.Signed.{SInt, sint_Tells, sint_Lawful}
use denote.Slice.{ShrSlice, MutSlice, slice_ty, slice_val, shr_slice_Tells, shr_slice_Lawful, mut_slice_Tells, mut_slice_Lawful}
use Rattle.heap.proofs.Laws as heap_laws

-- ---- an argument of an export after the pointer: its type, and the one machine value of what it denotes
pub record Argument (n : ℕ) : Type 2 where
  pub row : Lfts n → RattleType
  pub ty : Ty
  pub val : (κs : Lfts n) → (row κs).Denot → Val
  pub tells : (κs : Lfts n) → Tells (row κs) (Is (row κs)) (λ x. val κs x ∷ [])
  pub typed : (κs : Lfts n) (x : (row κs).Denot) → Is (row κs) x (val κs x ∷ []) → T (has_ty ty (val κs x)) × WT (val κs x)

-- ---- a result: its type, and that its one machine value is of that type
pub record Result : Type 1 where
  pub row : RattleType
  pub ty : Ty
  pub typed : (u : row.Denot) (v : Val) → Is row u (v ∷ []) → T (has_ty ty v) × WT v

-- ---- how an argument is passed on: copied to a local of such a type, or, if it is an array that is written,
-- reborrowed
pub data Passing (n : ℕ) : Type 2 where
  copied : (A : Argument n) (temp : Ty)
      → ((κs : Lfts n) (x : (A.row κs).Denot) → T (has_ty A.ty (A.val κs x)) → T (has_ty temp (A.val κs x))) → Passing n
  relent : (j : ℕ) → Within n j → RattleType → Passing n

module _ {n : ℕ} where
  abbrev pub slots : List (Argument n) → List (Slot n)
  slots [] = []
  slots (A ∷ As) = plain A.row ∷ slots As

  module _ (κs : Lfts n) where
    abbrev rows : List (Argument n) → List RattleType
    rows As = types_at (slots As) κs

    abbrev pub spelled : (As : List (Argument n)) → Spells (rows As)
    spelled [] = tt
    spelled (A ∷ As) = ((λ x. A.val κs x ∷ []), spelled As)

    pub all_told : (As : List (Argument n)) → Tellss (rows As) (Ises (rows As)) (spelled As)
    all_told [] = tt
    all_told (A ∷ As) = (A.tells κs, all_told As)

    abbrev pub stored : (As : List (Argument n)) → Denots (rows As) → Valss (rows As)
    stored As a = valss (rows As) (spelled As) a

    -- F at the machine values of any well-typed arguments
    abbrev pub Each : List (Argument n) → (List Val → Type 1) → Type 1
    Each [] F = F []
    Each (A ∷ As) F =
        (x : (A.row κs).Denot) → T (has_ty A.ty (A.val κs x)) × WT (A.val κs x) → Each As (λ vs. F (A.val κs x ∷ vs))

    pub each : (As : List (Argument n)) (a : Denots (rows As)) → Are (rows As) (Ises (rows As)) a (stored As a)
        → (F : List Val → Type 1) → Each As F → F (flat (rows As) (stored As a))
    each [] a are F f = f
    each (A ∷ As) a are F f = each As a.1 are.1 (λ vs. F (A.val κs a.0 ∷ vs)) (f a.0 (A.typed κs a.0 are.0))

-- ---- the arguments of the exports
module _ {M : Type 1} {𝓤 : Ura M} (𝓛 : Logic 𝓤) {n : ℕ} where
  -- a number without a sign, and one with a sign
  abbrev pub unsigned : Width → Argument n
  unsigned w = record {
    row = λ κs. UInt w;
    ty = ty_int w;
    val = λ κs x. vint w x;
    tells = λ κs. uint_Tells w;
    typed = λ κs x is. ((uint_Lawful 𝓛 w).typed x _ is).0;
  }

  abbrev pub natural : Width → Passing n
  natural w = copied (unsigned w) (ty_int w) (λ κs x fits. fits)

  abbrev pub integer : Width → Passing n
  integer w = copied (record {
    row = λ κs. SInt w;
    ty = ty_int w;
    val = λ κs x. vint w (of_z w x);
    tells = λ κs. sint_Tells w;
    typed = λ κs x is. ((sint_Lawful 𝓛 w).typed x _ is).0;
  }) (ty_int w) (λ κs x fits. fits)

  -- the heap
  abbrev pub memory : Passing n
  memory = copied (record {
    row = λ κs. heap_row;
    ty = heap_laws.lowers.mir;
    val = λ κs x. heap_laws.lowered x;
    tells = λ κs x vs is. heap_laws.lowers.val_is x vs is;
    typed = λ κs x is. ((heap_laws.the_row_laws.lawful 𝓛).typed x _ is).0;
  }) heap_laws.lowers.mir (λ κs x fits. fits)

  -- an array that is read, and one that is written
  abbrev pub shared_array : (j : ℕ) → Within n j → RattleType → Passing n
  shared_array j ok R = copied (record {
    row = λ κs. ShrSlice (named j) (lft_at n j ok κs) R;
    ty = slice_ty (ty_ref (named j) imm (pointee R.written));
    val = λ κs x. slice_val x.ref_ptr (length x.now);
    tells = λ κs. shr_slice_Tells (named j) (lft_at n j ok κs) R;
    typed = λ κs x is. ((shr_slice_Lawful 𝓛 (named j) (lft_at n j ok κs) R).typed x _ is).0;
  }) (slice_ty (ty_ref erased imm (pointee R.written))) (λ κs x fits. fits)

  abbrev lent_array : (j : ℕ) → Within n j → RattleType → Argument n
  lent_array j ok R = record {
    row = λ κs. MutSlice (named j) (lft_at n j ok κs) R;
    ty = slice_ty (ty_ref (named j) mut (pointee R.written));
    val = λ κs x. slice_val x.ref_ptr (length x.now);
    tells = λ κs. mut_slice_Tells (named j) (lft_at n j ok κs) R;
    typed = λ κs x is. ((mut_slice_Lawful 𝓛 (named j) (lft_at n j ok κs) R).typed x _ is).0;
  }

  abbrev pub arguments : List (Passing n) → List (Argument n)
  arguments [] = []
  arguments (copied A τ fits ∷ Ps) = A ∷ arguments Ps
  arguments (relent j ok R ∷ Ps) = lent_array j ok R ∷ arguments Ps

module _ {M : Type 1} {𝓤 : Ura M} (𝓛 : Logic 𝓤) where
  -- a number, and a reply
  abbrev pub number : Width → Result
  number w = record { row = UInt w; ty = ty_int w; typed = λ u v is. ((uint_Lawful 𝓛 w).typed u _ is).0 }

  abbrev pub reply : Result
  reply = record { row = the_row; ty = lowers.mir; typed = λ u v is. ((the_row_laws.lawful 𝓛).typed u _ is).0 }

-- ---- steps of the code of an export
module _ {M : Type 1} {𝓤 : Ura M} (𝓛 : Logic 𝓤) (E : Env 𝓤 𝓛.H) (i : ℕ) where
  -- local i: that it holds a value, and that it is empty
  abbrev holds : Share → Val → Item 𝓤
  holds s v = ‵ (fat s (spot_of 𝓤 𝓛.H E i).0 (spot_of 𝓤 𝓛.H E i).1 zero v)

  abbrev empty : Item 𝓤
  empty = ‵ (froom (spot_of 𝓤 𝓛.H E i).0 (spot_of 𝓤 𝓛.H E i).1 zero)

  abbrev Suits : Val → Type 0
  Suits v = T (has_ty (spot_of 𝓤 𝓛.H E i).0 v) × WT v

module _ {M : Type 1} {𝓤 : Ura M} {𝓛 : Logic 𝓤} {K : Type 0} (Γ : List (Item 𝓤)) where
  -- a part of a local is read, and an access path begins at a local
  reads_part : K → (a : ℕ) {i : Item 𝓤} → at 𝓛 a Γ ≡ i → {s : Share} {τ : Ty} {b o : ℕ} {v : Val} {back : Val → Item 𝓤}
      → Part K 𝓛 i s τ b o v back → Reads K 𝓛 Γ τ b o v
  reads_part t a held {s} {τ} {b} {o} {v} {back} part =
      look_in_at t a (subst (λ (k : Item 𝓤). Part K 𝓛 k s τ b o v back) (sym held) part)

  walks_from : (E : Env 𝓤 𝓛.H) → K → {sp sp' sp'' : Spot 𝓤 𝓛.H} {st : List PStep} → sp ≡ sp' → Walks K 𝓛 Γ E sp' st sp''
      → Walks K 𝓛 Γ E sp st sp''
  walks_from E t {sp'' = sp''} {st = st} same w = subst (λ (z : Spot 𝓤 𝓛.H). Walks K 𝓛 Γ E z st sp'') (sym same) w

module _ {M : Type 1} {𝓤 : Ura M} {𝓛 : Logic 𝓤} {K : Type 0} {Γ : List (Item 𝓤)} {E : Env 𝓤 𝓛.H} {C : Calls 𝓤 𝓛.H}
    {Λ : Loops 𝓤 𝓛.H} {q : Post 𝓤 𝓛.H} {rest : Code} where
  -- one local is copied to another, which is empty
  pub copies : K → {i h : ℕ} {s : Share} {v : Val} → at 𝓛 h Γ ≡ holds 𝓛 E h s v → at 𝓛 i Γ ≡ empty 𝓛 E i
      → Suits 𝓛 E i v → Step K 𝓛 (set 𝓛 i (holds 𝓛 E i full_share v) Γ) (runs C Λ E rest q) Γ
      (runs C Λ E (seq (assign (place i []) (rv_opd (copy (place h [])))) rest) q)
  copies t {i} held room wt = assigns t (of_opd t (get t held)) (from t (stop t)) (init t (cell i Γ) room wt)

  -- the target of a pointer is borrowed, in an unsafe block
  pub borrows : K → {i h : ℕ} {s : Share} {b o : ℕ} {τ : Ty} → at 𝓛 h Γ ≡ holds 𝓛 E h s (vptr b o) → at 𝓛 i Γ ≡ empty 𝓛 E i
      → Suits 𝓛 E i (vptr b o) → Step K 𝓛 (set 𝓛 i (holds 𝓛 E i full_share (vptr b o)) Γ) (runs C Λ E rest q) Γ
      (runs C Λ E (seq (block (assign (place i []) (addr_of (place h (deref τ ∷ []))))) rest) q)
  borrows t {i} held room wt = step (λ s. first t $ blocks t $
      assigns_last t (addr t (through t held (stop t))) (from t (stop t)) (init t (cell i Γ) room wt) $ exec t C Λ E rest q $ s)

  -- an array is reborrowed: a reference to its elements, and then the array of those
  pub relends : K → {a i m : ℕ} {s : Share} {x b o count : ℕ} {ℓ : Lifetime} {ν τ : Ty}
      → spot_of 𝓤 𝓛.H E a ≡ (slice_ty (ty_ref ℓ mut ν), x, zero)
      → at 𝓛 a Γ ≡ ‵ (fat s (slice_ty (ty_ref ℓ mut ν)) x zero (slice_val (b, o) count))
      → at 𝓛 i Γ ≡ empty 𝓛 E i → Suits 𝓛 E i (vptr b o)
      → at 𝓛 a (set 𝓛 i (holds 𝓛 E i full_share (vptr b o)) Γ)
      ≡ ‵ (fat s (slice_ty (ty_ref ℓ mut ν)) x zero (slice_val (b, o) count))
      → at 𝓛 i (set 𝓛 i (holds 𝓛 E i full_share (vptr b o)) Γ) ≡ holds 𝓛 E i full_share (vptr b o)
      → at 𝓛 m (set 𝓛 i (holds 𝓛 E i full_share (vptr b o)) Γ) ≡ empty 𝓛 E m → Suits 𝓛 E m (slice_val (b, o) count)
      → Step K 𝓛 (set 𝓛 m (holds 𝓛 E m full_share (slice_val (b, o) count)) (set 𝓛 i (holds 𝓛 E i full_share (vptr b o)) Γ))
      (runs C Λ E rest q) Γ
      (runs C Λ E (seq (assign (place i []) (addr_of (place a (field 0 ∷ deref τ ∷ []))))
      (seq (assign (place m []) (aggregate (copy (place i []) ∷ copy (place a (field 1 ∷ [])) ∷ []))) rest)) q)
  relends t {a} {i} {m} {s} {x} {b} {o} {count} {ℓ} {ν} spot held room wt held' there room' wt' =
      let Δ : List (Item 𝓤) = set 𝓛 i (holds 𝓛 E i full_share (vptr b o)) Γ in
      step (λ z. assigns t (addr t (from t (walks_from Γ E t spot (fld t refl
      (hop t (reads_part Γ t a held (sub t 0 refl (whole t))) (stop t)))))) (from t (stop t)) (init t (cell i Γ) room wt) $
      assigns t (agg t (and_then t (get t there) (and_then t (load t (from t (walks_from Δ E t spot (fld t refl (stop t))))
      (reads_part Δ t a held' (sub t 1 refl (whole t)))) (no_more t)))) (from t (stop t)) (init t (cell m Δ) room' wt') $ z)

  -- the function is called, and its result is well typed
  pub calls_on : K → FmC 𝓤 𝓛.H 𝓛.laws C → {j : Callee} {xs : List Opd} {d : Place} {vs : List Val} {φ : Val → Type 0}
      {P : Val → SProp 𝓤} → ((v : Val) → ent 𝓤 (P v) (guard 𝓤 (φ v) (P v)))
      → Opds K 𝓛 (raw (C j vs (λ v. 𝓛.H.⇛ (P v))) ∷ Γ) E xs vs
      → ((v : Val) → φ v → Seq K 𝓛 (raw (P v) ∷ Γ) (lands C Λ E d v rest q))
      → Seq K 𝓛 (raw (C j vs (λ v. 𝓛.H.⇛ (P v))) ∷ Γ) (runs C Λ E (seq (call j xs d) rest) q)
  calls_on t fm {j} {vs = vs} {φ = φ} {P = P} typed os k =
      calls_from t fm (raw (C j vs (λ v. 𝓛.H.⇛ (P v)))) vs (λ v. 𝓛.H.⇛ (P v)) (id⊢ 𝓤 _) os (λ v.
      use1 𝓛 (later (given (φ v) (raw (P v)))) (𝓛.laws.⇛_mono (P v) (guard 𝓤 (φ v) (P v)) (typed v)) $ await t tt $
      learn t (k v))

-- the result of the call is passed on
pub handed : {M : Type 1} {𝓤 : Ura M} {𝓛 : Logic 𝓤} {K : Type 0} → K → {P : SProp 𝓤}
    → Seq K 𝓛 (raw P ∷ []) (prop (𝓛.H.⇛ P))
handed {𝓛 = 𝓛} t {P} = by t (𝓛.laws.⇛_intro P)

module _ {M : Type 1} (𝓤 : Ura M) (𝓛 : Logic 𝓤) (𝓜 : Model 𝓤 𝓛.H) (𝓡 : Running 𝓤 𝓛.H 𝓜) where
  open 𝓛 use {H, A}

  abbrev 𝓣 : MachineTables 𝓤 H 𝓜
  𝓣 = tables 𝓤 H 𝓜 𝓡 𝓡.env

  -- the code does what the function does at the same machine values
  abbrev pub Passes : {n : ℕ} → List (Argument n) → Result → Callee → Fn → Type 2
  Passes {n} As Out j e = (κs : Lfts n) (b o : ℕ) (P : Val → SProp 𝓤)
      → ((v : Val) → ent 𝓤 (P v) (guard 𝓤 (T (has_ty Out.ty v) × WT v) (P v)))
      → Each κs As (λ vs. Sq 𝓛 (raw (𝓣.C j (vptr b o ∷ vs) (λ v. H.⇛ (P v))) ∷ [])
      (prop (WpFn 𝓤 H 𝓣.C 𝓣.Λ e (vptr b o ∷ vs) (λ v. H.⇛ (P v)))))

  -- a function meets its contract if its code does so at the machine values of the arguments
  pub exported : (S : Signature) (c : Spec 𝓤 S) {k : Callee} (e : Fn) → Closed 𝓤 H 𝓣.C 𝓣.Λ k e
      → (sp : (κs : Lfts S.lifetimes) → Spells (types_at S.params κs))
      → ((κs : Lfts S.lifetimes) → Tellss (types_at S.params κs) (Ises (types_at S.params κs)) (sp κs))
      → ((κs : Lfts S.lifetimes) (qs : Shares S.lifetimes) (a : Args S κs) (g : (c κs a).ghost)
      → Are (types_at S.params κs) (Ises (types_at S.params κs)) a (valss (types_at S.params κs) (sp κs) a)
      → ent 𝓤 (sep 𝓤 (on_entry 𝓛 S κs qs a (valss (types_at S.params κs) (sp κs) a)) ((c κs a).requires g))
      (WpFn 𝓤 H 𝓣.C 𝓣.Λ e (flat (types_at S.params κs) (valss (types_at S.params κs) (sp κs) a)) (λ v. H.⇛
      (ex 𝓤 (λ (u : Res S κs). sep 𝓤 (sep 𝓤 (toks 𝓛 S.lifetimes κs qs) (sem 𝓛 ((type_at S.result κs).own_val u (v ∷ []))))
      ((c κs a).ensures g u))))))
      → Meets 𝓛 S (𝓣.C k) c
  exported S c {k} e closed sp tells walk = entered 𝓤 H (triple_of 𝓛 S c) 𝓣.C 𝓣.Λ k e closed (λ y.
      let Rs : List RattleType = types_at S.params y.0.0 in let a : Denots Rs = y.0.3 in
      let asks : SProp 𝓤 = (c y.0.0 a).requires y.1 in
      let encoded : (vss : Valss Rs) → Are Rs (Ises Rs) a vss → vss ≡ valss Rs (sp y.0.0) a =
      all_tell Rs (Ises Rs) (sp y.0.0) (tells y.0.0) a in
      fact_use 𝓤 (Are Rs (Ises Rs) a y.0.4)
      (via 𝓤 _ (fst∗ 𝓤 (on_entry 𝓛 S y.0.0 y.0.1 a y.0.4) asks)
      (via 𝓤 _ (snd∗ 𝓤 (toks 𝓛 S.lifetimes y.0.0 y.0.1) (sem 𝓛 (owns Rs a y.0.4))) (owns_show 𝓛 Rs (Ises Rs) (showss 𝓛 Rs) a y.0.4)))
      (λ are. subst (λ (vss : Valss Rs). ent 𝓤 (sep 𝓤 (on_entry 𝓛 S y.0.0 y.0.1 a vss) asks)
      (WpFn 𝓤 H 𝓣.C 𝓣.Λ e (flat Rs vss) ((triple_of 𝓛 S c).post y))) (sym (encoded y.0.4 are))
      (walk y.0.0 y.0.1 a y.1 (subst (Are Rs (Ises Rs) a) (encoded y.0.4 are) are))))

  module _ (n : ℕ) (As : List (Argument n)) (R : RattleType) (Out : Result)
      (law : (κs : Lfts n) (a : Denots (types_at (slots As) κs)) → R.Denot → R.Denot
      → Fins κs (slots As) (all yes (slots As)) a → Out.row.Denot → Type 0) where
    abbrev kept : Kepts (slots As)
    kept = all yes (slots As)

    -- the export's contract
    abbrev S : Signature
    S = record { lifetimes = n; outlives = []; params = plain (λ _. RawPtr) ∷ slots As; result = plain (λ _. Out.row) }

    abbrev spec : Spec 𝓤 S
    spec κs a = record {
      ghost = R.Denot;
      requires = λ t. sem 𝓛 (lies_at R full_share a.0 t);
      ensures = λ t u. ex 𝓤 (λ (ws : Fins κs S.params (yes, kept) a).
          sep 𝓤 (sem 𝓛 (lasts_of κs S.params (yes, kept) a ws)) (sem 𝓛 (leaves R a.0 (λ new. law κs a.1 t new ws.1 u))));
    }

    -- the function's: the reference comes first, and its lifetime before the others
    abbrev pub Lent : Contract 𝓤
    Lent = record {
      Ghost = (κs : Lft × Lfts n) × (Share × Shares n) × Unit {0} × (MutBor R.Denot × Denots (types_at (slots As) κs.1))
          × (List Val × Valss (types_at (slots As) κs.1));
      args = λ x. x.4.0 ++ flat (types_at (slots As) x.0.1) x.4.1;
      pre = λ x. sep 𝓤
          (sep 𝓤 (sep 𝓤 (A.lft x.0.0 x.1.0) (toks 𝓛 n x.0.1 x.1.1))
          (sem 𝓛 (fsep ((MutRef (named 0) x.0.0 R).own_val x.3.0 x.4.0) (owns (types_at (slots As) x.0.1) x.3.1 x.4.1))))
          (emp 𝓤);
      post = λ x v. H.⇛ (ex 𝓤 (λ (u : Out.row.Denot). sep 𝓤
          (sep 𝓤 (sep 𝓤 (A.lft x.0.0 x.1.0) (toks 𝓛 n x.0.1 x.1.1)) (sem 𝓛 (Out.row.own_val u (v ∷ []))))
          (ex 𝓤 (λ (ws : R.Denot × Fins x.0.1 (slots As) kept x.3.1). sep 𝓤
          (sem 𝓛 (fsep (fsep (fres x.3.0.ghost_name (R.coded.code ws.0))
          (fbor x.0.0 (Body (mem R) x.3.0.ref_ptr.0 x.3.0.ref_ptr.1 x.3.0.ghost_name)))
          (lasts_of x.0.1 (slots As) kept x.3.1 ws.1)))
          (fact 𝓤 (law x.0.1 x.3.1 x.3.0.now ws.0 ws.1 u))))));
    }

    module _ {j : Callee} (meets : Triple 𝓤 (𝓣.C j) Lent) where
      module _ (κs : Lfts n) (qs : Shares n) (a : Denots (types_at (slots As) κs)) (t : R.Denot) where
        abbrev Ls : SProp 𝓤
        Ls = toks 𝓛 n κs qs

        -- the state at the return, before the update
        abbrev Ends : Ptr → Val → SProp 𝓤
        Ends p v = ex 𝓤 (λ (u : Out.row.Denot). sep 𝓤 (sep 𝓤 Ls (sem 𝓛 (Out.row.own_val u (v ∷ [])))) ((spec κs (p, a)).ensures t u))

        typed : (p : Ptr) (v : Val) → ent 𝓤 (Ends p v) (guard 𝓤 (T (has_ty Out.ty v) × WT v) (Ends p v))
        typed p v = qed 𝓛 (some (λ (u : Out.row.Denot). (raw Ls ⊛ ‵ (Out.row.own_val u (v ∷ []))) ⊛ raw ((spec κs (p, a)).ensures t u)) ∷ []) ∵
            pick ! (λ u. split ! $ split ! $ move ! (1 ∷ []) $ peeks ! Out.row (Is Out.row) (shows 𝓛 Out.row) u (v ∷ []) (λ is.
            checks ! (Out.typed u v is) $
            show ! (λ (u : Out.row.Denot). sep 𝓤 (sep 𝓤 Ls (sem 𝓛 (Out.row.own_val u (v ∷ [])))) ((spec κs (p, a)).ensures t u)) u $
            move ! (1 ∷ 0 ∷ []) $ join ! $ join ! $ done !))

        module _ (vss : Valss (types_at (slots As) κs)) (b o : ℕ) where
          abbrev Passed : Fml
          Passed = owns (types_at (slots As) κs) a vss

          abbrev Loan : Lft → GName → Fml
          Loan κ γ = (MutRef (named 0) κ R).own_val (record { ref_ptr = (b, o); ghost_name = γ; now = t }) (vptr b o ∷ [])

          abbrev choice : Lft → GName → Lent.Ghost
          choice κ γ = (
            (κ, κs),
            (full_share, qs),
            tt,
            (record { ref_ptr = (b, o); ghost_name = γ; now = t }, a),
            (vptr b o ∷ [], vss),
          )

          -- the result of the call with the lender's part is the result of the export
          taken_back : (α : ℕ) (γ : GName) (v : Val)
              → ent 𝓤 (sep 𝓤 (Lent.post (choice (α ∷ []) γ) v) (sem 𝓛 (flent (α ∷ []) (Body (mem R) b o γ))))
              (H.⇛ (Ends (block_ptr b o) v))
          taken_back α γ v = let κ : Lft = α ∷ [] in
              qed 𝓛 (later (some (λ (u : Out.row.Denot). ((‵ (flft κ full_share) ⊛ raw Ls) ⊛ ‵ (Out.row.own_val u (v ∷ []))) ⊛
              some (λ (ws : R.Denot × Fins κs (slots As) kept a).
              ‵ (fsep (fsep (fres γ (R.coded.code ws.0)) (fbor κ (Body (mem R) b o γ))) (lasts_of κs (slots As) kept a ws.1)) ⊛
              raw (fact 𝓤 (law κs a t ws.0 ws.1 u))))) ∷ ‵ (flent κ (Body (mem R) b o γ)) ∷ []) ∵
              updating ! $ await ! tt $ pick ! (λ u. split ! $ split ! $ split ! $ lft_end ! tt $
              -- [its lifetime is over; the tokens; the result; the rest; the lender's part]
              move ! (3 ∷ []) $ pick ! (λ ws. split ! $ move ! (1 ∷ []) $ heard ! _ (λ holds. fsplit ! $ fsplit ! $
              -- [the loan's last value; its borrow; the other last values; its lifetime is over; the tokens; the
              -- result; the lender's part]
              move ! (3 ∷ 6 ∷ 0 ∷ []) $ use3 𝓛 (later (‵ ((mem R).own_at ws.0 b o))) (ref_back 𝓛 R κ γ ws.0 b o) $
              await ! tt $ at_once ! $
              -- [the object there; the borrow; the other last values; the tokens; the result]
              show ! (λ (u : Out.row.Denot). sep 𝓤 (sep 𝓤 Ls (sem 𝓛 (Out.row.own_val u (v ∷ []))))
              ((spec κs (block_ptr b o, a)).ensures t u)) u $
              move ! (3 ∷ 4 ∷ []) $ join ! $ frame ! $
              show ! (λ (us : Unit {0} × Fins κs (slots As) kept a). sep 𝓤
              (sem 𝓛 (fsep ftrue (lasts_of κs (slots As) kept a us.1)))
              (sem 𝓛 (leaves R (block_ptr b o) (λ new. law κs a t new us.1 u)))) (tt, ws.1) $
              nothing ! $ move ! (0 ∷ 3 ∷ []) $ fjoin ! $ frame ! $
              nothing ! $ fpack ! (law κs a t ws.0 ws.1 u) (λ _. ftrue) holds $ move ! (1 ∷ 0 ∷ []) $ fjoin ! $
              fpack ! R.Denot (λ new. fsep (lies_at R full_share (block_ptr b o) new) (fex (law κs a t new ws.1 u) (λ _. ftrue)))
              ws.0 $ keep ! (0 ∷ []) $ done !)))

          lent : ent 𝓤 (sep 𝓤 (sep 𝓤 Ls (sem 𝓛 (fsep (RawPtr.own_val (block_ptr b o) (vptr b o ∷ [])) Passed)))
              (sem 𝓛 (lies_at R full_share (block_ptr b o) t)))
              (𝓣.C j (vptr b o ∷ flat (types_at (slots As) κs) vss) (λ v. H.⇛ (Ends (block_ptr b o) v)))
          lent = let vs : List Val = vptr b o ∷ flat (types_at (slots As) κs) vss in
              qed 𝓛 ((raw Ls ⊛ ‵ (fsep (RawPtr.own_val (block_ptr b o) (vptr b o ∷ [])) Passed))
              ∷ ‵ (lies_at R full_share (block_ptr b o) t) ∷ []) ∵
              suffices ! _ (enters 𝓤 H 𝓜 𝓣 j vs (λ v. H.⇛ (Ends (block_ptr b o) v))) $ updating ! $
              split ! $ move ! (1 ∷ []) $ fsplit ! $ drop ! $ move ! (2 ∷ []) $
              -- [the object there; the other arguments; the tokens]
              lft_new ! tt (λ α. let κ : Lft = α ∷ [] in move ! (1 ∷ []) $
              use1 𝓛 (later (some (λ (γ : GName). ‵ (Loan κ γ) ⊛ ‵ (flent κ (Body (mem R) b o γ)))))
              (lends_ref 𝓛 R (named 0) κ t b o) $ await ! tt $ pick ! (λ γ. split ! $
              -- [the loan; the lender's part; its token; the other arguments; the tokens]
              move ! (0 ∷ 3 ∷ []) $ fjoin ! $ move ! (2 ∷ 3 ∷ []) $ join ! $ join ! $ nothing ! $ move ! (1 ∷ 0 ∷ []) $ join ! $
              use1 𝓛 (raw (𝓣.C j vs (Lent.post (choice κ γ)))) (meets (choice κ γ)) $ at_once ! $
              by ! (framed 𝓤 H 𝓜 𝓣 j vs (Lent.post (choice κ γ)) (λ v. H.⇛ (Ends (block_ptr b o) v))
              (sem 𝓛 (flent κ (Body (mem R) b o γ))) (taken_back α γ))))

      module _ {k : Callee} (e : Fn) (closed : Closed 𝓤 H 𝓣.C 𝓣.Λ k e) (passes : Passes As Out j e) where
        served : (κs : Lfts n) (qs : Shares n) (p : Ptr) (a : Denots (types_at (slots As) κs)) (t : R.Denot)
            → Are (types_at (slots As) κs) (Ises (types_at (slots As) κs)) a (stored κs As a)
            → ent 𝓤 (sep 𝓤 (on_entry 𝓛 S κs qs (p, a) (rawptr_vals p, stored κs As a)) (sem 𝓛 (lies_at R full_share p t)))
            (WpFn 𝓤 H 𝓣.C 𝓣.Λ e (ptr_val p ∷ flat (types_at (slots As) κs) (stored κs As a)) (λ v. H.⇛ (Ends κs qs a t p v)))
        served κs qs null_ptr a t are =
            via 𝓤 _ (snd∗ 𝓤 (on_entry 𝓛 S κs qs (null_ptr, a) (rawptr_vals null_ptr, stored κs As a)) _) (never_e 𝓤 _)
        served κs qs (block_ptr b o) a t are =
            let P : Val → SProp 𝓤 = Ends κs qs a t (block_ptr b o) in
            via 𝓤 _ (lent κs qs a t (stored κs As a) b o)
            (each κs As a are
            (λ vs. Sq 𝓛 (raw (𝓣.C j (vptr b o ∷ vs) (λ v. H.⇛ (P v))) ∷ [])
            (prop (WpFn 𝓤 H 𝓣.C 𝓣.Λ e (vptr b o ∷ vs) (λ v. H.⇛ (P v)))))
            (passes κs b o P (typed κs qs a t (block_ptr b o)))).prf

        lent_on : Meets 𝓛 S (𝓣.C k) spec
        lent_on = exported S spec e closed (λ κs. (rawptr_vals, spelled κs As)) (λ κs. (rawptr_Tells, all_told κs As))
            (λ κs qs a t are. served κs qs a.0 a.1 t are.1)

  -- ---- the code of an export
  module _ {n : ℕ} where
    abbrev places : List (Argument n) → List Local
    places [] = []
    places (A ∷ As) = local A.ty value_local ∷ places As

    abbrev temporaries : List (Passing n) → List Local
    temporaries [] = []
    temporaries (copied A τ fits ∷ Ps) = local τ value_local ∷ temporaries Ps
    temporaries (relent j ok R ∷ Ps) = local (ty_ref erased mut (pointee R.written)) value_local
        ∷ local (slice_ty (ty_ref erased mut (pointee R.written))) value_local ∷ temporaries Ps

    -- each argument, from the local i on, goes to a local from m on, before the rest
    abbrev moves : List (Passing n) → ℕ → ℕ → Code → Code
    moves [] i m rest = rest
    moves (copied A τ fits ∷ Ps) i m rest =
        seq (assign (place m []) (rv_opd (copy (place i [])))) (moves Ps (suc i) (suc m) rest)
    moves (relent j ok R ∷ Ps) i m rest = seq (assign (place m []) (addr_of (place i (field 0 ∷ deref (lone R.mir) ∷ []))))
        (seq (assign (place (suc m) []) (aggregate (copy (place m []) ∷ copy (place i (field 1 ∷ [])) ∷ [])))
        (moves Ps (suc i) (suc (suc m)) rest))

    abbrev operands : List (Passing n) → ℕ → List Opd
    operands [] m = []
    operands (copied A τ fits ∷ Ps) m = copy (place m []) ∷ operands Ps (suc m)
    operands (relent j ok R ∷ Ps) m = copy (place (suc m) []) ∷ operands Ps (suc (suc m))

    abbrev count : List (Passing n) → ℕ
    count [] = 0
    count (P ∷ Ps) = suc (count Ps)

    abbrev pub lending : List (Passing n) → RattleType → Result → Callee → Fn
    lending Ps R Out j = record {
      lifetimes = n;
      outlives = [];
      ty_params = [];
      givens = 0;
      params = suc (count Ps);
      locals = local Out.ty value_local ∷ local ty_ptr value_local ∷ (places (arguments 𝓛 Ps)
          ++ (local ty_ptr value_local ∷ local ty_ptr value_local ∷ local (ty_ref erased mut (pointee R.written)) value_local
          ∷ local (ty_ref erased mut (pointee R.written)) value_local ∷ temporaries Ps));
      body = seq (assign (place (count Ps + 3) []) (rv_opd (copy (place 1 []))))
          (seq (assign (place (count Ps + 2) []) (rv_opd (copy (place (count Ps + 3) []))))
          (seq (block (assign (place (count Ps + 5) []) (addr_of (place (count Ps + 2) (deref (lone R.mir) ∷ [])))))
          (seq (assign (place (count Ps + 4) []) (rv_opd (copy (place (count Ps + 5) []))))
          (moves Ps 2 (count Ps + 6)
          (seq (call j (copy (place (count Ps + 4) []) ∷ operands Ps (count Ps + 6)) (place 0 [])) return)))));
    }

    -- the lists of arguments whose code is checked here
    abbrev pub Covered : List (Passing n) → Type 0
    Covered [] = Unit {0}
    Covered (copied _ _ _ ∷ []) = Unit {0}
    Covered (copied _ _ _ ∷ copied _ _ _ ∷ []) = Unit {0}
    Covered (copied _ _ _ ∷ copied _ _ _ ∷ copied _ _ _ ∷ []) = Unit {0}
    Covered (copied _ _ _ ∷ copied _ _ _ ∷ copied _ _ _ ∷ copied _ _ _ ∷ []) = Unit {0}
    Covered (copied _ _ _ ∷ copied _ _ _ ∷ copied _ _ _ ∷ copied _ _ _ ∷ copied _ _ _ ∷ []) = Unit {0}
    Covered (relent _ _ _ ∷ []) = Unit {0}
    Covered (copied _ _ _ ∷ relent _ _ _ ∷ []) = Unit {0}
    Covered (copied _ _ _ ∷ copied _ _ _ ∷ relent _ _ _ ∷ []) = Unit {0}
    Covered _ = ⊥

    passed : (Ps : List (Passing n)) → Covered Ps → (R : RattleType) (Out : Result) (j : Callee)
        → Passes (arguments 𝓛 Ps) Out j (lending Ps R Out j)
    passed [] c R Out j = λ κs b o P typed.
        enter ! _ _ _ _ _ $ alloc_all ! (λ l. pass_all ! refl ((tt, tt), tt) $
        copies ! refl refl (tt, tt) $ copies ! refl refl (tt, tt) $ borrows ! refl refl (tt, tt) $ copies ! refl refl (tt, tt) $
        calls_on ! (framed 𝓤 H 𝓜 𝓣) typed (and_then ! (get ! refl) (no_more !)) (λ v fits.
        lands_as ! refl refl fits $ returns ! (look_at ! 0 refl) $ free_all ! refl $ handed !))
    passed (copied A1 τ1 as1 ∷ []) c R Out j = λ κs b o P typed x x_fits.
        enter ! _ _ _ _ _ $ alloc_all ! (λ l. pass_all ! refl ((tt, tt), (x_fits, tt)) $
        copies ! refl refl (tt, tt) $ copies ! refl refl (tt, tt) $ borrows ! refl refl (tt, tt) $ copies ! refl refl (tt, tt) $
        copies ! refl refl (as1 κs x x_fits.0, x_fits.1) $
        calls_on ! (framed 𝓤 H 𝓜 𝓣) typed (and_then ! (get ! refl) (and_then ! (get ! refl) (no_more !))) (λ v fits.
        lands_as ! refl refl fits $ returns ! (look_at ! 0 refl) $ free_all ! refl $ handed !))
    passed (copied A1 τ1 as1 ∷ copied A2 τ2 as2 ∷ []) c R Out j = λ κs b o P typed x x_fits y y_fits.
        enter ! _ _ _ _ _ $ alloc_all ! (λ l. pass_all ! refl ((tt, tt), (x_fits, (y_fits, tt))) $
        copies ! refl refl (tt, tt) $ copies ! refl refl (tt, tt) $ borrows ! refl refl (tt, tt) $ copies ! refl refl (tt, tt) $
        copies ! refl refl (as1 κs x x_fits.0, x_fits.1) $ copies ! refl refl (as2 κs y y_fits.0, y_fits.1) $
        calls_on ! (framed 𝓤 H 𝓜 𝓣) typed (and_then ! (get ! refl) (and_then ! (get ! refl) (and_then ! (get ! refl) (no_more !)))) (λ v fits.
        lands_as ! refl refl fits $ returns ! (look_at ! 0 refl) $ free_all ! refl $ handed !))
    passed (copied A1 τ1 as1 ∷ copied A2 τ2 as2 ∷ copied A3 τ3 as3 ∷ []) c R Out j = λ κs b o P typed x x_fits y y_fits z z_fits.
        enter ! _ _ _ _ _ $ alloc_all ! (λ l. pass_all ! refl ((tt, tt), (x_fits, (y_fits, (z_fits, tt)))) $
        copies ! refl refl (tt, tt) $ copies ! refl refl (tt, tt) $ borrows ! refl refl (tt, tt) $ copies ! refl refl (tt, tt) $
        copies ! refl refl (as1 κs x x_fits.0, x_fits.1) $ copies ! refl refl (as2 κs y y_fits.0, y_fits.1) $
        copies ! refl refl (as3 κs z z_fits.0, z_fits.1) $
        calls_on ! (framed 𝓤 H 𝓜 𝓣) typed (and_then ! (get ! refl) (and_then ! (get ! refl) (and_then ! (get ! refl) (and_then ! (get ! refl) (no_more !))))) (λ v fits.
        lands_as ! refl refl fits $ returns ! (look_at ! 0 refl) $ free_all ! refl $ handed !))
    passed (copied A1 τ1 as1 ∷ copied A2 τ2 as2 ∷ copied A3 τ3 as3 ∷ copied A4 τ4 as4 ∷ []) c R Out j = λ κs b o P typed x x_fits y y_fits z z_fits u u_fits.
        enter ! _ _ _ _ _ $ alloc_all ! (λ l. pass_all ! refl ((tt, tt), (x_fits, (y_fits, (z_fits, (u_fits, tt))))) $
        copies ! refl refl (tt, tt) $ copies ! refl refl (tt, tt) $ borrows ! refl refl (tt, tt) $ copies ! refl refl (tt, tt) $
        copies ! refl refl (as1 κs x x_fits.0, x_fits.1) $ copies ! refl refl (as2 κs y y_fits.0, y_fits.1) $
        copies ! refl refl (as3 κs z z_fits.0, z_fits.1) $ copies ! refl refl (as4 κs u u_fits.0, u_fits.1) $
        calls_on ! (framed 𝓤 H 𝓜 𝓣) typed (and_then ! (get ! refl) (and_then ! (get ! refl) (and_then ! (get ! refl)
        (and_then ! (get ! refl) (and_then ! (get ! refl) (no_more !)))))) (λ v fits.
        lands_as ! refl refl fits $ returns ! (look_at ! 0 refl) $ free_all ! refl $ handed !))
    passed (copied A1 τ1 as1 ∷ copied A2 τ2 as2 ∷ copied A3 τ3 as3 ∷ copied A4 τ4 as4 ∷ copied A5 τ5 as5 ∷ []) c R Out j = λ κs b o P typed x x_fits y y_fits z z_fits u u_fits w w_fits.
        enter ! _ _ _ _ _ $ alloc_all ! (λ l. pass_all ! refl ((tt, tt), (x_fits, (y_fits, (z_fits, (u_fits, (w_fits, tt)))))) $
        copies ! refl refl (tt, tt) $ copies ! refl refl (tt, tt) $ borrows ! refl refl (tt, tt) $ copies ! refl refl (tt, tt) $
        copies ! refl refl (as1 κs x x_fits.0, x_fits.1) $ copies ! refl refl (as2 κs y y_fits.0, y_fits.1) $
        copies ! refl refl (as3 κs z z_fits.0, z_fits.1) $ copies ! refl refl (as4 κs u u_fits.0, u_fits.1) $
        copies ! refl refl (as5 κs w w_fits.0, w_fits.1) $
        calls_on ! (framed 𝓤 H 𝓜 𝓣) typed (and_then ! (get ! refl) (and_then ! (get ! refl) (and_then ! (get ! refl)
        (and_then ! (get ! refl) (and_then ! (get ! refl) (and_then ! (get ! refl) (no_more !))))))) (λ v fits.
        lands_as ! refl refl fits $ returns ! (look_at ! 0 refl) $ free_all ! refl $ handed !))
    passed (relent i ok Q ∷ []) c R Out j = λ κs b o P typed x x_fits.
        enter ! _ _ _ _ _ $ alloc_all ! (λ l. pass_all ! refl ((tt, tt), (x_fits, tt)) $
        copies ! refl refl (tt, tt) $ copies ! refl refl (tt, tt) $ borrows ! refl refl (tt, tt) $ copies ! refl refl (tt, tt) $
        relends ! refl refl refl (tt, tt) refl refl refl x_fits $
        calls_on ! (framed 𝓤 H 𝓜 𝓣) typed (and_then ! (get ! refl) (and_then ! (get ! refl) (no_more !))) (λ v fits.
        lands_as ! refl refl fits $ returns ! (look_at ! 0 refl) $ free_all ! refl $ handed !))
    passed (copied A1 τ1 as1 ∷ relent i ok Q ∷ []) c R Out j = λ κs b o P typed x x_fits y y_fits.
        enter ! _ _ _ _ _ $ alloc_all ! (λ l. pass_all ! refl ((tt, tt), (x_fits, (y_fits, tt))) $
        copies ! refl refl (tt, tt) $ copies ! refl refl (tt, tt) $ borrows ! refl refl (tt, tt) $ copies ! refl refl (tt, tt) $
        copies ! refl refl (as1 κs x x_fits.0, x_fits.1) $ relends ! refl refl refl (tt, tt) refl refl refl y_fits $
        calls_on ! (framed 𝓤 H 𝓜 𝓣) typed (and_then ! (get ! refl) (and_then ! (get ! refl) (and_then ! (get ! refl) (no_more !)))) (λ v fits.
        lands_as ! refl refl fits $ returns ! (look_at ! 0 refl) $ free_all ! refl $ handed !))
    passed (copied A1 τ1 as1 ∷ copied A2 τ2 as2 ∷ relent i ok Q ∷ []) c R Out j = λ κs b o P typed x x_fits y y_fits z z_fits.
        enter ! _ _ _ _ _ $ alloc_all ! (λ l. pass_all ! refl ((tt, tt), (x_fits, (y_fits, (z_fits, tt)))) $
        copies ! refl refl (tt, tt) $ copies ! refl refl (tt, tt) $ borrows ! refl refl (tt, tt) $ copies ! refl refl (tt, tt) $
        copies ! refl refl (as1 κs x x_fits.0, x_fits.1) $ copies ! refl refl (as2 κs y y_fits.0, y_fits.1) $
        relends ! refl refl refl (tt, tt) refl refl refl z_fits $
        calls_on ! (framed 𝓤 H 𝓜 𝓣) typed (and_then ! (get ! refl) (and_then ! (get ! refl) (and_then ! (get ! refl) (and_then ! (get ! refl) (no_more !))))) (λ v fits.
        lands_as ! refl refl fits $ returns ! (look_at ! 0 refl) $ free_all ! refl $ handed !))
    passed _ c R Out j = absurd c

  -- an export that lends the object at a pointer to one function, and passes its other arguments on, meets its contract
  pub lends : (n : ℕ) (Ps : List (Passing n)) → Covered Ps → (R : RattleType) (Out : Result)
      (law : (κs : Lfts n) (a : Denots (types_at (slots (arguments 𝓛 Ps)) κs)) → R.Denot → R.Denot
      → Fins κs (slots (arguments 𝓛 Ps)) (all yes (slots (arguments 𝓛 Ps))) a → Out.row.Denot → Type 0) {k j : Callee}
      → Closed 𝓤 H 𝓣.C 𝓣.Λ k (lending Ps R Out j) → Triple 𝓤 (𝓣.C j) (Lent n (arguments 𝓛 Ps) R Out law)
      → Meets 𝓛 (S n (arguments 𝓛 Ps) R Out law) (𝓣.C k) (spec n (arguments 𝓛 Ps) R Out law)
  lends n Ps c R Out law {k} {j} closed meets =
      lent_on n (arguments 𝓛 Ps) R Out law meets (lending Ps R Out j) closed (passed Ps c R Out j)
