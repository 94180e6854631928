-- The call lists of a phase, one for each worker, as the reader goes through its items.
use Rattle.std.proofs.Common.{◌≡◌, ℕ, zero, suc, ◌<◌, ◌+◌, List, [], ◌∷◌, ◌++◌, Bool, true, false, Some, None, length}
use Rattle.std.proofs.Common.{get_or, take, refl, sym, ap, ◌∙◌, subst, inl, inr, arith, add-one, get_or-set_same, get_or-set_other}
use Rattle.std.specs.Prelude.{◌==◌, Vec}
use Rattle.std.proofs.Math.ListN.{set}
use Rattle.std.proofs.Math.Seq.{get_or-append_seam, take-suc}
use Rattle.std.proofs.lemmas.Bool.{cases_eq, cases_lt, eq-eqb, ne_eqb}
use Rattle.std.specs.Global.{Global}
use Rattle.std.proofs.lemmas.List.{append-nil, ext_get_or, get_or_append_left, get_or_default, get_or-map, map-set}
use Rattle.hull_set.specs.declared.call.Call.{Call}
use Rattle.hull_book.specs.Scripts.{lists_of}
use Rattle.hull_text.specs.Item.{Item}
use Rattle.hull_text.specs.ScriptValue.{calls_by, jobs_below}
use Rattle.hull_text.proofs.Parts.{jobs_long}

-- the list of a worker has its calls
job_at : (n k : ℕ) (items : List Item) → k < n → get_or (jobs_below n items) k [] ≡ calls_by k items
unfolding jobs_below
job_at zero k items h = absurd (omega (arith, h))
job_at (suc n) k items h = elim (cases_lt k n) [
  | inl l ↦
      get_or_append_left (jobs_below n items) (calls_by n items ∷ []) [] k (omega (arith, l, jobs_long n items))
      ∙ job_at n k items l
  | inr g ↦
      let e : length (jobs_below n items) ≡ k = omega (arith, g, h, jobs_long n items) in
      let f : n ≡ k = omega (arith, g, h) in
      subst (λ (i : ℕ). get_or (jobs_below n items ++ calls_by n items ∷ []) i [] ≡ calls_by n items) e
      (get_or-append_seam (jobs_below n items) (calls_by n items) [] [])
      ∙ ap (λ (i : ℕ). calls_by i items) f
]

-- lists that have each worker's calls are the phase
pub are_jobs : (n : ℕ) (jobs : List (List Call)) (items : List Item) → length jobs ≡ n
    → ((k : ℕ) → k < n → get_or jobs k [] ≡ calls_by k items) → jobs ≡ jobs_below n items
are_jobs n jobs items e h =
    ext_get_or [] jobs (jobs_below n items) (e ∙ sym (jobs_long n items))
    (λ k l. h k (omega (arith, e, l)) ∙ sym (job_at n k items (omega (arith, e, l))))

-- the calls of a worker among items in a row
calls_in_row : (k : ℕ) (items others : List Item) → calls_by k (items ++ others) ≡ calls_by k items ++ calls_by k others
unfolding calls_by
calls_in_row k [] others = refl
calls_in_row k (None ∷ is) others = calls_in_row k is others
calls_in_row k (Some o ∷ is) others = own (o.0 == k) refl (calls_in_row k is others)
  where
    own : (b : Bool) → (o.0 == k) ≡ b → calls_by k (is ++ others) ≡ calls_by k is ++ calls_by k others
        → calls_by k (Some o ∷ (is ++ others)) ≡ calls_by k (Some o ∷ is) ++ calls_by k others
    own true e behind = rw e (ap (λ (z : List Call). o.1 ∷ z) behind)
    own false e behind = rw e behind

-- the calls of a worker with one item more
calls_on : (k i : ℕ) (items : List Item) → i < length items
    → calls_by k (take (i + 1) items) ≡ calls_by k (take i items) ++ calls_by k (get_or items i None ∷ [])
calls_on k i items l = ap (calls_by k) (take_on i items l) ∙ calls_in_row k (take i items) (get_or items i None ∷ [])
  where
    take_on : (i : ℕ) (items : List Item) → i < length items
        → take (i + 1) items ≡ take i items ++ get_or items i None ∷ []
    take_on i items l = rw add-one (take-suc items i None l)

-- an item that is no call of the worker leaves its calls unchanged
pub calls_stay : (k i : ℕ) (items : List Item) → i < length items → calls_by k (get_or items i None ∷ []) ≡ []
    → calls_by k (take (i + 1) items) ≡ calls_by k (take i items)
calls_stay k i items l e =
    calls_on k i items l ∙ ap (λ (z : List Call). calls_by k (take i items) ++ z) e ∙ append-nil (calls_by k (take i items))

-- the end of a phase is no call
pub none_there : (k : ℕ) → calls_by k (None ∷ []) ≡ []
unfolding calls_by
none_there k = refl

-- a call of another worker is none of the worker's
pub none_of_other : (k w : ℕ) (call : Call) → (w ≡ k → ⊥) → calls_by k (Some (w, call) ∷ []) ≡ []
unfolding calls_by
none_of_other k w call n = rw (ne_eqb w k n) refl

-- a call of the worker itself is one
one_of_own : (k w : ℕ) (call : Call) → w ≡ k → calls_by k (Some (w, call) ∷ []) ≡ call ∷ []
unfolding calls_by
one_of_own k w call e = rw (eq-eqb w k e) refl

-- a call is put after those of its worker, and changes no other worker's list
pub one_call_more : (jobs : List (List Call)) (w k i : ℕ) (call : Call) (items : List Item) → w < length jobs
    → i < length items → get_or items i None ≡ Some (w, call) → get_or jobs k [] ≡ calls_by k (take i items)
    → get_or (set jobs w (get_or jobs w [] ++ call ∷ [])) k [] ≡ calls_by k (take (i + 1) items)
one_call_more jobs w k i call items h l at own = elim (cases_eq w k) [
  | inl e ↦
      subst (λ (m : ℕ). get_or (set jobs w (get_or jobs w [] ++ call ∷ [])) m [] ≡ get_or jobs m [] ++ call ∷ []) e
      (get_or-set_same jobs w (get_or jobs w [] ++ call ∷ []) [] h)
      ∙ ap (λ (z : List Call). z ++ call ∷ []) own
      ∙ ap (λ (z : List Call). calls_by k (take i items) ++ z)
      (sym (one_of_own k w call e) ∙ ap (λ (z : Item). calls_by k (z ∷ [])) (sym at))
      ∙ sym (calls_on k i items l)
  | inr n ↦
      get_or-set_other jobs w k (get_or jobs w [] ++ call ∷ []) [] (λ e. n (sym e)) ∙ own
      ∙ sym (calls_stay k i items l (ap (λ (z : Item). calls_by k (z ∷ [])) at ∙ none_of_other k w call n))
]

-- a call pushed on the vector of its worker is put after the calls of its worker
pub pushed_on : (jobs : List (Vec Call Global)) (own pushed : Vec Call Global) (w : ℕ) (call : Call) → w < length jobs
    → own ≡ get_or jobs w own → pushed.items ≡ own.items ++ call ∷ []
    → lists_of (set jobs w pushed) ≡ set (lists_of jobs) w (get_or (lists_of jobs) w [] ++ call ∷ [])
pushed_on jobs own pushed w call h here e =
    map-set (λ (v : Vec Call Global). v.items) jobs w pushed
    ∙ ap (λ (z : List Call). set (lists_of jobs) w z)
    (e ∙ ap (λ (z : List Call). z ++ call ∷ [])
    (ap (λ (v : Vec Call Global). v.items) here
    ∙ sym (get_or-map (λ (v : Vec Call Global). v.items) jobs w own [] h)))

-- the item that was read at an index is the item there
pub stands_there : (items : List Item) (i : ℕ) (x y : Item) → i < length items → x ≡ get_or items i x → x ≡ y
    → get_or items i None ≡ y
stands_there items i x y l e f = get_or_default items i None x l ∙ sym e ∙ f
