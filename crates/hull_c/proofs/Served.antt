-- Requests that are served one after the other.
use Rattle.std.proofs.Common.{rules, ◌≡◌, ◌⊎◌, inl, inr, ℕ, ◌+◌, ◌≤◌, ◌<◌, ◌++◌, List, [], ◌∷◌, length, take, drop, set}
use Rattle.std.proofs.Common.{get_or, refl, sym, ap, subst, ◌∙◌}
use Rattle.hull_reply.specs.declared.reply.HullReply.{HullReply}
use Rattle.hull_c.specs.declared.requests.HullRequest.{HullRequest}
use Rattle.hull_c.specs.Requests.{AreServed, IsBad}
use Rattle.std.proofs.lemmas.List.{drop_all, drop_more, drop-drop, drop-set, drop-set-lt, take-set, take_more_set}
use Rattle.std.proofs.lemmas.List.{take-append-drop, append_assoc}

module _ {T : Type 0} (serves : HullRequest → T → T → HullReply → Type 0) where
  -- i requests were served: what serves the requests after them serves all
  abbrev pub GoesOn : List HullRequest → List HullReply → T → T → List HullReply → ℕ → Type 0
  GoesOn qs before old now out i =
      (new : T) (after : List HullReply) (m : ℕ) → AreServed serves (drop i qs) (drop i before) now new after m
      → AreServed serves qs before old new (take i out ++ after) (i + m)

  -- without space for a reply nothing is served
  pub no_storage : (qs : List HullRequest) (now : T) → AreServed serves qs [] now now [] 0
  no_storage [] now = (refl, refl, refl)
  no_storage (q ∷ qs) now = (refl, refl, refl)

  -- at the end of the shorter array nothing more is served
  pub none_left : (qs : List HullRequest) (before : List HullReply) (now : T) (i : ℕ)
      → (length qs ≤ i) ⊎ (length before ≤ i) → AreServed serves (drop i qs) (drop i before) now now (drop i before) 0
  none_left qs before now i (inl short) =
      subst (λ (l : List HullRequest). AreServed serves l (drop i before) now now (drop i before) 0) (sym (drop_all i qs short))
      (refl, refl, refl)
  none_left qs before now i (inr short) =
      subst (λ (l : List HullReply). AreServed serves (drop i qs) l now now l 0) (sym (drop_all i before short))
      (no_storage (drop i qs) now)

  module _ (qs : List HullRequest) (before : List HullReply) (old now : T) (out : List HullReply) (i : ℕ)
      (on : GoesOn qs before old now out i) (rest : drop i out ≡ drop i before) where
    -- at the end of the shorter array all are served
    pub ends : (length qs ≤ i) ⊎ (length before ≤ i) → AreServed serves qs before old now out i
    ends short =
        let whole : take i out ++ drop i before ≡ out =
        ap (λ (l : List HullReply). take i out ++ l) (sym rest) ∙ take-append-drop i out in
        let all : i + 0 ≡ i = search rules in
        subst (λ (l : List HullReply). AreServed serves qs before old now l i) whole
        (subst (λ (n : ℕ). AreServed serves qs before old now (take i out ++ drop i before) n) all
        (on now (drop i before) 0 (none_left qs before now i short)))

    module _ (mid : T) (r : HullReply) (q : HullRequest) (within : i < length qs) (storage : i < length before)
        (long : length out ≡ length before)
        (next : drop i qs ≡ q ∷ drop (i + 1) qs) (answered : serves q now mid r) where
      here : drop i before ≡ get_or before i r ∷ drop (i + 1) before
      here = drop_more before i r storage

      -- what serves the requests from this one on
      from_here : (new : T) (after : List HullReply) (m : ℕ)
          → AreServed serves (q ∷ drop (i + 1) qs) (get_or before i r ∷ drop (i + 1) before) now new after m
          → AreServed serves (drop i qs) (drop i before) now new after m
      from_here new after m s =
          subst (λ (l : List HullRequest). AreServed serves l (drop i before) now new after m) (sym next)
          (subst (λ (l : List HullReply). AreServed serves (q ∷ drop (i + 1) qs) l now new after m) (sym here) s)

      -- the array is also unchanged after the reply
      pub rest_on : drop (i + 1) (set out i r) ≡ drop (i + 1) before
      rest_on = drop-set-lt (i + 1) out i r (search rules) ∙ sym (drop-drop 1 i out)
          ∙ ap (λ (l : List HullReply). drop 1 l) rest ∙ drop-drop 1 i before

      -- a request that can't be served is the last
      pub ends_bad : IsBad r.code → AreServed serves qs before old mid (set out i r) (i + 1)
      ends_bad bad =
          let fits : i < length out = search rules in
          let whole : take i out ++ (r ∷ drop (i + 1) before) ≡ set out i r =
          ap (λ (l : List HullReply). take i out ++ l)
          (ap (λ (l : List HullReply). r ∷ l) (sym (sym (drop-set-lt (i + 1) out i r (search rules)) ∙ rest_on))
          ∙ sym (drop-set out i r fits))
          ∙ ap (λ (l : List HullReply). l ++ drop i (set out i r)) (sym (take-set out i r))
          ∙ take-append-drop i (set out i r) in
          subst (λ (l : List HullReply). AreServed serves qs before old mid l (i + 1)) whole
          (on mid (r ∷ drop (i + 1) before) 1
          (from_here mid (r ∷ drop (i + 1) before) 1
          (r, drop (i + 1) before, mid, refl, answered, inl (bad, refl, refl, refl))))

      -- one more request was served
      pub one_more : ¬ IsBad r.code → GoesOn qs before old mid (set out i r) (i + 1)
      one_more good new after m s =
          let fits : i < length out = search rules in
          let written : take i out ++ (r ∷ after) ≡ take (i + 1) (set out i r) ++ after =
          sym (append_assoc (take i out) (r ∷ []) after)
          ∙ ap (λ (l : List HullReply). l ++ after) (sym (take_more_set out i r fits)) in
          let counted : i + (m + 1) ≡ i + 1 + m = search rules in
          subst (λ (l : List HullReply). AreServed serves qs before old new l (i + 1 + m)) written
          (subst (λ (n : ℕ). AreServed serves qs before old new (take i out ++ (r ∷ after)) n) counted
          (on new (r ∷ after) (m + 1)
          (from_here new (r ∷ after) (m + 1) (r, after, mid, refl, answered, inr (good, (m, refl, s))))))
