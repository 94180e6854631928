-- The contents without the points that wait for their removal.
use Rattle.std.proofs.Common.{◌≡◌, ◌⊎◌, inl, inr, refl, sym, ap, ◌∙◌, subst, List, length}
use Rattle.std.proofs.Common.{ℕ, suc, ◌+◌, ◌-◌, ◌<◌, ◌≤◌, arith}
use Rattle.std.proofs.Common.{[], ◌∷◌, ◌++◌, get_or, take, drop}
use Rattle.std.specs.Prelude.{◌↔◌}
use Rattle.std.specs.List.{Contains, remove}
use Rattle.std.proofs.lemmas.List.Elements.{Contains-append_left, Contains-append_right, Contains-append_cases}
use Rattle.lattice.specs.Plane.{Pair}
use Rattle.lattice.specs.Covers.{IsPointSet}
use Rattle.hull_geometry.proofs.PointLists.{cut_at, later, only_member}
use Rattle.hull_geometry.proofs.SetLaws.{members_without, ordered_without}
use Rattle.hull_set.proofs.HeldMultiplicities.{once_other, once_same, same_or_other}
use Rattle.hull_set.specs.Held.{Held, once, with_again, with_new, with_none, with_one_less}
use Rattle.leaf_trees.proofs.Rows.{without_length}
use Rattle.deferring_set.specs.Removals.{AreDeferred, AreDistinct, without_all}
use Rattle.deferring_set.proofs.Orders.{again_order, back_again, leave_order, less_order, new_order}

-- the first entry is in the list
pub first_in : (p q : Pair) (ps : List Pair) → q ≡ p → Contains (p ∷ ps) q
first_in p q ps e = (0, omega arith, sym e)

-- an entry is the first, or among the rest
pub in_rest : (p : Pair) (ps : List Pair) (q : Pair) → Contains (p ∷ ps) q → (q ≡ p) ⊎ Contains ps q
in_rest p ps q m =
    elim (Contains-append_cases (p ∷ []) ps q m) [ inl i ↦ inl (only_member p q i) | inr i ↦ inr i ]

-- nothing is in the empty list
none_in : (q : Pair) → ¬ Contains [] q
none_in q m = absurd (omega (arith, m.1))

-- if no point waits, nothing is left out
pub without_none : (h : Held) → without_all [] h ≡ h
unfolding without_all
without_none h = refl

-- the same of a list that is empty
pub settled : (ps : List Pair) (h : Held) → ps ≡ [] → without_all ps h ≡ h
settled ps h e = ap (λ (z : List Pair). without_all z h) e ∙ without_none h

-- what is left is in order
pub ordered_all : (ps : List Pair) (h : Held) → IsPointSet h.points → IsPointSet (without_all ps h).points
unfolding without_all
ordered_all [] h s = s
ordered_all (p ∷ ps) h s = ordered_all ps (with_none p h) (ordered_without p h.points s)

-- one more point that leaves, as the last or the first
pub none_after : (p : Pair) (ps : List Pair) (h : Held) → IsPointSet h.points
    → with_none p (without_all ps h) ≡ without_all ps (with_none p h)
unfolding without_all
none_after p [] h s = refl
none_after p (q ∷ qs) h s =
    none_after p qs (with_none q h) (ordered_without q h.points s) ∙ ap (without_all qs) (leave_order p q h s)

-- the last of the points leaves last
pub without_push : (p : Pair) (ps : List Pair) (h : Held) → without_all (ps ++ p ∷ []) h ≡ with_none p (without_all ps h)
unfolding without_all
without_push p [] h = refl
without_push p (q ∷ qs) h = without_push p qs (with_none q h)

-- a new point that does not wait, before the removals or after them
pub new_after : (q : Pair) (ps : List Pair) (h : Held) → IsPointSet h.points → ¬ Contains ps q
    → with_new q (without_all ps h) ≡ without_all ps (with_new q h)
unfolding without_all
new_after q [] h s n = refl
new_after q (p ∷ ps) h s n =
    new_after q ps (with_none p h) (ordered_without p h.points s) (λ m. n (later p q ps m))
    ∙ ap (without_all ps) (new_order p q h s (λ e. n (first_in p q ps e)))

-- a point that does not wait and is added once more, before the removals or after them
pub again_after : (q : Pair) (ps : List Pair) (h : Held) → ¬ Contains ps q
    → with_again q (without_all ps h) ≡ without_all ps (with_again q h)
unfolding without_all
again_after q [] h n = refl
again_after q (p ∷ ps) h n =
    again_after q ps (with_none p h) (λ m. n (later p q ps m))
    ∙ ap (without_all ps) (again_order p q h (λ e. n (first_in p q ps e)))

-- a point that is removed once and stays, before the removals or after them
pub less_after : (q : Pair) (ps : List Pair) (h : Held) → with_one_less q (without_all ps h) ≡ without_all ps (with_one_less q h)
unfolding without_all
less_after q [] h = refl
less_after q (p ∷ ps) h = less_after q ps (with_none p h) ∙ ap (without_all ps) (less_order p q h)

-- the points that are left are those that do not wait
pub members_all : (ps : List Pair) (h : Held) (q : Pair) → IsPointSet h.points
    → Contains (without_all ps h).points q ↔ (Contains h.points q × ¬ Contains ps q)
unfolding without_all
members_all [] h q s = (λ m. (m, none_in q), λ m. m.0)
members_all (p ∷ ps) h q s =
    let r = members_all ps (with_none p h) q (ordered_without p h.points s) in
    let w = members_without p q h.points s in (
      λ m. let a = r.0 m in let b = w.0 a.0 in (b.0, λ k. elim (in_rest p ps q k) [ inl e ↦ b.1 e | inr i ↦ a.1 i ]),
      λ m. r.1 (w.1 (m.0, λ e. m.1 (first_in p q ps e)), λ i. m.1 (later p q ps i)),
    )

-- a number less nothing
less_none : (n k : ℕ) → k ≡ 0 → n - k ≡ n
less_none n k e = omega (arith, e)

-- a point that does not wait keeps its multiplicity
pub other_all : (ps : List Pair) (h : Held) (q : Pair) → ¬ Contains ps q
    → (without_all ps h).multiplicities q ≡ h.multiplicities q
unfolding without_all
other_all [] h q n = refl
other_all (p ∷ ps) h q n =
    other_all ps (with_none p h) q (λ m. n (later p q ps m))
    ∙ less_none (h.multiplicities q) (once p q) (once_other p q (λ e. n (first_in p q ps (sym e))))

-- no multiplicity grows
low_all : (ps : List Pair) (h : Held) (q : Pair) → (without_all ps h).multiplicities q ≤ h.multiplicities q
unfolding without_all
low_all [] h q = omega arith
low_all (p ∷ ps) h q =
    let l : (without_all ps (with_none p h)).multiplicities q ≤ h.multiplicities q - once p q = low_all ps (with_none p h) q in
    omega (arith, l)

-- a number that is at most one less one
no_more : (n m k : ℕ) → n ≤ m - k → m ≡ 1 → k ≡ 1 → n ≡ 0
no_more n m k l e f = omega (arith, l, e, f)

-- a point that waits has multiplicity 0 afterwards
pub gone_all : (ps : List Pair) (h : Held) (q : Pair) → Contains ps q → h.multiplicities q ≡ 1
    → (without_all ps h).multiplicities q ≡ 0
unfolding without_all
gone_all [] h q m e = absurd (none_in q m)
gone_all (p ∷ ps) h q m e =
    elim (same_or_other p q) [
      | inl f ↦ no_more _ _ _ (low_all ps (with_none p h) q) e (subst (λ (z : Pair). once p z ≡ 1) f (once_same p))
      | inr d ↦
          elim (in_rest p ps q m) [
            | inl f ↦ absurd (d (sym f))
            | inr i ↦ gone_all ps (with_none p h) q i
                (less_none (h.multiplicities q) (once p q) (once_other p q d) ∙ e)
          ]
    ]

-- without the first of the points, the others wait
deferred_tail : (p : Pair) (ps : List Pair) (h : Held) → AreDeferred (p ∷ ps) h → AreDeferred ps (with_none p h)
unfolding AreDistinct
deferred_tail p ps h d = record {
  in_order = ordered_without p h.points d.in_order;
  distinct = d.distinct.1;
  once = λ q m.
      let c = d.once q (later p q ps m) in
      let n : ¬ (q ≡ p) = λ e. d.distinct.0 (subst (Contains ps) e m) in (
        (members_without p q h.points d.in_order).1 (c.0, n),
        less_none (h.multiplicities q) (once p q) (once_other p q (λ e. n (sym e))) ∙ c.1,
      );
}

-- as many points are fewer as wait
pub count_all : (ps : List Pair) (h : Held) → AreDeferred ps h → length (without_all ps h).points + length ps ≡ length h.points
unfolding without_all
count_all [] h d = omega arith
count_all (p ∷ ps) h d =
    let r : length (without_all ps (with_none p h)).points + length ps ≡ length (with_none p h).points =
    count_all ps (with_none p h) (deferred_tail p ps h d) in
    let w : length (with_none p h).points + 1 ≡ length h.points =
    without_length p h.points d.in_order (d.once p (first_in p p ps refl)).0 in
    omega (arith, r, w)

-- no point waits in the beginning
pub deferred_none : (h : Held) → IsPointSet h.points → AreDeferred [] h
unfolding AreDistinct
deferred_none h s = record { in_order = s; distinct = record {}; once = λ q m. absurd (none_in q m) }

-- a further point at the end of different ones
distinct_push : (p : Pair) (ps : List Pair) → AreDistinct ps → ¬ Contains ps p → AreDistinct (ps ++ p ∷ [])
unfolding AreDistinct
distinct_push p [] d n = (none_in p, record {})
distinct_push p (q ∷ qs) d n = (apart, distinct_push p qs d.1 (λ m. n (later q p qs m)))
  where
    apart : ¬ Contains (qs ++ p ∷ []) q
    apart m =
        elim (Contains-append_cases qs (p ∷ []) q m) [
          | inl i ↦ d.0 i
          | inr i ↦ n (first_in q p qs (sym (only_member p q i)))
        ]

-- a point of multiplicity one begins to wait
pub deferred_push : (p : Pair) (ps : List Pair) (h : Held) → AreDeferred ps h → ¬ Contains ps p → Contains h.points p
    → h.multiplicities p ≡ 1 → AreDeferred (ps ++ p ∷ []) h
deferred_push p ps h d n c e = record {
  in_order = d.in_order;
  distinct = distinct_push p ps d.distinct n;
  once = λ q m.
      elim (Contains-append_cases ps (p ∷ []) q m) [
        | inl i ↦ d.once q i
        | inr i ↦ subst (λ (z : Pair). Contains h.points z × (h.multiplicities z ≡ 1)) (sym (only_member p q i)) (c, e)
      ];
}

-- different points without the last
distinct_pop : (p : Pair) (ps : List Pair) → AreDistinct (ps ++ p ∷ []) → AreDistinct ps × ¬ Contains ps p
unfolding AreDistinct
distinct_pop p [] d = (record {}, none_in p)
distinct_pop p (q ∷ qs) d =
    let r = distinct_pop p qs d.1 in (
      (λ m. d.0 (Contains-append_left qs (p ∷ []) q m), r.0),
      λ m.
          elim (in_rest q qs p m) [
            | inl e ↦ d.0 (Contains-append_right qs (p ∷ []) q (first_in p q [] (sym e)))
            | inr i ↦ r.1 i
          ],
    )

-- the last of the points leaves the set
pub deferred_pop : (p : Pair) (ps : List Pair) (h : Held) → AreDeferred (ps ++ p ∷ []) h → AreDeferred ps (with_none p h)
deferred_pop p ps h d =
    let r = distinct_pop p ps d.distinct in
    record {
      in_order = ordered_without p h.points d.in_order;
      distinct = r.0;
      once = λ q m.
          let c = d.once q (Contains-append_left ps (p ∷ []) q m) in
          let n : ¬ (q ≡ p) = λ e. r.1 (subst (Contains ps) e m) in (
            (members_without p q h.points d.in_order).1 (c.0, n),
            less_none (h.multiplicities q) (once p q) (once_other p q (λ e. n (sym e))) ∙ c.1,
          );
    }

-- the contents are the same whether the last of the points waits or has left
pub without_pop : (p : Pair) (ps : List Pair) (h : Held) → IsPointSet h.points
    → without_all (ps ++ p ∷ []) h ≡ without_all ps (with_none p h)
without_pop p ps h s = without_push p ps h ∙ none_after p ps h s

-- what is in two lists is there also if a point is between them
wider : (p q : Pair) (xs ys : List Pair) → Contains (xs ++ ys) q → Contains (xs ++ p ∷ ys) q
wider p q xs ys m =
    elim (Contains-append_cases xs ys q m) [
      | inl i ↦ Contains-append_left xs (p ∷ ys) q i
      | inr i ↦ Contains-append_right xs (p ∷ ys) q (later p q ys i)
    ]

-- different points without one of them
distinct_without : (p : Pair) (xs ys : List Pair) → AreDistinct (xs ++ p ∷ ys) → AreDistinct (xs ++ ys)
unfolding AreDistinct
distinct_without p [] ys d = d.1
distinct_without p (x ∷ xs) ys d = (λ m. d.0 (wider p x xs ys m), distinct_without p xs ys d.1)

-- one of the points no longer waits
stays : (p : Pair) (xs ys : List Pair) (h : Held) → AreDeferred (xs ++ p ∷ ys) h → AreDeferred (xs ++ ys) h
stays p xs ys h d = record {
  in_order = d.in_order;
  distinct = distinct_without p xs ys d.distinct;
  once = λ q m. d.once q (wider p q xs ys m);
}

-- the contents are then those to which it is added as a new point
stays_new : (p : Pair) (xs ys : List Pair) (h : Held) → AreDeferred (xs ++ p ∷ ys) h
    → without_all (xs ++ ys) h ≡ with_new p (without_all (xs ++ p ∷ ys) h)
unfolding without_all AreDistinct
stays_new p [] ys h d =
    let c = d.once p (first_in p p ys refl) in
    sym (new_after p ys (with_none p h) (ordered_without p h.points d.in_order) d.distinct.0
    ∙ ap (without_all ys) (back_again p h d.in_order c.0 c.1))
stays_new p (x ∷ xs) ys h d = stays_new p xs ys (with_none x h) (deferred_tail x (xs ++ p ∷ ys) h d)

-- a list is what comes before an index, the entry there, and the rest
cut_by : (ps : List Pair) (i : ℕ) (p : Pair) → i < length ps → get_or ps i p ≡ p
    → ps ≡ take i ps ++ p ∷ drop (suc i) ps
cut_by ps i p l e = cut_at ps i p l ∙ ap (λ (z : Pair). take i ps ++ z ∷ drop (suc i) ps) e

-- the point at an index no longer waits
pub deferred_remove : (ps : List Pair) (i : ℕ) (p : Pair) (h : Held) → i < length ps → get_or ps i p ≡ p → AreDeferred ps h
    → AreDeferred (remove ps i) h
deferred_remove ps i p h l e d =
    stays p (take i ps) (drop (suc i) ps) h (subst (λ (z : List Pair). AreDeferred z h) (cut_by ps i p l e) d)

-- the contents are then those to which it is added as a new point
pub without_remove : (ps : List Pair) (i : ℕ) (p : Pair) (h : Held) → i < length ps → get_or ps i p ≡ p → AreDeferred ps h
    → without_all (remove ps i) h ≡ with_new p (without_all ps h)
without_remove ps i p h l e d =
    let c : ps ≡ take i ps ++ p ∷ drop (suc i) ps = cut_by ps i p l e in
    stays_new p (take i ps) (drop (suc i) ps) h (subst (λ (z : List Pair). AreDeferred z h) c d)
    ∙ ap (λ (z : List Pair). with_new p (without_all z h)) (sym c)
