-- The set after points are added one by one, and that loading them at once makes the same set.
use Rattle.std.proofs.lemmas.Grind.{common_steps}
use Rattle.std.proofs.Common.{◌≡◌, ℕ, suc, ◌+◌, ◌≤◌, inl, inr, refl, sym, ◌∙◌, ap, subst, List, [], ◌∷◌, arith, ◌++◌, length, take}
use Rattle.std.proofs.Common.{drop, get_or, ◌<◌, Bool, true, false, cond, ◌-◌}
use Rattle.std.specs.List.{Contains}
use Rattle.std.proofs.lemmas.List.Sums.{sum_by-cons}
use Rattle.lattice.specs.Plane.{Pair}
use Rattle.lattice.specs.Covers.{with_point, is_before}
use Rattle.hull_set.specs.Held.{Held, once, nothing_held, with_new}
use Rattle.hull_set.proofs.HeldMultiplicities.{same_held}
use Rattle.hull_geometry.proofs.PointLists.{AllPairs-none, cut_at}
use Rattle.hull_geometry.proofs.PointSets.{same_set}
use Rattle.hull_geometry.proofs.SetLaws.{with_point_law, without_point_law}
use Rattle.hull_set.proofs.HeldMultiplicities.{once_same, same_or_other, once_other}
use Rattle.hull_set.specs.Replies.{Answers, after, reply_to_add, reply_to_remove}
use Rattle.hull_set.specs.declared.call.Call.TheVariants.{Add, Remove}
use Rattle.hull_set.specs.declared.rules.Rules.TheVariants.{Counted}
use Rattle.hull_set.specs.declared.set.AddReply.{AddReply}
use Rattle.hull_set.specs.declared.set.AddReply.TheVariants as add
use Rattle.hull_set.specs.declared.set.RemoveReply.{RemoveReply}
use Rattle.hull_set.specs.declared.set.RemoveReply.TheVariants.{Removed, Left, Absent}
use Rattle.leaf_trees.specs.Entries.{multiplicity_listed, held_after_adds, held_listed, AreEntries, IsTrueHeld}
use Rattle.hull_set.specs.Held.{multiplicity_among}
use Rattle.leaf_trees.specs.Entries.{AreTooMany}
use Rattle.leaf_trees.proofs.Rows.{with_length}
use Rattle.leaf_trees.proofs.Counting.{live_of, listed_live}

-- one more point keeps the points those with a multiplicity
with_held : (h : Held) (p : Pair) → IsTrueHeld h → IsTrueHeld (with_new p h)
with_held h p k = record {
  in_order = (with_point_law h.points p k.in_order).0;
  live = λ t. (
    λ m. elim (((with_point_law h.points p k.in_order).1 t).0 m) [
      | inl e ↦ let o : once p t ≡ 1 = subst (λ z. once p z ≡ 1) (sym e) (once_same p) in omega (arith, o)
      | inr i ↦ omega (arith, (k.live t).0 i)
    ],
    λ l. ((with_point_law h.points p k.in_order).1 t).1 (elim (same_or_other p t) [
      | inl e ↦ inl (sym e)
      | inr d ↦ inr ((k.live t).1 (omega (arith, l, once_other p t d)))
    ]),
  );
}

-- and so do many
after_held : (ps : List Pair) (h : Held) → IsTrueHeld h → IsTrueHeld (held_after_adds h ps)
after_held [] h k = k
after_held (p ∷ ps) h k = after_held ps (with_new p h) (with_held h p k)

-- the multiplicity of each point grows by the number of times that it was added
pub after_multiplicity : (ps : List Pair) (h : Held) (q : Pair) → (held_after_adds h ps).multiplicities q ≡ h.multiplicities q + multiplicity_among ps q
after_multiplicity [] h q = omega arith
after_multiplicity (p ∷ ps) h q =
    let r : (held_after_adds (with_new p h) ps).multiplicities q ≡ (h.multiplicities q + once p q) + multiplicity_among ps q =
    after_multiplicity ps (with_new p h) q in
    let s : multiplicity_among (p ∷ ps) q ≡ once p q + multiplicity_among ps q = sum_by-cons (λ p. once p q) p ps in
    omega (arith, r, s)

-- the points of entries are exactly those with a multiplicity
pub entries_held : (es : List (Pair × ℕ)) → AreEntries es → IsTrueHeld (held_listed es)
entries_held es h = record { in_order = h.in_order; live = λ t. (λ m. live_of es t h.held m, λ l. listed_live es t l) }

-- the empty list is a list of entries
pub no_entries : AreEntries []
no_entries = record { in_order = AllPairs-none; held = λ k d l. absurd (omega (arith, l)) }

-- which lists the empty set
pub none_listed : held_listed [] ≡ nothing_held
none_listed = refl

-- the empty set is a set
pub nothing_is_held : IsTrueHeld nothing_held
nothing_is_held = subst IsTrueHeld none_listed (entries_held [] no_entries)

-- a set in which each multiplicity is the old one plus the number of times among some points is the set after adding those points
pub same_as_added : (h k : Held) (ps : List Pair) → IsTrueHeld h → IsTrueHeld k
    → ((q : Pair) → k.multiplicities q ≡ h.multiplicities q + multiplicity_among ps q) → k ≡ held_after_adds h ps
same_as_added h k ps g r e =
    same_held k.points a.points k.multiplicities a.multiplicities
    (same_set k.points a.points r.in_order s.in_order
    (λ t m. (s.live t).1 (omega (arith, same t, (r.live t).0 m)))
    (λ t m. (r.live t).1 (omega (arith, same t, (s.live t).0 m)))) same
  where
    a : Held
    a = held_after_adds h ps

    s : IsTrueHeld a
    s = after_held ps h g

    same : (q : Pair) → k.multiplicities q ≡ a.multiplicities q
    same q = let z : a.multiplicities q ≡ h.multiplicities q + multiplicity_among ps q = after_multiplicity ps h q in omega (arith, e q, z)

-- entries whose multiplicities are those of a set plus the numbers of times among some points list the set after adding those points
pub merged_is_added : (h : Held) (ps : List Pair) (held added es : List (Pair × ℕ)) → IsTrueHeld h → AreEntries es
    → held_listed held ≡ h → ((q : Pair) → multiplicity_listed added q ≡ multiplicity_among ps q)
    → ((q : Pair) → multiplicity_listed es q ≡ multiplicity_listed held q + multiplicity_listed added q)
    → held_listed es ≡ held_after_adds h ps
merged_is_added h ps held added es t a e f g =
    same_as_added h (held_listed es) ps t (entries_held es a)
    (λ q. omega (arith, g q, f q, ap (λ (z : Held). z.multiplicities q) e))

-- ---- one by one

-- adding to a point of the set leaves no multiplicity below the count of only that point
once_few : (h : Held) (p q : Pair) → 1 ≤ h.multiplicities p → once p q ≤ h.multiplicities q
once_few h p q l = grind (arith, common_steps, same_or_other, once, once_same, once_other)

-- removing a point of the set lowers its multiplicity by one
pub removed_multiplicity : (h k : Held) (limit : ℕ) (p q : Pair) (r : RemoveReply) → IsTrueHeld h → 1 ≤ h.multiplicities p
    → Answers Counted h limit (Remove p) (reply_to_remove r) → k ≡ after h (Remove p) (reply_to_remove r)
    → k.multiplicities q + once p q ≡ h.multiplicities q
removed_multiplicity h k limit p q Removed t l a e = grind (arith, common_steps, once, once_few)
removed_multiplicity h k limit p q (Left n) t l a e = grind (arith, common_steps, once, once_few)
removed_multiplicity h k limit p q Absent t l a e = absurd (a ((t.live p).1 l))

-- if `add` refuses a point with `TooMany`, adding it makes too many
pub one_too_many : (h : Held) (limit : ℕ) (p : Pair) → Answers Counted h limit (Add p) (reply_to_add add.TooMany)
    → AreTooMany h (p ∷ []) limit
one_too_many h limit p (inl a) = inr (omega (arith, with_length p h.points a.0, a.1))
one_too_many h limit p (inr a) = inl (p, omega (arith, a.2, once_same p))

-- one more point leaves no fewer
grows : (p : Pair) (xs : List Pair) → length xs ≤ length (with_point p xs)
grows p [] = omega arith
grows p (t ∷ ts) = by_tests (is_before t p) (is_before p t) (grows p ts)
  where
    by_tests : (a b : Bool) → length ts ≤ length (with_point p ts)
        → length (t ∷ ts) ≤ length (cond a (t ∷ with_point p ts) (cond b (p ∷ t ∷ ts) (t ∷ ts)))
    by_tests true b r = omega (arith, r)
    by_tests false true r = omega arith
    by_tests false false r = omega arith

-- nor do many
all_grow : (h : Held) (ps : List Pair) → length h.points ≤ length (held_after_adds h ps).points
all_grow h [] = omega arith
all_grow h (p ∷ ps) = omega (arith, grows p h.points, all_grow (with_new p h) ps)

-- points after points
after_both : (h : Held) (xs ys : List Pair) → held_after_adds h (xs ++ ys) ≡ held_after_adds (held_after_adds h xs) ys
after_both h [] ys = refl
after_both h (x ∷ xs) ys = after_both (with_new x h) xs ys

-- if one point after some is too many, so are all
pub all_too_many : (h k : Held) (ps : List Pair) (i : ℕ) (p : Pair) (limit : ℕ) → k ≡ held_after_adds h (take i ps)
    → p ≡ get_or ps i p → i < length ps → AreTooMany k (p ∷ []) limit → AreTooMany h ps limit
all_too_many h k ps i p limit e g l many =
    let parts : ps ≡ take i ps ++ p ∷ drop (suc i) ps =
    cut_at ps i p l ∙ ap (λ (z : Pair). take i ps ++ z ∷ drop (suc i) ps) (sym g) in
    let whole : held_after_adds h ps ≡ held_after_adds (with_new p k) (drop (suc i) ps) =
    ap (held_after_adds h) parts ∙ after_both h (take i ps) (p ∷ drop (suc i) ps)
    ∙ ap (λ (z : Held). held_after_adds (with_new p z) (drop (suc i) ps)) (sym e) in
    elim many [
      | inl m ↦
          inl (
            m.0,
            omega (arith, m.1, ap (λ (z : Held). z.multiplicities m.0) whole, after_multiplicity (drop (suc i) ps) (with_new p k) m.0),
          )
      | inr m ↦
          inr (omega (arith, m, ap (λ (z : Held). length z.points) whole, all_grow (with_new p k) (drop (suc i) ps)))
    ]

-- ---- one change

-- the reply of `add` keeps the points those with a multiplicity
pub kept_by_add : (h : Held) (limit : ℕ) (p : Pair) (r : AddReply) → IsTrueHeld h
    → Answers Counted h limit (Add p) (reply_to_add r) → IsTrueHeld (after h (Add p) (reply_to_add r))
kept_by_add h limit p add.Added k a = with_held h p k
kept_by_add h limit p (add.Again n) k a = record {
  in_order = k.in_order;
  live = λ t. (
    λ m. omega (arith, (k.live t).0 m),
    λ l. elim (same_or_other p t) [
      | inl e ↦ subst (Contains h.points) e a.1
      | inr d ↦ (k.live t).1 (omega (arith, l, once_other p t d))
    ],
  );
}
kept_by_add h limit p add.TooMany k a = k
kept_by_add h limit p add.NoMemory k a = k

-- so does the reply of `remove`
pub kept_by_remove : (h : Held) (limit : ℕ) (p : Pair) (r : RemoveReply) → IsTrueHeld h
    → Answers Counted h limit (Remove p) (reply_to_remove r) → IsTrueHeld (after h (Remove p) (reply_to_remove r))
kept_by_remove h limit p Removed k a = record {
  in_order = (without_point_law h.points p k.in_order).0;
  live = λ t. (
    λ m. let i = ((without_point_law h.points p k.in_order).1 t).0 m in
        omega (arith, (k.live t).0 i.0, once_other p t (λ e. i.1 (sym e))),
    λ l. ((without_point_law h.points p k.in_order).1 t).1 (
      (k.live t).1 (omega (arith, l)),
      λ e. gone t e l,
    ),
  );
}
  where
    gone : (t : Pair) → t ≡ p → 1 ≤ h.multiplicities t - once p t → ⊥
    gone t e l = grind (arith, common_steps, once, once_same)
kept_by_remove h limit p (Left n) k a = record {
  in_order = k.in_order;
  live = λ t. (
    λ m. elim (same_or_other p t) [
      | inl e ↦
          let o : once p t ≡ 1 = subst (λ z. once p z ≡ 1) e (once_same p) in
          let f : h.multiplicities t ≡ n + 1 = ap h.multiplicities (sym e) ∙ a.2 in
          omega (arith, o, f, a.3)
      | inr d ↦ omega (arith, (k.live t).0 m, once_other p t d)
    ],
    λ l. (k.live t).1 (omega (arith, l)),
  );
}
kept_by_remove h limit p Absent k a = k
