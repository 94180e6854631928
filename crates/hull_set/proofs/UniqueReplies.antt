-- A call has only one possible reply, except that memory may be refused.
use Rattle.std.proofs.Common.{◌≡◌, ◌+◌, ◌≤◌, ℕ, ℤ, pos, ◌≤ℤ◌, ◌<ℤ◌, neg_ℤ, ◌⊎◌, inl, inr, refl, sym, ap, ◌∙◌, subst}
use Rattle.std.proofs.Common.{List, arith, ◌<◌, [], length, ◌≢◌}
use Rattle.std.specs.List.{Contains}
use Rattle.std.proofs.lemmas.Int.{ints}
use Rattle.std.proofs.lemmas.List.Elements.{All-contains}
use Rattle.lattice.specs.Covers.{Covers, Member, OnSegment}
use Rattle.lattice.specs.Plane.{Pair, orient, product, distance_squared, IsBefore}
use Rattle.lattice.specs.Vertices.{IsVertexList}
use Rattle.hull_set.specs.Held.{Held}
use Rattle.hull_set.specs.Laws.{AgreesWith}
use Rattle.hull_set.specs.declared.TheConstants.{MULTIPLICITY_LIMIT}
use Rattle.hull_set.specs.declared.rules.Rules.{Rules}
use Rattle.hull_set.specs.declared.rules.Rules.TheVariants.{Set, Counted}
use Rattle.hull_set.specs.Replies.{AnswersAdd, AnswersRemove, AnswersExtreme, AnswersPlace, LiesAt, AnswersTangents}
use Rattle.hull_set.specs.Replies.{AnswersVertices, AnswersArea, AnswersCount, Answers}
use Rattle.hull_geometry.specs.Tangents.{IsFirstFarthest, IsNoMore, IsTangent, IsLeftTangent, IsRightTangent}
use Rattle.hull_geometry.specs.declared.hand.Hand.{Hand}
use Rattle.hull_geometry.specs.declared.hand.Hand.TheVariants.{Left as LeftHand, Right as RightHand}
use Rattle.hull_geometry.proofs.CoveredByEdges.{on_segment}
use Rattle.hull_geometry.proofs.EdgeSteps.{past_farther, past_farther_back}
use Rattle.lattice.proofs.Order.{before_total, equal_by}
use Rattle.hull_geometry.proofs.Orientation.{orient_swap}
use Rattle.hull_geometry.proofs.UniqueVertices.{vertex_list_unique, doubled_area_unique}
use Rattle.hull_set.specs.declared.call.Call.{Call}
use Rattle.hull_set.specs.declared.call.Call.TheVariants as call
use Rattle.hull_set.specs.declared.set.Place.{Place as WherePlaced}
use Rattle.hull_set.specs.declared.set.Place.TheVariants.{Inside, On, Outside}
use Rattle.hull_set.specs.declared.reply.Reply.{Reply}
use Rattle.hull_set.specs.declared.reply.Reply.TheVariants as reply

-- there is only one first farthest point
pub first_farthest_unique : (S : List Pair) (d t u : Pair) → IsFirstFarthest S d t → IsFirstFarthest S d u → t ≡ u
first_farthest_unique S d t u h g =
    let a : product d t ≤ℤ product d u = All-contains (λ z. product d z ≤ℤ product d u) S t g.1 h.0 in
    let b : product d u ≤ℤ product d t = All-contains (λ z. product d z ≤ℤ product d t) S u h.1 g.0 in
    let e : product d t ≡ product d u = omega (arith, ints) in
    equal_by t u (λ k. All-contains (λ z. IsBefore z u → product d z ≢ product d u) S t g.2 h.0 k e)
    (λ k. All-contains (λ z. IsBefore z t → product d z ≢ product d t) S u h.2 g.0 k (sym e))

-- two points of S in line with q and equally far from it are equal, if S does not cover q
same_distance : (S : List Pair) (q a b : Pair) → ¬ Covers S q → Contains S a → Contains S b → orient q a b ≡ pos 0
    → distance_squared q a ≡ distance_squared q b → a ≡ b
same_distance S q a b n ma mb z e =
    elim (before_total a q) [
      | inr (inl f) ↦ absurd (n (Member (subst (Contains S) f ma)))
      | inl ha ↦ elim (before_total b q) [
        | inr (inl f) ↦ absurd (n (Member (subst (Contains S) f mb)))
        | inr (inr hb) ↦ absurd (n (OnSegment a b ma mb (on_segment a b q ha hb z)))
        | inl hb ↦ equal_by a b (λ k. unequal _ _ (past_farther_back q b a hb k back) (sym e))
            (λ k. unequal _ _ (past_farther_back q a b ha k z) e)
      ]
      | inr (inr ha) ↦ elim (before_total b q) [
        | inr (inl f) ↦ absurd (n (Member (subst (Contains S) f mb)))
        | inl hb ↦ absurd (n (OnSegment b a mb ma (on_segment b a q hb ha back)))
        | inr (inr hb) ↦ equal_by a b (λ k. unequal _ _ (past_farther q a b ha k z) e)
            (λ k. unequal _ _ (past_farther q b a hb k back) (sym e))
      ]
    ]
  where
    back : orient q b a ≡ pos 0
    back = orient_swap q b a ∙ ap neg_ℤ z

    unequal : (m k : ℤ) → m <ℤ k → m ≡ k → ⊥
    unequal m k h f = omega (arith, ints)

-- if of two points neither is farther on a hand, q sees them in line
in_line : (hand : Hand) (q a b : Pair) → IsNoMore hand q a b → IsNoMore hand q b a → orient q a b ≡ pos 0
in_line LeftHand q a b f g = let e = orient_swap q a b in omega (arith, ints, f.0, g.0)
in_line RightHand q a b f g = let e = orient_swap q a b in omega (arith, ints, f.0, g.0)

-- a point that is no more on a hand and in line is no farther off
no_farther : (hand : Hand) (q a b : Pair) → IsNoMore hand q a b → orient q a b ≡ pos 0
    → distance_squared q b ≤ℤ distance_squared q a
no_farther LeftHand q a b f = f.1
no_farther RightHand q a b f = f.1

-- there is only one tangent point on a hand
tangent_unique : (hand : Hand) (S : List Pair) (q a b : Pair) → ¬ Covers S q → IsTangent hand S q a
    → IsTangent hand S q b → a ≡ b
tangent_unique hand S q a b n h g =
    let f : IsNoMore hand q a b = All-contains (IsNoMore hand q a) S b h.1 g.0 in
    let k : IsNoMore hand q b a = All-contains (IsNoMore hand q b) S a g.1 h.0 in
    let z : orient q a b ≡ pos 0 = in_line hand q a b f k in
    same_distance S q a b n h.0 g.0 z
    (le_both _ _ (no_farther hand q b a k (in_line hand q b a k f)) (no_farther hand q a b f z))
  where
    le_both : (x y : ℤ) → x ≤ℤ y → y ≤ℤ x → x ≡ y
    le_both x y h f = omega (arith, ints)

-- q has only one place
pub place_unique : (S : List Pair) (q : Pair) (place other : WherePlaced) → LiesAt S q place → LiesAt S q other
    → place ≡ other
place_unique S q Inside Inside a b = refl
place_unique S q Inside On a b = absurd (a.1 b.1)
place_unique S q Inside Outside a b = absurd (b a.0)
place_unique S q On Inside a b = absurd (b.1 a.1)
place_unique S q On On a b = refl
place_unique S q On Outside a b = absurd (b a.0)
place_unique S q Outside Inside a b = absurd (a b.0)
place_unique S q Outside On a b = absurd (a b.0)
place_unique S q Outside Outside a b = refl

-- true of only the rules of a set
IsOfSets : Rules → Type 0
IsOfSets Set = Unit {0}
IsOfSets Counted = ⊥

-- the two rules are different
set_is_not_counted : Set ≡ Counted → ⊥
unfolding IsOfSets
set_is_not_counted e = subst IsOfSets e tt

-- the rules are not both of the two
one_rule : (rules : Rules) → rules ≡ Set → rules ≡ Counted → ⊥
one_rule Set a b = set_is_not_counted b
one_rule Counted a b = set_is_not_counted (sym a)

-- the reply to `add p` is `already` if points are not counted and p is in the set
already : (held : Held) (limit : ℕ) (rules : Rules) (p : Pair) (r : Reply) → rules ≡ Set → Contains held.points p
    → AnswersAdd rules held limit p r → AgreesWith reply.Already r
already held limit rules p reply.Added e a b = absurd (b.0 a)
already held limit rules p reply.NoMemory e a b = absurd (b.0 a)
already held limit rules p reply.Already e a b = inl refl
already held limit rules p (reply.Again n) e a b = absurd (one_rule rules e b.0)
already held limit rules p reply.TooMany e a (inl b) = absurd (b.0 a)
already held limit rules p reply.TooMany e a (inr b) = absurd (one_rule rules e b.0)
already held limit rules p _ e a b = absurd b

-- the reply to `add p` is `again` if points are counted and p has less than the greatest multiplicity
again : (held : Held) (limit : ℕ) (rules : Rules) (p : Pair) (n : ℕ) (r : Reply) → rules ≡ Counted
    → Contains held.points p → n ≡ held.multiplicities p + 1 → n ≤ MULTIPLICITY_LIMIT → AnswersAdd rules held limit p r
    → AgreesWith (reply.Again n) r
again held limit rules p n reply.Added e a h l b = absurd (b.0 a)
again held limit rules p n reply.NoMemory e a h l b = absurd (b.0 a)
again held limit rules p n reply.Already e a h l b = absurd (one_rule rules b.0 e)
again held limit rules p n (reply.Again m) e a h l b = inl (ap reply.Again (h ∙ sym b.2))
again held limit rules p n reply.TooMany e a h l (inl b) = absurd (b.0 a)
again held limit rules p n reply.TooMany e a h l (inr b) = absurd (omega (arith, h, l, b.2))
again held limit rules p n _ e a h l b = absurd b

-- the reply to `add p` of a new point at the limit is `too-many`
full : (held : Held) (limit : ℕ) (rules : Rules) (p : Pair) (r : Reply) → ¬ Contains held.points p
    → length held.points ≡ limit → AnswersAdd rules held limit p r → AgreesWith reply.TooMany r
full held limit rules p reply.Added n e b = absurd (omega (arith, e, b.1))
full held limit rules p reply.NoMemory n e b = inr (inr refl)
full held limit rules p reply.Already n e b = absurd (n b.1)
full held limit rules p (reply.Again m) n e b = absurd (n b.1)
full held limit rules p reply.TooMany n e b = inl refl
full held limit rules p _ n e b = absurd b

-- the reply to `add p` is `too-many` if points are counted and p has the greatest multiplicity
most : (held : Held) (limit : ℕ) (rules : Rules) (p : Pair) (r : Reply) → rules ≡ Counted → Contains held.points p
    → held.multiplicities p ≡ MULTIPLICITY_LIMIT → AnswersAdd rules held limit p r → AgreesWith reply.TooMany r
most held limit rules p reply.Added e a h b = absurd (b.0 a)
most held limit rules p reply.NoMemory e a h b = absurd (b.0 a)
most held limit rules p reply.Already e a h b = absurd (one_rule rules b.0 e)
most held limit rules p (reply.Again n) e a h b = absurd (omega (arith, h, b.2, b.4))
most held limit rules p reply.TooMany e a h b = inl refl
most held limit rules p _ e a h b = absurd b

-- the reply to `add p` of a new point below the limit is `added`, unless memory is refused
added : (held : Held) (limit : ℕ) (rules : Rules) (p : Pair) (r : Reply) → ¬ Contains held.points p
    → length held.points < limit → AnswersAdd rules held limit p r → AgreesWith reply.Added r
added held limit rules p reply.Added n e b = inl refl
added held limit rules p reply.NoMemory n e b = inr (inr refl)
added held limit rules p reply.Already n e b = absurd (n b.1)
added held limit rules p (reply.Again m) n e b = absurd (n b.1)
added held limit rules p reply.TooMany n e (inl b) = absurd (omega (arith, e, b.1))
added held limit rules p reply.TooMany n e (inr b) = absurd (n b.1)
added held limit rules p _ n e b = absurd b

-- `add p` has only one reply
one_reply_to_add : (held : Held) (limit : ℕ) (rules : Rules) (p : Pair) (r s : Reply) → AnswersAdd rules held limit p r
    → AnswersAdd rules held limit p s → AgreesWith r s
one_reply_to_add held limit rules p reply.Added s a b = added held limit rules p s a.0 a.1 b
one_reply_to_add held limit rules p reply.NoMemory s a b = inr (inl refl)
one_reply_to_add held limit rules p reply.Already s a b = already held limit rules p s a.0 a.1 b
one_reply_to_add held limit rules p (reply.Again n) s a b = again held limit rules p n s a.0 a.1 a.2 a.4 b
one_reply_to_add held limit rules p reply.TooMany s (inl a) b = full held limit rules p s a.0 a.1 b
one_reply_to_add held limit rules p reply.TooMany s (inr a) b = most held limit rules p s a.0 a.1 a.2 b
one_reply_to_add held limit rules p _ s a b = absurd a

-- the reply to `remove p` is `removed` if p has multiplicity 1, or is not counted
removed : (held : Held) (rules : Rules) (p : Pair) (r : Reply) → Contains held.points p
    → (rules ≡ Counted → held.multiplicities p ≡ 1) → AnswersRemove rules held p r → AgreesWith reply.Removed r
removed held rules p reply.Removed a h b = inl refl
removed held rules p (reply.Left n) a h b = let e : held.multiplicities p ≡ 1 = h b.0 in absurd (omega (arith, e, b.2, b.3))
removed held rules p reply.Absent a h b = absurd (b a)
removed held rules p _ a h b = absurd b

-- the reply to `remove p` is `left` if points are counted and p has a greater multiplicity
left : (held : Held) (rules : Rules) (p : Pair) (n : ℕ) (r : Reply) → rules ≡ Counted → Contains held.points p
    → held.multiplicities p ≡ n + 1 → 1 ≤ n → AnswersRemove rules held p r → AgreesWith (reply.Left n) r
left held rules p n reply.Removed e a h l b = let f : held.multiplicities p ≡ 1 = b.1 e in absurd (omega (arith, f, h, l))
left held rules p n (reply.Left m) e a h l b = inl (ap reply.Left (same m b.2))
  where
    same : (m : ℕ) → held.multiplicities p ≡ m + 1 → n ≡ m
    same m g = omega (arith, h, g)
left held rules p n reply.Absent e a h l b = absurd (b a)
left held rules p n _ e a h l b = absurd b

-- the reply to `remove p` is `absent` if p is not in the set
absent : (held : Held) (rules : Rules) (p : Pair) (r : Reply) → ¬ Contains held.points p → AnswersRemove rules held p r
    → AgreesWith reply.Absent r
absent held rules p reply.Removed a b = absurd (a b.0)
absent held rules p (reply.Left n) a b = absurd (a b.1)
absent held rules p reply.Absent a b = inl refl
absent held rules p _ a b = absurd b

-- `remove p` has only one reply
one_reply_to_remove : (held : Held) (rules : Rules) (p : Pair) (r s : Reply) → AnswersRemove rules held p r
    → AnswersRemove rules held p s → AgreesWith r s
one_reply_to_remove held rules p reply.Removed s a b = removed held rules p s a.0 a.1 b
one_reply_to_remove held rules p (reply.Left n) s a b = left held rules p n s a.0 a.1 a.2 a.3 b
one_reply_to_remove held rules p reply.Absent s a b = absent held rules p s a b
one_reply_to_remove held rules p _ s a b = absurd a

-- the empty list has no member
pub no_member : (S : List Pair) (t : Pair) → S ≡ [] → Contains S t → ⊥
no_member S t e m = let n : length S ≡ 0 = ap (λ (z : List Pair). length z) e in absurd (omega (arith, m.1))

-- the reply to `extreme d` of a set with points is the first of the farthest
farthest_point : (S : List Pair) (d t : Pair) (r : Reply) → IsFirstFarthest S d t → AnswersExtreme S d r
    → AgreesWith (reply.Farthest t) r
farthest_point S d t (reply.Farthest u) a b = inl (ap reply.Farthest (first_farthest_unique S d t u a b))
farthest_point S d t reply.Empty a b = absurd (no_member S t b a.0)
farthest_point S d t _ a b = absurd b

-- the reply to `extreme d` of the empty set is `empty`
no_farthest : (S : List Pair) (d : Pair) (r : Reply) → S ≡ [] → AnswersExtreme S d r → AgreesWith reply.Empty r
no_farthest S d (reply.Farthest u) a b = absurd (no_member S u a b.0)
no_farthest S d reply.Empty a b = inl refl
no_farthest S d _ a b = absurd b

-- `extreme d` has only one reply
one_reply_to_extreme : (S : List Pair) (d : Pair) (r s : Reply) → AnswersExtreme S d r → AnswersExtreme S d s → AgreesWith r s
one_reply_to_extreme S d (reply.Farthest t) s a b = farthest_point S d t s a b
one_reply_to_extreme S d reply.Empty s a b = no_farthest S d s a b
one_reply_to_extreme S d _ s a b = absurd a

-- a set with a tangent point of q is not empty and does not cover q
no_both : (S : List Pair) (q l : Pair) → ¬ Covers S q → Contains S l → ¬ ((S ≡ []) ⊎ Covers S q)
no_both S q l n m (inl e) = no_member S l e m
no_both S q l n m (inr c) = n c

-- the reply to `tangents q` from outside is the two tangent points
tangent_points : (S : List Pair) (q l r : Pair) (other : Reply)
    → ¬ Covers S q × IsLeftTangent S q l × IsRightTangent S q r → AnswersTangents S q other
    → AgreesWith (reply.TangentPoints l r) other
tangent_points S q l r (reply.TangentPoints m s) a b =
    inl (ap (λ (z : Pair). reply.TangentPoints z r) (tangent_unique LeftHand S q l m a.0 a.1 b.1)
    ∙ ap (reply.TangentPoints m) (tangent_unique RightHand S q r s a.0 a.2 b.2))
tangent_points S q l r reply.NoTangent a b = absurd (no_both S q l a.0 a.1.0 b)
tangent_points S q l r _ a b = absurd b

-- the reply to `tangents q` of an empty set, or from a point that is covered, is that there is no tangent
no_tangent : (S : List Pair) (q : Pair) (other : Reply) → (S ≡ []) ⊎ Covers S q → AnswersTangents S q other
    → AgreesWith reply.NoTangent other
no_tangent S q (reply.TangentPoints l r) a b = absurd (no_both S q l b.0 b.1.0 a)
no_tangent S q reply.NoTangent a b = inl refl
no_tangent S q _ a b = absurd b

-- `tangents q` has only one reply
one_reply_to_tangents : (S : List Pair) (q : Pair) (r s : Reply) → AnswersTangents S q r → AnswersTangents S q s
    → AgreesWith r s
one_reply_to_tangents S q (reply.TangentPoints l r) s a b = tangent_points S q l r s a b
one_reply_to_tangents S q reply.NoTangent s a b = no_tangent S q s a b
one_reply_to_tangents S q _ s a b = absurd a

-- the reply to `vertices` with a list is that list, unless memory is refused
listed : (S vertices : List Pair) (r : Reply) → IsVertexList S vertices → AnswersVertices S r
    → AgreesWith (reply.VertexList vertices) r
listed S vertices (reply.VertexList others) a b = inl (ap reply.VertexList (vertex_list_unique S vertices others a b))
listed S vertices reply.NoMemory a b = inr (inr refl)
listed S vertices _ a b = absurd b

-- `vertices` has only one reply
one_reply_to_vertices : (S : List Pair) (r s : Reply) → AnswersVertices S r → AnswersVertices S s → AgreesWith r s
one_reply_to_vertices S (reply.VertexList vertices) s a b = listed S vertices s a b
one_reply_to_vertices S reply.NoMemory s a b = inr (inl refl)
one_reply_to_vertices S _ s a b = absurd a

-- naturals that are equal as whole numbers are equal
same_natural : (m n : ℕ) → pos m ≡ pos n → m ≡ n
same_natural m n e = omega (arith, ints)

-- `place q` has only one reply
one_reply_to_place : (S : List Pair) (q : Pair) (r s : Reply) → AnswersPlace S q r → AnswersPlace S q s → AgreesWith r s
one_reply_to_place S q (reply.Lies m) (reply.Lies n) a b = inl (ap reply.Lies (place_unique S q m n a b))
one_reply_to_place S q (reply.Lies m) _ a b = absurd b
one_reply_to_place S q _ s a b = absurd a

-- `area` has only one reply
one_reply_to_area : (S : List Pair) (r s : Reply) → AnswersArea S r → AnswersArea S s → AgreesWith r s
one_reply_to_area S (reply.DoubledArea m) (reply.DoubledArea n) a b =
    inl (ap reply.DoubledArea (same_natural m n (doubled_area_unique S (pos m) (pos n) a b)))
one_reply_to_area S (reply.DoubledArea m) _ a b = absurd b
one_reply_to_area S _ s a b = absurd a

-- `count` has only one reply
one_reply_to_count : (S : List Pair) (r s : Reply) → AnswersCount S r → AnswersCount S s → AgreesWith r s
one_reply_to_count S (reply.PointCount m) (reply.PointCount n) a b = inl (ap reply.PointCount (a ∙ sym b))
one_reply_to_count S (reply.PointCount m) _ a b = absurd b
one_reply_to_count S _ s a b = absurd a

-- a call has only one possible reply, except that memory may be refused
pub replies_unique : (rules : Rules) (held : Held) (limit : ℕ) (asked : Call) (r s : Reply)
    → Answers rules held limit asked r → Answers rules held limit asked s → AgreesWith r s
replies_unique rules held limit (call.Add p) r s a b = one_reply_to_add held limit rules p r s a b
replies_unique rules held limit (call.Remove p) r s a b = one_reply_to_remove held rules p r s a b
-- written by tools/table.py: a case for each question
replies_unique rules held limit (call.Extreme d) r s a b = one_reply_to_extreme held.points d r s a b
replies_unique rules held limit (call.Place q) r s a b = one_reply_to_place held.points q r s a b
replies_unique rules held limit (call.Tangents q) r s a b = one_reply_to_tangents held.points q r s a b
replies_unique rules held limit call.Vertices r s a b = one_reply_to_vertices held.points r s a b
replies_unique rules held limit call.Area r s a b = one_reply_to_area held.points r s a b
replies_unique rules held limit call.Count r s a b = one_reply_to_count held.points r s a b

-- end of what tools/table.py writes
