-- Changes of a set from which points wait to be removed.
use Rattle.std.proofs.Common.{◌≡◌, inl, inr, refl, sym, ap, ◌∙◌, subst, List, [], ◌∷◌, ◌++◌, length}
use Rattle.std.proofs.Common.{ℕ, ◌+◌, ◌-◌, ◌<◌, ◌≤◌, arith}
use Rattle.std.specs.List.{Contains}
use Rattle.std.proofs.lemmas.List.Elements.{Contains-append_right}
use Rattle.lattice.specs.Plane.{Pair}
use Rattle.lattice.specs.Covers.{IsPointSet}
use Rattle.hull_geometry.proofs.SetLaws.{members_with, members_without, ordered_with, ordered_without}
use Rattle.hull_set.proofs.HeldMultiplicities.{once_other}
use Rattle.hull_set.specs.Held.{Held, once, with_again, with_new, with_none, with_one_less}
use Rattle.hull_set.specs.Replies.{Answers, after, after_add, after_remove, reply_to_add, reply_to_remove}
use Rattle.hull_set.specs.declared.call.Call.{Call}
use Rattle.hull_set.specs.declared.call.Call.TheVariants as call
use Rattle.hull_set.specs.declared.reply.Reply.{Reply}
use Rattle.hull_set.specs.declared.reply.Reply.TheVariants as reply
use Rattle.hull_set.specs.declared.rules.Rules.TheVariants.{Counted}
use Rattle.hull_set.specs.declared.set.AddReply.{AddReply}
use Rattle.hull_set.specs.declared.set.AddReply.TheVariants as add
use Rattle.hull_set.specs.declared.set.RemoveReply.{RemoveReply}
use Rattle.hull_set.specs.declared.set.RemoveReply.TheVariants as remove
use Rattle.deferring_set.specs.Removals.{AreDeferred, without_all}
use Rattle.deferring_set.proofs.Removals.{again_after, count_all, deferred_pop, first_in, less_after, members_all, none_after}
use Rattle.deferring_set.proofs.Removals.{new_after, other_all, settled, without_pop}

-- a call on the set with the points that wait is one on the contents without them
pub record Carries (ps : List Pair) (h : Held) (limit : ℕ) (call : Call) (reply : Reply) : Type 0 where
  pub answers : Answers Counted (without_all ps h) limit call reply
  pub effect : without_all ps (after h call reply) ≡ after (without_all ps h) call reply
  pub deferred : AreDeferred ps (after h call reply)

-- a number and nothing
more_none : (n k : ℕ) → k ≡ 0 → n + k ≡ n
more_none n k e = omega (arith, e)

-- a number less nothing
less_none : (n k : ℕ) → k ≡ 0 → n - k ≡ n
less_none n k e = omega (arith, e)

-- a point that does not wait counts at none that does
apart : (q t : Pair) (ps : List Pair) → ¬ Contains ps q → Contains ps t → once q t ≡ 0
apart q t ps n m = once_other q t (λ e. n (subst (Contains ps) (sym e) m))

-- the points still wait after a new one
kept_new : (q : Pair) (ps : List Pair) (h : Held) → AreDeferred ps h → ¬ Contains ps q → AreDeferred ps (with_new q h)
kept_new q ps h d n = record {
  in_order = ordered_with q h.points d.in_order;
  distinct = d.distinct;
  once = λ t m.
      let c = d.once t m in
      ((members_with q t h.points).1 (inr c.0), more_none (h.multiplicities t) (once q t) (apart q t ps n m) ∙ c.1);
}

-- the points still wait after another was added once more
kept_again : (q : Pair) (ps : List Pair) (h : Held) → AreDeferred ps h → ¬ Contains ps q → AreDeferred ps (with_again q h)
kept_again q ps h d n = record {
  in_order = d.in_order;
  distinct = d.distinct;
  once = λ t m.
      let c = d.once t m in (c.0, more_none (h.multiplicities t) (once q t) (apart q t ps n m) ∙ c.1);
}

-- the points still wait after another was removed once
kept_less : (q : Pair) (ps : List Pair) (h : Held) → AreDeferred ps h → ¬ Contains ps q → AreDeferred ps (with_one_less q h)
kept_less q ps h d n = record {
  in_order = d.in_order;
  distinct = d.distinct;
  once = λ t m.
      let c = d.once t m in (c.0, less_none (h.multiplicities t) (once q t) (apart q t ps n m) ∙ c.1);
}

-- the points still wait after another left
kept_none : (q : Pair) (ps : List Pair) (h : Held) → AreDeferred ps h → ¬ Contains ps q → AreDeferred ps (with_none q h)
kept_none q ps h d n = record {
  in_order = ordered_without q h.points d.in_order;
  distinct = d.distinct;
  once = λ t m.
      let c = d.once t m in (
        (members_without q t h.points d.in_order).1 (c.0, λ e. n (subst (Contains ps) e m)),
        less_none (h.multiplicities t) (once q t) (apart q t ps n m) ∙ c.1,
      );
}

-- what is not in the set is not in it without the points that wait
absent_too : (q : Pair) (ps : List Pair) (h : Held) → AreDeferred ps h → ¬ Contains h.points q
    → ¬ Contains (without_all ps h).points q
absent_too q ps h d n m = n ((members_all ps h q d.in_order).0 m).0

-- what is in the set and does not wait is in it without the points that wait
there_too : (q : Pair) (ps : List Pair) (h : Held) → AreDeferred ps h → ¬ Contains ps q → Contains h.points q
    → Contains (without_all ps h).points q
there_too q ps h d n m = (members_all ps h q d.in_order).1 (m, n)

-- without the points that wait there are no more points
no_more : (ps : List Pair) (h : Held) (limit : ℕ) → AreDeferred ps h → length h.points < limit
    → length (without_all ps h).points < limit
no_more ps h limit d l = let c = count_all ps h d in omega (arith, l, c)

-- a point that does not wait is added
pub adds : (ps : List Pair) (h : Held) (limit : ℕ) (p : Pair) (result : AddReply) → AreDeferred ps h → ¬ Contains ps p
    → (length h.points ≡ limit → ps ≡ []) → Answers Counted h limit (call.Add p) (reply_to_add result)
    → Carries ps h limit (call.Add p) (reply_to_add result)
adds ps h limit p add.Added d n f a = record {
  answers = (absent_too p ps h d a.0, no_more ps h limit d a.1);
  effect = sym (new_after p ps h d.in_order n);
  deferred = kept_new p ps h d n;
}
adds ps h limit p (add.Again k) d n f a = record {
  answers = (
    a.0,
    there_too p ps h d n a.1,
    a.2 ∙ ap (λ (z : ℕ). z + 1) (sym (other_all ps h p n)),
    a.3,
    a.4,
  );
  effect = sym (again_after p ps h n);
  deferred = kept_again p ps h d n;
}
adds ps h limit p add.TooMany d n f (inl a) = record {
  answers = inl (
    absent_too p ps h d a.0,
    ap (λ (k : Held). length k.points) (settled ps h (f a.1)) ∙ a.1,
  );
  effect = refl;
  deferred = d;
}
adds ps h limit p add.TooMany d n f (inr a) = record {
  answers = inr (a.0, there_too p ps h d n a.1, other_all ps h p n ∙ a.2);
  effect = refl;
  deferred = d;
}
adds ps h limit p add.NoMemory d n f a = record {
  answers = (absent_too p ps h d a.0, no_more ps h limit d a.1);
  effect = refl;
  deferred = d;
}

-- a point that does not wait is removed once
pub removes : (ps : List Pair) (h : Held) (limit : ℕ) (p : Pair) (result : RemoveReply) → AreDeferred ps h → ¬ Contains ps p
    → Answers Counted h limit (call.Remove p) (reply_to_remove result)
    → Carries ps h limit (call.Remove p) (reply_to_remove result)
removes ps h limit p remove.Removed d n a = record {
  answers = (there_too p ps h d n a.0, λ e. other_all ps h p n ∙ a.1 e);
  effect = sym (none_after p ps h d.in_order);
  deferred = kept_none p ps h d n;
}
removes ps h limit p (remove.Left k) d n a = record {
  answers = (a.0, there_too p ps h d n a.1, other_all ps h p n ∙ a.2, a.3);
  effect = sym (less_after p ps h);
  deferred = kept_less p ps h d n;
}
removes ps h limit p remove.Absent d n a = record {
  answers = absent_too p ps h d a;
  effect = refl;
  deferred = d;
}

-- a point of multiplicity one leaves the set when it is removed
leaves : (h : Held) (limit : ℕ) (p : Pair) (result : RemoveReply) → Contains h.points p → h.multiplicities p ≡ 1
    → Answers Counted h limit (call.Remove p) (reply_to_remove result)
    → after h (call.Remove p) (reply_to_remove result) ≡ with_none p h
leaves h limit p remove.Removed c e a = refl
leaves h limit p (remove.Left k) c e a =
    let m : h.multiplicities p ≡ k + 1 = a.2 in
    let l : 1 ≤ k = a.3 in
    absurd (omega (arith, e, m, l))
leaves h limit p remove.Absent c e a = absurd (a c)

-- the last of the points that wait is removed: the others wait, and the contents without them are the same
pub leaves_last : (ps qs : List Pair) (h h' : Held) (limit : ℕ) (p : Pair) (result : RemoveReply) → ps ≡ qs ++ p ∷ []
    → AreDeferred ps h → Answers Counted h limit (call.Remove p) (reply_to_remove result)
    → h' ≡ after h (call.Remove p) (reply_to_remove result)
    → AreDeferred qs h' × (without_all qs h' ≡ without_all ps h)
leaves_last ps qs h h' limit p result e d a f = (
  subst (AreDeferred qs) (sym left) (deferred_pop p qs h d'),
  ap (without_all qs) left ∙ (sym (without_pop p qs h d.in_order) ∙ ap (λ (z : List Pair). without_all z h) (sym e)),
)
  where
    d' : AreDeferred (qs ++ p ∷ []) h
    d' = subst (λ (z : List Pair). AreDeferred z h) e d

    left : h' ≡ with_none p h
    left =
        let c = d'.once p (Contains-append_right qs (p ∷ []) p (first_in p p [] refl)) in
        f ∙ leaves h limit p result c.0 c.1 a

-- after an addition the points are in order
ordered_add : (h : Held) (p : Pair) (r : Reply) → IsPointSet h.points → IsPointSet (after_add h p r).points
ordered_add h p reply.Added s = ordered_with p h.points s
ordered_add h p _ s = s

-- after a removal the points are in order
ordered_remove : (h : Held) (p : Pair) (r : Reply) → IsPointSet h.points → IsPointSet (after_remove h p r).points
ordered_remove h p reply.Removed s = ordered_without p h.points s
ordered_remove h p _ s = s

-- after a call the points are in order
pub ordered_after : (h : Held) (c : Call) (r : Reply) → IsPointSet h.points → IsPointSet (after h c r).points
ordered_after h (call.Add p) r s = ordered_add h p r s
ordered_after h (call.Remove p) r s = ordered_remove h p r s
ordered_after h _ r s = s
