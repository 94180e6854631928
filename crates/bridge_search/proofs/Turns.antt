-- One turn of the search, over trees.
use Rattle.std.proofs.Common.{◌≡◌, ℕ, Bool, true, false, ◌+◌, ◌≤◌, refl, ap, subst, arith, inl, inr, Some, None}
use Rattle.std.proofs.lemmas.Int.{by_lt_z}
use lib.IntN.{pos, ◌+ℤ◌, ◌*ℤ◌}
use lib.Signed.{◌<ℤ◌, ◌≤ℤ◌}
use Rattle.lattice.specs.Plane.{Pair, orient, IsBefore}
use Rattle.lattice.specs.Bridges.{IsAllBefore, IsUpperBridge}
use Rattle.lattice.specs.Crossing.{IsCrossingAtOrBefore, IsCrossingAfter}
use Rattle.bridge_search.specs.Trees.{Tree, Leaf, Fork, On, IsBridged, IsFork, edge_of, left_of, right_of, first_of}
use Rattle.bridge_search.specs.Trees.{size_of}
use Rattle.bridge_search.specs.Search.{IsReady, IsTurn, IsDone, IsDepthSum, IsReached, IsAdvance}
use Rattle.lattice.specs.Integers.{linear}
use Rattle.lattice.proofs.Order.{before_irrefl, before_not}
use Rattle.lattice.proofs.LineCrossings.{orient_start, orient_end}
use Rattle.bridge_search.proofs.Steps.{to_left_of_left, to_right_of_right, to_right_of_left, to_left_of_right}
use Rattle.bridge_search.proofs.Steps.{to_right_of_left_one, to_left_of_right_one}

-- a half has at least one point
pub size_positive : (t : Tree) → 1 ≤ size_of t
size_positive (Leaf x) = omega arith
size_positive (Fork e f u w) = omega (arith, size_positive u, size_positive w)

-- the first point is a point of the half
pub on_first : (t : Tree) → On t (first_of t)
on_first (Leaf x) = refl
on_first (Fork e f u w) = inl (on_first u)

-- two edges that are returned as the same result are equal
same_edge : {e e' : Pair × Pair} → Some e ≡ Some e' → e ≡ e'
same_edge h = cc

-- a depth in the left half of u is one less than in u
pub depth_left : (e f : Pair × Pair) (u1 u2 w : Tree) (p q : Pair) (n : ℕ) → IsDepthSum u1 w p q n
    → IsDepthSum (Fork e f u1 u2) w p q (n + 1)
depth_left e f u1 u2 w p q n (i, j, a, b, h) = (i + 1, j, (i, refl, inl a), b, omega arith)

-- a depth in the right half of u is one less than in u
pub depth_right_left : (e f : Pair × Pair) (u1 u2 w : Tree) (p q : Pair) (n : ℕ) → IsDepthSum u2 w p q n
    → IsDepthSum (Fork e f u1 u2) w p q (n + 1)
depth_right_left e f u1 u2 w p q n (i, j, a, b, h) = (i + 1, j, (i, refl, inr a), b, omega arith)

-- a depth in the left half of w is one less than in w
pub depth_left_right : (e f : Pair × Pair) (u w1 w2 : Tree) (p q : Pair) (n : ℕ) → IsDepthSum u w1 p q n
    → IsDepthSum u (Fork e f w1 w2) p q (n + 1)
depth_left_right e f u w1 w2 p q n (i, j, a, b, h) = (i, j + 1, a, (j, refl, inl b), omega arith)

-- a depth in the right half of w is one less than in w
pub depth_right : (e f : Pair × Pair) (u w1 w2 : Tree) (p q : Pair) (n : ℕ) → IsDepthSum u w2 p q n
    → IsDepthSum u (Fork e f w1 w2) p q (n + 1)
depth_right e f u w1 w2 p q n (i, j, a, b, h) = (i, j + 1, a, (j, refl, inr b), omega arith)

-- the left half of u and w are ready for a turn
in_left : (e f : Pair × Pair) (u1 u2 w : Tree) (m : Pair) → IsReady (Fork e f u1 u2) w m → IsReady u1 w m
in_left e f u1 u2 w m r = record {
  left_bridged = r.left_bridged.3;
  right_bridged = r.right_bridged;
  ordered = λ p q i j. r.ordered p q (inl i) j;
  after_left = λ t i. r.after_left t (inl i);
  by_right = r.by_right;
}

-- the right half of u and w are ready for a turn
in_right_left : (e f : Pair × Pair) (u1 u2 w : Tree) (m : Pair) → IsReady (Fork e f u1 u2) w m → IsReady u2 w m
in_right_left e f u1 u2 w m r = record {
  left_bridged = r.left_bridged.4;
  right_bridged = r.right_bridged;
  ordered = λ p q i j. r.ordered p q (inr i) j;
  after_left = λ t i. r.after_left t (inr i);
  by_right = r.by_right;
}

-- u and the left half of w are ready for a turn
in_left_right : (e f : Pair × Pair) (u w1 w2 : Tree) (m : Pair) → IsReady u (Fork e f w1 w2) m → IsReady u w1 m
in_left_right e f u w1 w2 m r = record {
  left_bridged = r.left_bridged;
  right_bridged = r.right_bridged.3;
  ordered = λ p q i j. r.ordered p q i (inl j);
  after_left = r.after_left;
  by_right = λ t i. r.by_right t (inl i);
}

-- u and the right half of w are ready for a turn
in_right : (e f : Pair × Pair) (u w1 w2 : Tree) (m : Pair) → IsReady u (Fork e f w1 w2) m → IsReady u w2 m
in_right e f u w1 w2 m r = record {
  left_bridged = r.left_bridged;
  right_bridged = r.right_bridged.4;
  ordered = λ p q i j. r.ordered p q i (inr j);
  after_left = r.after_left;
  by_right = λ t i. r.by_right t (inr i);
}

-- if a point of w is not under the edge of u, the turn goes to the left half of u
pub turn_left : (u w : Tree) (m a b c : Pair) → IsReady u w m → edge_of u ≡ Some (a, b) → On w c → pos 0 ≤ℤ orient a b c
    → IsTurn u w m (left_of u) w
turn_left (Leaf x) w m a b c r e i g = absurd (cc)
turn_left (Fork e f u1 u2) w m a b c r h i g = record {
  ready = in_left e f u1 u2 w m r;
  lifts = λ p q k. to_left_of_left (On u1) (On u2) (On w) e.0 e.1 c p q r.left_bridged.0 r.ordered r.left_bridged.1 i
      (rw (same_edge h) g) k;
  falls = omega (arith, size_positive u2);
  shallower = omega arith;
  deeper = depth_left e f u1 u2 w;
}

-- if a point of u is not under the edge of w, the turn goes to the right half of w
pub turn_right : (u w : Tree) (m b c d : Pair) → IsReady u w m → edge_of w ≡ Some (c, d) → On u b
    → pos 0 ≤ℤ orient b c d → IsTurn u w m u (right_of w)
turn_right u (Leaf x) m b c d r h i g = absurd (cc)
turn_right u (Fork e f w1 w2) m b c d r h i g = record {
  ready = in_right e f u w1 w2 m r;
  lifts = λ p q k. to_right_of_right (On u) (On w1)
      (On w2) b e.0 e.1 p q r.right_bridged.0 r.ordered r.right_bridged.1 i (rw (same_edge h) g) k;
  falls = omega (arith, size_positive w1);
  shallower = omega arith;
  deeper = depth_right e f u w1 w2;
}

-- if w is one point under the edge of u, the turn goes to the right half of u
pub turn_right_left_one : (u w : Tree) (m a b c : Pair) → IsReady u w m → edge_of u ≡ Some (a, b) → edge_of w ≡ None
    → c ≡ first_of w → orient a b c <ℤ pos 0 → IsTurn u w m (right_of u) w
turn_right_left_one (Leaf x) w m a b c r h n k g = absurd (cc)
turn_right_left_one (Fork e f u1 u2) (Fork e' f' w1 w2) m a b c r h n k g = absurd (cc)
turn_right_left_one (Fork e f u1 u2) (Leaf x) m a b c r h n k g = record {
  ready = in_right_left e f u1 u2 (Leaf x) m r;
  lifts = λ p q s. to_right_of_left_one (On u1) (On u2) e.0 e.1 x p q r.left_bridged.0 r.ordered r.left_bridged.1
      (rw (same_edge h, ← k) g) s;
  falls = omega (arith, size_positive u1);
  shallower = omega arith;
  deeper = depth_right_left e f u1 u2 (Leaf x);
}

-- if u is one point under the edge of w, the turn goes to the left half of w
pub turn_left_right_one : (u w : Tree) (m b c d : Pair) → IsReady u w m → edge_of w ≡ Some (c, d) → edge_of u ≡ None
    → b ≡ first_of u → orient b c d <ℤ pos 0 → IsTurn u w m u (left_of w)
turn_left_right_one u (Leaf x) m b c d r h n k g = absurd (cc)
turn_left_right_one (Fork e' f' u1 u2) (Fork e f w1 w2) m b c d r h n k g = absurd (cc)
turn_left_right_one (Leaf x) (Fork e f w1 w2) m b c d r h n k g = record {
  ready = in_left_right e f (Leaf x) w1 w2 m r;
  lifts = λ p q s. to_left_of_right_one (On w1) (On w2) x e.0 e.1 p q r.right_bridged.0 r.ordered r.right_bridged.1
      (rw (same_edge h, ← k) g) s;
  falls = omega (arith, size_positive w2);
  shallower = omega arith;
  deeper = depth_left_right e f (Leaf x) w1 w2;
}

-- if the lines of the two edges cross before m or at m, the turn goes to the right half of u
pub turn_right_left : (u w : Tree) (m a b c d : Pair) → IsReady u w m → edge_of u ≡ Some (a, b)
    → edge_of w ≡ Some (c, d) → orient a b c <ℤ pos 0 → orient b c d <ℤ pos 0 → IsCrossingAtOrBefore a b c d m
    → IsTurn u w m (right_of u) w
turn_right_left (Leaf x) w m a b c d r h k g1 g2 at = absurd (cc)
turn_right_left (Fork e f u1 u2) (Leaf x) m a b c d r h k g1 g2 at = absurd (cc)
turn_right_left (Fork e f u1 u2) (Fork e' f' w1 w2) m a b c d r h k g1 g2 at = record {
  ready = in_right_left e f u1 u2 (Fork e' f' w1 w2) m r;
  lifts = λ p q s. to_right_of_left (On u1) (On u2) (On w1)
      (On w2) e.0 e.1 e'.0 e'.1 m p q r.left_bridged.0 r.right_bridged.0 r.ordered r.left_bridged.1 r.right_bridged.1
      (rw (same_edge h, same_edge k) g1) (rw (same_edge h, same_edge k) g2)
      (rw (same_edge h, same_edge k) at) r.by_right s;
  falls = omega (arith, size_positive u1);
  shallower = omega arith;
  deeper = depth_right_left e f u1 u2 (Fork e' f' w1 w2);
}

-- if the lines of the two edges cross after m, the turn goes to the left half of w
pub turn_left_right : (u w : Tree) (m a b c d : Pair) → IsReady u w m → edge_of u ≡ Some (a, b)
    → edge_of w ≡ Some (c, d) → orient a b c <ℤ pos 0 → orient b c d <ℤ pos 0 → IsCrossingAfter a b c d m
    → IsTurn u w m u (left_of w)
turn_left_right u (Leaf x) m a b c d r h k g1 g2 at = absurd (cc)
turn_left_right (Leaf x) (Fork e' f' w1 w2) m a b c d r h k g1 g2 at = absurd (cc)
turn_left_right (Fork e f u1 u2) (Fork e' f' w1 w2) m a b c d r h k g1 g2 at = record {
  ready = in_left_right e' f' (Fork e f u1 u2) w1 w2 m r;
  lifts = λ p q s. to_left_of_right (On u1) (On u2) (On w1)
      (On w2) e.0 e.1 e'.0 e'.1 m p q r.left_bridged.0 r.right_bridged.0 r.ordered r.left_bridged.1 r.right_bridged.1
      (rw (same_edge h, same_edge k) g1) (rw (same_edge h, same_edge k) g2)
      (rw (same_edge h, same_edge k) at) r.after_left s;
  falls = omega (arith, size_positive w2);
  shallower = omega arith;
  deeper = depth_left_right e' f' (Fork e f u1 u2) w1 w2;
}

-- if both are one point, the search is done
pub done : (u w : Tree) (m : Pair) → IsReady u w m → edge_of u ≡ None → edge_of w ≡ None → IsDone u w
done (Fork e f u1 u2) w m r h k = absurd (cc)
done (Leaf x) (Fork e f w1 w2) m r h k = absurd (cc)
done (Leaf x) (Leaf y) m r h k = record {
  bridge = record {
    from_left = refl;
    to_right = refl;
    inner_left = λ t i. rw i (let z : orient x y x ≡ pos 0 = orient_start x y in omega (arith, linear));
    inner_right = λ t i. rw i (let z : orient x y y ≡ pos 0 = orient_end x y in omega (arith, linear));
    tie_left = λ t i z. rw i (λ b. before_irrefl x b, λ b. before_not y x b (r.ordered x y refl refl));
    tie_right = λ t i z. rw i (λ b. before_not y x b (r.ordered x y refl refl), λ b. before_irrefl y b);
  };
  depth = (0, 0, (refl, refl), (refl, refl), refl);
}

-- no point of a half is before its first point
pub first_by : (t : Tree) → IsBridged t → (p : Pair) → On t p → IsBefore p (first_of t) → ⊥
first_by (Leaf x) h p i b = before_irrefl x (rw i at b)
first_by (Fork e f u w) h p (inl i) b = first_by u h.3 p i b
first_by (Fork e f u w) h p (inr i) b = before_not p (first_of u) b (h.0 (first_of u) p (on_first u) i)

-- two halves in order are ready for the first turn
pub start : (u w : Tree) → IsBridged u → IsBridged w → IsAllBefore (On u) (On w) → IsReady u w (first_of w)
start u w h k o = record {
  left_bridged = h;
  right_bridged = k;
  ordered = o;
  after_left = λ t i. o t (first_of w) i (on_first w);
  by_right = first_by w k;
}

-- the ends of an edge are points of its half
pub on_edge : (t : Tree) (a b : Pair) → IsBridged t → edge_of t ≡ Some (a, b) → On t a × On t b
on_edge (Leaf x) a b h e = absurd (cc)
on_edge (Fork g f u w) a b h e =
    let l : g.0 ≡ a = ap (λ (k : Pair × Pair). k.0) (same_edge e) in
    let r : g.1 ≡ b = ap (λ (k : Pair × Pair). k.1) (same_edge e) in
    rw (← l, ← r) (inl h.1.from_left, inr h.1.to_right)

-- the ends of the two edges are in order
pub in_order : (u w : Tree) (m a b c d : Pair) → IsReady u w m → edge_of u ≡ Some (a, b) → edge_of w ≡ Some (c, d)
    → IsBefore a b × IsBefore b c × IsBefore c d
in_order (Leaf x) w m a b c d r h k = absurd (cc)
in_order (Fork e f u1 u2) (Leaf x) m a b c d r h k = absurd (cc)
in_order (Fork e f u1 u2) (Fork e' f' w1 w2) m a b c d r h k =
    let ea : e.0 ≡ a = ap (λ (k : Pair × Pair). k.0) (same_edge h) in
    let eb : e.1 ≡ b = ap (λ (k : Pair × Pair). k.1) (same_edge h) in
    let ec : e'.0 ≡ c = ap (λ (k : Pair × Pair). k.0) (same_edge k) in
    let ed : e'.1 ≡ d = ap (λ (k : Pair × Pair). k.1) (same_edge k) in
    rw (← ea, ← eb, ← ec, ← ed) (
      r.left_bridged.0 e.0 e.1 r.left_bridged.1.from_left r.left_bridged.1.to_right,
      r.ordered e.1 e'.0 (inr r.left_bridged.1.to_right) (inl r.right_bridged.1.from_left),
      r.right_bridged.0 e'.0 e'.1 r.right_bridged.1.from_left r.right_bridged.1.to_right,
    )

-- a crossing that is not before m and not m is after m
pub crossing_after : (a b c d m : Pair) → (IsCrossingAtOrBefore a b c d m → ⊥) → IsCrossingAfter a b c d m
crossing_after a b c d m n =
    by_lt_z ((orient a b c +ℤ orient b a d) *ℤ m.x) (orient a b c *ℤ d.x +ℤ orient b a d *ℤ c.x)
    (λ h. inl h)
    (λ h. by_lt_z (orient a b c *ℤ d.x +ℤ orient b a d *ℤ c.x) ((orient a b c +ℤ orient b a d) *ℤ m.x)
    (λ g. absurd (n (inl g)))
    (λ g. let e : orient a b c *ℤ d.x +ℤ orient b a d *ℤ c.x ≡ (orient a b c +ℤ orient b a d) *ℤ m.x =
    omega (arith, linear) in
    by_lt_z ((orient a b c +ℤ orient b a d) *ℤ m.y) (orient a b c *ℤ d.y +ℤ orient b a d *ℤ c.y)
    (λ k. inr (e, k))
    (λ k. absurd (n (inr (e, k))))))

-- a half that returns an edge has edges
pub is_fork : (t : Tree) (e : Pair × Pair) → edge_of t ≡ Some e → IsFork t
is_fork (Leaf x) e h = absurd (cc)
is_fork (Fork g f u w) e h = tt

-- a sum of depths holds under another name of the number
same_sum : (u w : Tree) (p q : Pair) (k n : ℕ) → k ≡ n → IsDepthSum u w p q k → IsDepthSum u w p q n
same_sum u w p q k n e h = subst (λ (i : ℕ). IsDepthSum u w p q i) e h

-- no turn has been made at the start
pub reached_none : (u w : Tree) → IsBridged u → IsBridged w → IsAllBefore (On u) (On w) → (m : Pair) → m ≡ first_of w
    → IsReached u w u w m 0
reached_none u w h k o m e = record {
  ready = rw e (start u w h k o);
  lifts = λ p q b. b;
  deeper = λ p q i d. same_sum u w p q i (i + 0) (omega arith) d;
  within = omega arith;
}

-- n turns and one more are n + 1
pub reached_more : (u0 w0 u w u2 w2 : Tree) (m : Pair) (n : ℕ) → IsReached u0 w0 u w m n → IsTurn u w m u2 w2
    → IsReached u0 w0 u2 w2 m (n + 1)
reached_more u0 w0 u w u2 w2 m n r t = record {
  ready = t.ready;
  lifts = λ p q b. r.lifts p q (t.lifts p q b);
  deeper = λ p q k d. same_sum u0 w0 p q ((k + 1) + n) (k + (n + 1)) (omega arith)
      (r.deeper p q (k + 1) (t.deeper p q k d));
  within = omega (arith, r.within, t.shallower);
}

-- if the search is done, it has the bridge of the halves that it began with
pub reached_bridge : (u0 w0 u w : Tree) (m : Pair) (n : ℕ) (p q : Pair) → IsReached u0 w0 u w m n → IsDone u w
    → p ≡ first_of u → q ≡ first_of w → IsUpperBridge (On u0) (On w0) p q
reached_bridge u0 w0 u w m n p q r d e f = rw (e, f) (r.lifts (first_of u) (first_of w) d.bridge)

-- if the search is done, it took as many turns as the sum of the depths of the bridge's ends
pub reached_depth : (u0 w0 u w : Tree) (m : Pair) (n : ℕ) (p q : Pair) → IsReached u0 w0 u w m n → IsDone u w
    → p ≡ first_of u → q ≡ first_of w → IsDepthSum u0 w0 p q n
reached_depth u0 w0 u w m n p q r d e f =
    rw (e, f) (same_sum u0 w0 (first_of u) (first_of w) (0 + n) n (omega arith)
    (r.deeper (first_of u) (first_of w) 0 d.depth))

-- a search that was under way is under way after one turn more, or none
pub under_way_on : (b : Bool) (u0 w0 u w v z : Tree) (m m2 : Pair) (n k : ℕ) → IsReached u0 w0 u w m n
    → IsAdvance b u w m n v z k → m2 ≡ m → IsReached u0 w0 v z m2 k
under_way_on true u0 w0 u w v z m m2 n k r t e = rw (e, t.1) (reached_more u0 w0 u w v z m n r t.0)
under_way_on false u0 w0 u w v z m m2 n k r t e = rw (t.0, t.1, t.2, e) r

-- if no turn was made, the bridge of the halves that the search began with is found
pub under_way_bridge : (u0 w0 u w v z : Tree) (m : Pair) (n k : ℕ) (p q : Pair) → IsReached u0 w0 u w m n
    → IsAdvance false u w m n v z k → p ≡ first_of v → q ≡ first_of z → IsUpperBridge (On u0) (On w0) p q
under_way_bridge u0 w0 u w v z m n k p q r t e f = reached_bridge u0 w0 u w m n p q r t.3 (rw t.0 at e) (rw t.1 at f)

-- if no turn was made, the turns so far are the sum of the depths of the bridge's ends
pub under_way_depth : (u0 w0 u w v z : Tree) (m : Pair) (n k : ℕ) (p q : Pair) → IsReached u0 w0 u w m n
    → IsAdvance false u w m n v z k → p ≡ first_of v → q ≡ first_of z → IsDepthSum u0 w0 p q k
under_way_depth u0 w0 u w v z m n k p q r t e f =
    rw t.2 (reached_depth u0 w0 u w m n p q r t.3 (rw t.0 at e) (rw t.1 at f))
