-- The triangles between the first point of a half and the edges of its chains: the sum of their doubled areas is the
-- doubled area of the hull.
use Rattle.std.proofs.Common.{◌≡◌, ℤ, pos, ◌+ℤ◌, ◌≤ℤ◌, refl, sym, ap, ◌∙◌, subst, arith, inl, inr}
use Rattle.std.proofs.Common.{List, [], ◌∷◌, ◌++◌, map}
use Rattle.std.specs.List.{Contains}
use Rattle.std.proofs.lemmas.Int.{ints}
use Rattle.lattice.specs.Plane.{Pair, orient, IsBefore, turned_point}
use Rattle.lattice.specs.Polynomials.{difference-eq, difference_rules}
use Rattle.lattice.specs.Vertices.{fan, IsDoubledArea}
use Rattle.lattice.proofs.Vectors.{as_pair}
use Rattle.lattice.proofs.Order.{before_total, before_irrefl}
use Rattle.lattice.proofs.TurnedBridges.{turned_twice}
use Rattle.bridge_search.specs.Trees.{Tree, IsBridged, first_of, last_of}
use Rattle.bridge_search.specs.TurnedTrees.{turned_tree, first_turned, last_turned}
use Rattle.bridge_search.specs.Leaves.{points_of}
use Rattle.bridge_search.proofs.Ends.{last_by, on_last}
use Rattle.bridge_search.proofs.Leaves.{contains_of_on}
use Rattle.bridge_search.proofs.Turns.{on_first}
use Rattle.hull_geometry.specs.Edges.{IsLowerEdge, IsUpperEdge, IsChain, end_of}
use Rattle.hull_geometry.proofs.Rounding.{fan-append, fan-back, lower_triangle}
use Rattle.hull_questions.specs.Walks.{IsWalk, IsFan}
use Rattle.hull_questions.proofs.Stretched.{not_back}
use Rattle.hull_questions.proofs.Walked.{walk_turned, upper_front, round, vertices_alone}
use Rattle.std.proofs.lemmas.Grind.{common_steps}

-- the fan over two ranges and the bridge is the fan of the ranges plus the triangle of the bridge
pub fan_over : (t u w : Tree) (apex from a b to : Pair) (m n k : ℤ)
    → ((xs ys : List Pair) → IsWalk u from xs a → IsWalk w b ys to → IsWalk t from (xs ++ b ∷ ys) to)
    → IsFan u apex from a m → n ≡ orient apex a b → IsFan w apex b to k → IsFan t apex from to (m +ℤ n +ℤ k)
fan_over t u w apex from a b to m n k walks (xs, p, e) z (ys, q, g) =
    let s = fan-append apex from xs (b ∷ ys) in
    let x : orient apex (end_of from xs) b ≡ orient apex a b = ap (λ (y : Pair). orient apex y b) p.ends in
    (xs ++ b ∷ ys, walks xs ys p q, omega (arith, ints))

-- ---- signs

-- seen from a point of the set, a chain of lower edges does not bend right
fan_above : (S : List Pair) (f v : Pair) (vs : List Pair) → IsChain (IsLowerEdge S) v vs → Contains S f
    → pos 0 ≤ℤ fan f v vs
fan_above S f v [] c m = omega (arith, ints)
fan_above S f v (x ∷ xs) c m =
    let a = lower_triangle S v x f c.0 m in
    let b = fan_above S f x xs c.1 m in
    omega (arith, ints)

-- a walk along the lower chain does not bend right, seen from the first point
pub lower_above : (t : Tree) (z : ℤ) → IsFan t (first_of t) (first_of t) (last_of t) z → pos 0 ≤ℤ z
lower_above t z (passed, k, e) =
    grind (arith, common_steps, pos, fan_above, points_of, first_of, contains_of_on, on_first)

-- a walk along the upper chain does not bend right either
pub upper_above : (t : Tree) (z : ℤ)
    → IsFan (turned_tree t) (turned_point (first_of t)) (first_of (turned_tree t)) (last_of (turned_tree t)) z
    → pos 0 ≤ℤ z
upper_above t z (passed, k, e) =
    let v : Tree = turned_tree t in
    subst (λ (x : ℤ). pos 0 ≤ℤ x) (sym e)
    (fan_above (points_of v) (turned_point (first_of t)) (first_of v) passed k.chain
    (subst (Contains (points_of v)) (last_turned t) (contains_of_on v (last_of v) (on_last v))))

-- ---- the doubled area

-- a rotation of two points of a triangle has the area of a rotation of the third
triangle_turned : (f u v : Pair) → orient f (turned_point u) (turned_point v) ≡ orient (turned_point f) u v
unfolding orient
triangle_turned f u v =
    rw (as_pair f, as_pair u, as_pair v) (simp difference_rules (difference-eq _ _ _ _ (omega arith)))

-- the same of a fan
fan_turned : (f v : Pair) (vs : List Pair)
    → fan f (turned_point v) (map turned_point vs) ≡ fan (turned_point f) v vs
fan_turned f v [] = refl
fan_turned f v (x ∷ xs) =
    let a = triangle_turned f v x in
    let b = fan_turned f x xs in
    omega (arith, ints)

-- a walk from a point to itself has no steps
no_steps : (t : Tree) (v w : Pair) (passed : List Pair) → v ≡ w → IsWalk t v passed w → passed ≡ []
no_steps t v w [] e k = refl
no_steps t v w (x ∷ xs) e k = grind (arith, common_steps, not_back, points_of)

-- the fan of a walk from a point to itself is 0
fan_still : (t : Tree) (apex v w : Pair) (z : ℤ) → v ≡ w → IsFan t apex v w z → z ≡ pos 0
fan_still t apex v w z e (passed, k, g) = g ∙ ap (fan apex v) (no_steps t v w passed e k)

-- the doubled area is the sum of the fans of both chains, seen from the first point
pub fans_sum : (t : Tree) (m n : ℤ) → IsBridged t → IsFan t (first_of t) (first_of t) (last_of t) m
    → IsFan (turned_tree t) (turned_point (first_of t)) (first_of (turned_tree t)) (last_of (turned_tree t)) n
    → IsDoubledArea (points_of t) (m +ℤ n)
fans_sum t m n h l u = elim (before_total (first_of t) (last_of t)) [
  | inl b ↦ sum b l u
  | inr (inl e) ↦
      let x : m ≡ pos 0 = fan_still t (first_of t) (first_of t) (last_of t) m e l in
      let y : n ≡ pos 0 =
      fan_still (turned_tree t) (turned_point (first_of t)) (first_of (turned_tree t)) (last_of (turned_tree t)) n
      (first_turned t ∙ ap turned_point (sym e) ∙ sym (last_turned t)) u in (
        first_of t ∷ [],
        vertices_alone t h (λ b. before_irrefl (last_of t) (subst (λ (z : Pair). IsBefore z (last_of t)) e b)),
        omega (arith, ints),
      )
  | inr (inr b) ↦ absurd (last_by t h (first_of t) (on_first t) b)
]
  where
    sum : IsBefore (first_of t) (last_of t) → IsFan t (first_of t) (first_of t) (last_of t) m
        → IsFan (turned_tree t) (turned_point (first_of t)) (first_of (turned_tree t)) (last_of (turned_tree t)) n
        → IsDoubledArea (points_of t) (m +ℤ n)
    sum b (lower, k, e) (passed, q, g) =
        let first : Pair = first_of t in
        let last : Pair = last_of t in
        let back : List Pair = map turned_point passed in
        let w = walk_turned t passed q in
        let f = upper_front t back b w in
        let begin : turned_point (first_of (turned_tree t)) ≡ last =
        ap turned_point (first_turned t) ∙ turned_twice last in
        let upper : n ≡ fan first last f.0 =
        g ∙ sym (fan_turned first (first_of (turned_tree t)) passed) ∙ ap (λ (z : Pair). fan first z back) begin
        ∙ ap (fan first last) f.1 ∙ fan-back first last f.0 in
        let both : fan first first (lower ++ f.0) ≡ fan first first lower +ℤ fan first last f.0 =
        fan-append first first lower f.0 ∙ ap (λ (z : Pair). fan first first lower +ℤ fan first z f.0) k.ends in (
          first ∷ (lower ++ f.0),
          round t lower f.0 h b k (subst (IsChain (IsUpperEdge (points_of t)) last) f.1 w.chain),
          omega (arith, ints),
        )
