-- What the change of an array at one place says of the set.
use Rattle.std.proofs.Common.{◌≡◌, ℕ, ◌+◌, ◌-◌, ◌≤◌, ◌⊎◌, ℤ, pos, ◌-ℤ◌, ◌≤ℤ◌, neg_ℤ, Bool, true, false, List, [], length}
use Rattle.std.proofs.Common.{IsTrue, IsFalse, inl, inr, refl, sym, ap, ◌∙◌, subst, arith}
use Rattle.std.specs.Prelude.{Result, Err, ◌↔◌}
use Rattle.std.proofs.lemmas.Int.{ints}
use Rattle.std.proofs.lemmas.List.Elements.{All-contains}
use Rattle.lattice.specs.Covers.{with_point}
use Rattle.lattice.specs.Places.{IsFarthest}
use Rattle.lattice.specs.Plane.{Pair, orient, product}
use Rattle.lattice.specs.Vertices.{IsLeftOf}
use Rattle.lattice.specs.declared.fault.LatticeFault.{LatticeFault}
use Rattle.lattice.specs.declared.fault.LatticeFault.TheVariants.{OutOfRange, ZeroDirection}
use Rattle.lattice.proofs.LineCrossings.{orient_other}
use Rattle.hull_geometry.proofs.PointLists.{all_of}
use Rattle.hull_geometry.proofs.SetLaws.{ordered_with}
use Rattle.hull_geometry.proofs.UniqueVertices.{vertex_list_unique}
use Rattle.hull_polygon.specs.Insertions.{IsGap, IsInsertion, put_between}
use Rattle.hull_polygon.specs.Polygons.{HoldsOfSetsOf}
use Rattle.hull_polygon.specs.Rounds.{vertex}
use Rattle.hull_polygon.specs.Steps.{left_of}
use Rattle.hull_polygon.specs.declared.insertions.Insertion.TheVariants.{Between}
use Rattle.hull_polygon.proofs.Inserted.{at_put, length_put}
use Rattle.hull_polygon.proofs.Shields.{product_left}
use Rattle.prepared_set.specs.Patches.{PutsIn, count_after}
use Rattle.prepared_set.specs.declared.vertices.Vertices.{Vertices}
use Rattle.prepared_set.specs.declared.vertices.Vertices.TheVariants.{Known, Unknown}
use Rattle.prepared_set.proofs.Beside.{same_index}

-- a test is true or false
pub decided : (r : Bool) → IsTrue r ⊎ IsFalse r
decided true = inl refl
decided false = inr refl

-- and not both
pub not_both : (r : Bool) → IsTrue r → IsFalse r → ⊥
not_both true t f = cc
not_both false t f = cc

-- if the point farthest to the right of a line does not lie right of it, none does
pub left_by_farthest : (T : List Pair) (a b d f : Pair) → d ≡ left_of b a → IsFarthest T d f → pos 0 ≤ℤ orient a b f
    → IsLeftOf T a b
left_by_farthest T a b d f e far h = all_of (λ t. pos 0 ≤ℤ orient a b t) T
    (λ t m. nearer _ _ _ _ _ _ _ (product_left b a t) (product_left b a f) (orient_other a b t) (orient_other a b f)
    (All-contains (λ u. product (left_of b a) u ≤ℤ product (left_of b a) f) T t (subst (λ (z : Pair). IsFarthest T z f) e far) m) h)
  where
    nearer : (x y z u v o r : ℤ) → x -ℤ z ≡ u → y -ℤ z ≡ v → u ≡ neg_ℤ o → v ≡ neg_ℤ r → x ≤ℤ y → pos 0 ≤ℤ r → pos 0 ≤ℤ o
    nearer x y z u v o r e f g h l k = omega (arith, ints)

-- a direction in range and not zero is accepted
pub no_fault : (r : Result Pair LatticeFault) (f : LatticeFault) (P Q : Type 0) → r ≡ Err f → ((r ≡ Err OutOfRange) ↔ ¬ P)
    → ((r ≡ Err ZeroDirection) ↔ Q) → P → ¬ Q → ⊥
no_fault r OutOfRange P Q e o z p n = o.0 e p
no_fault r ZeroDirection P Q e o z p n = n (z.0 e)

-- the vertices with a new one are those between which it was put, and as many are after it as there were from there on
pub put_there : (S U V W : List Pair) (a b i : ℕ) (p : Pair) → U ≡ V → IsGap U (Between a b)
    → HoldsOfSetsOf U (IsInsertion U p (Between a b)) → PutsIn S V W p i
    → (put_between V a b p ≡ W) × (count_after W i ≡ length V - b) × (length W + b ≡ length V + a + 2)
put_there S U V W a b i p s g h q =
    let l = g.0 in
    let u : b ≤ length V = subst (λ (Z : List Pair). b ≤ length Z) s g.1 in
    let v = (subst (λ (Z : List Pair). HoldsOfSetsOf Z (IsInsertion Z p (Between a b))) s h S q.old).2 in
    let e = vertex_list_unique (with_point p S) (put_between V a b p) W v q.new in
    let n = length_put V a b p (omega (arith, l, u)) u in
    let k : length W + b ≡ length V + a + 2 = subst (λ (Z : List Pair). length Z + b ≡ length V + a + 2) e n in
    let at : vertex W (a + 1) ≡ p =
    subst (λ (Z : List Pair). vertex Z (a + 1) ≡ p) e (at_put V a b p (omega (arith, l, u))) in
    let j : i ≡ a + 1 = same_index W i (a + 1) (with_point p S, (ordered_with p S q.old.0, q.new)) q.within
    (omega (arith, k, l, u)) (q.there ∙ sym at) in
    (e, omega (arith, k, j), k)

-- ---- the parts of what is known

-- the vertices that are known
pub list_in : Vertices → List Pair
list_in (Known V m) = V
list_in (Unknown n) = []

-- the moves that are left
pub moves_in : Vertices → ℕ
moves_in (Known V m) = m
moves_in (Unknown n) = n

-- known vertices are the same if what is known is
pub same_list : (v : Vertices) (V W : List Pair) (m n : ℕ) → v ≡ Known V m → v ≡ Known W n → V ≡ W
unfolding list_in
same_list v V W m n e f = ap list_in (sym e ∙ f)

-- so are the moves
pub same_moves : (v : Vertices) (V W : List Pair) (m n : ℕ) → v ≡ Known V m → v ≡ Known W n → m ≡ n
unfolding moves_in
same_moves v V W m n e f = ap moves_in (sym e ∙ f)

-- what is known is given by its parts
pub same_known : (V W : List Pair) (m n : ℕ) → V ≡ W → m ≡ n → Known V m ≡ Known W n
same_known V W m n e f = rw (e, f) refl
