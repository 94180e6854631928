-- The edge from one point to another is both bridges of the two.
use Rattle.std.proofs.Common.{◌≡◌, pos, refl, sym, ap, ◌∙◌, subst, arith, Some}
use Rattle.std.proofs.lemmas.Int.{ints}
use Rattle.lattice.specs.Plane.{Pair, orient, IsBefore}
use Rattle.lattice.specs.Bridges.{IsNotBeyond}
use Rattle.lattice.proofs.LineCrossings.{orient_start, orient_end}
use Rattle.bridge_search.specs.Trees.{IsBridged}
use Rattle.lattice.proofs.Order.{before_irrefl, before_not}
use Rattle.hull_questions.specs.Shapes.{small_tree}

-- two points in order are a half that keeps the law
pub small_bridged : (p q : Pair) → IsBefore p q → IsBridged (small_tree p (Some q))
small_bridged p q b = (
  (λ s t i j. subst (λ (z : Pair). IsBefore z t) (sym i) (subst (IsBefore p) (sym j) b)),
  record {
    from_left = refl;
    to_right = refl;
    inner_left = λ t i. let e = start t i in omega (arith, ints);
    inner_right = λ t i. let e = end t i in omega (arith, ints);
    tie_left = λ t i e. at_start t i;
    tie_right = λ t i e. at_end t i;
  },
  record {
    from_left = refl;
    to_right = refl;
    inner_left = λ t i. let e = start t i in omega (arith, ints);
    inner_right = λ t i. let e = end t i in omega (arith, ints);
    tie_left = λ t i e. at_start t i;
    tie_right = λ t i e. at_end t i;
  },
  tt,
  tt,
)
  where
    start : (t : Pair) → t ≡ p → orient p q t ≡ pos 0
    start t i = ap (orient p q) i ∙ orient_start p q

    end : (t : Pair) → t ≡ q → orient p q t ≡ pos 0
    end t i = ap (orient p q) i ∙ orient_end p q

    at_start : (t : Pair) → t ≡ p → IsNotBeyond p q t
    at_start t i = subst (IsNotBeyond p q) (sym i) (before_irrefl p, before_not p q b)

    at_end : (t : Pair) → t ≡ q → IsNotBeyond p q t
    at_end t i = subst (IsNotBeyond p q) (sym i) (before_not p q b, before_irrefl q)
