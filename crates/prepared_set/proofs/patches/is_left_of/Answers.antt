-- the farthest point to the right of the line shows whether one lies there
use Rattle.std.proofs.Common.{◌≤ℤ◌, List, pos, subst, sym, refl, arith}
use Rattle.std.proofs.lemmas.List.Elements.{All-contains}
use Rattle.lattice.specs.Plane.{Pair, orient}
use Rattle.lattice.specs.Vertices.{IsLeftOf}
use Rattle.prepared_set.proofs.Patching.{left_by_farthest}
use Rattle.prepared_set.proofs.patches.is_left_of.Goals as goal

pub returns-in-Some-extreme : goal.returns-in-Some-extreme
returns-in-Some-extreme g c =
    let far = c.in-Some-extreme.ensures in (
      λ t. (
        left_by_farthest _ c.args.a c.args.b _ c.in-Some-extreme.farthest c.in-Some.ensures.right far.1
            (c.is_not_right.ensures.0 t),
        c.in-Some.ensures.measured,
      ),
      λ h. c.is_not_right.ensures.1
          (All-contains (λ z. pos 0 ≤ℤ orient c.args.a c.args.b z) _ c.in-Some-extreme.farthest h.0 far.0),
    )

pub returns-in-None : goal.returns-in-None
returns-in-None g c = (
  λ t. (
    subst (λ (T : List Pair). IsLeftOf T c.args.a c.args.b) (sym c.in-None.ensures) (λ k d l. absurd (omega (arith, l))),
    c.in-Some.ensures.measured,
  ),
  λ h. refl,
)
