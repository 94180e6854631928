-- a distance that is returned is within the length or not; if none is returned one of the two is empty
use Rattle.std.proofs.Common.{◌≡◌, Bool, true, false, List, [], inl, inr, refl, subst}
use Rattle.std.specs.Prelude.{IsTrue, ◌↔◌, ◌⊎◌, MatchOption}
use Rattle.lattice.specs.Plane.{Pair}
use Rattle.hull_polygon.specs.Closest.{IsDistance}
use Rattle.hull_polygon.specs.Ranges.{IsNoFarther, ReturnsWithin}
use Rattle.hull_polygon.specs.declared.distance.Distance.{Distance}
use Rattle.hull_polygon.specs.declared.ranges.Length.{Length}
use Rattle.lattice.proofs.Tests.{passed, failed}
use Rattle.hull_polygon.proofs.ranges.has_distance_within.Goals as goal

-- the result of the test of a distance, for the two sets
returned : (r : Bool) (length : Length) (S T : List Pair) (found : Distance) → IsDistance S T found
    → (IsTrue r ↔ IsNoFarther found length) → ReturnsWithin r length S T
returned true length S T found d h = (found, d, passed true _ refl h)
returned false length S T found d h = inr (inr (found, d, failed false _ refl h))

-- if one of the two sets is empty, the result is false
empty : (S T : List Pair) → (S ≡ []) ⊎ (T ≡ []) → (length : Length) → ReturnsWithin false length S T
empty S T (inl e) length = inl e
empty S T (inr e) length = inr (inl e)

pub returns-in-Some : goal.returns-in-Some
returns-in-Some c = λ S T h.
    returned c.is_within_distance.result c.args.length S T c.in-Some.found (subst (λ r. MatchOption r ((S ≡ []) ⊎ (T ≡ [])) (λ d. IsDistance S T d)) c.in-Some.is h)
    c.is_within_distance.ensures

pub returns-in-None : goal.returns-in-None
returns-in-None c = λ S T h. empty S T (subst (λ r. MatchOption r ((S ≡ []) ⊎ (T ≡ [])) (λ d. IsDistance S T d)) c.in-None.is h) c.args.length
