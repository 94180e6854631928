-- the first arrival precedes it
use Rattle.std.proofs.Common.{◌++◌, ◌∷◌, [], sym, subst, Option}
use Rattle.first_meeting.specs.Arrivals.{ReturnsFirst}
use Rattle.first_meeting.specs.declared.arrivals.Arrival.{Arrival}
use Rattle.first_meeting.proofs.arrivals.comes_no_sooner.Goals as goal

pub returns-in-Some : goal.returns-in-Some
returns-in-Some c = λ t T V d h.
    subst (λ (r : Option Arrival). ReturnsFirst T d (V ++ (c.args.vertex ∷ [])) r) (sym c.in-Some.is)
    (c.precedes.ensures t T V d (subst (λ (r : Option Arrival). ReturnsFirst T d V r) c.in-Some.is h))
