-- memory is refused only if a chain has a point, and then the set has one
use Rattle.std.proofs.Common.{◌<◌, ◌+◌, Result, Ok, Err, length}
use Rattle.std.specs.Prelude.{OnErr}
use Rattle.hull_geometry.proofs.TwoChains.{some_points}
use Rattle.hull_plain.proofs.hull_chains.HullChains.vertices.Goals as goal

-- a property of an error may be replaced by one that follows from it
returned : {A B : Type 0} (r : Result A B) (P Q : Type 0) → (P → Q) → OnErr r P → OnErr r Q
returned (Ok a) P Q f h = h
returned (Err b) P Q f h = f h

pub returns-clause-refused : goal.returns-clause-refused
returns-clause-refused c =
    returned c.vertices_of.result (0 < length c.args.self.now.lower.items + length c.args.self.now.upper.items) _
    (λ h S k. some_points S c.args.self.now.lower.items c.args.self.now.upper.items k.chains h)
    c.vertices_of.ensures.refused
