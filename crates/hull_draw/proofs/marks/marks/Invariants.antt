-- The points so far, each with its multiplicity.
use Rattle.std.proofs.Common.{◌≡◌, map, take}
use Rattle.std.specs.List.{All}
use Rattle.hull_tree.specs.Roots.{held_by}
use Rattle.hull_draw.proofs.marks.marks.Given as goal

abbrev pub invariant-loop-point : goal.invariant-loop-point
invariant-loop-point l =
    (map (λ m. m.point) l.marks.items ≡ take l.point-index l.point-items)
    × All (λ m. m.multiplicity ≡ (held_by l.set.root).multiplicities m.point) l.marks.items
