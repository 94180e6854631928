-- from the farthest point to the one farthest backwards
use Rattle.hull_polygon.proofs.ExtentsOf.{no_less_far, extent_of}
use Rattle.hull_polygon.proofs.Made.{separated_is_polygon}
use Rattle.hull_polygon.proofs.widths.extent.Goals as goal

pub how_much_farther-requires : goal.how_much_farther-requires
how_much_farther-requires c =
    let (S, o) = separated_is_polygon c.args.vertices.now c.args.last c.requires.separated in
    no_less_far S c.args.d _ _ _ c.back.ensures (c.farthest-most.ensures S o) (c.farthest-least.ensures S o)

pub returns-clause-value : goal.returns-clause-value
returns-clause-value c = λ S o.
    extent_of S c.args.d _ _ _ _ c.back.ensures (c.farthest-most.ensures S o) (c.farthest-least.ensures S o)
    c.how_much_farther.ensures.value
