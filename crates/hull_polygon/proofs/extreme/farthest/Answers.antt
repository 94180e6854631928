-- the vertex at that index
use Rattle.std.proofs.Common.{sym, subst}
use Rattle.hull_geometry.specs.Tangents.{IsFirstFarthest}
use Rattle.hull_polygon.proofs.extreme.farthest.Goals as goal

pub returns : goal.returns
returns c = λ S o. subst (IsFirstFarthest S c.args.d) (sym c.vertex_at.ensures) (c.place_of_farthest.ensures.farthest S o)
