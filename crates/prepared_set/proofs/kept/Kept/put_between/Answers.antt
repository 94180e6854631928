-- the vertices with p are a polygon
use Rattle.std.proofs.Common.{◌∙◌, List, ap, subst}
use Rattle.lattice.specs.Plane.{Pair}
use Rattle.hull_polygon.specs.Insertions.{put_between}
use Rattle.hull_polygon.specs.Rounds.{IsSeparated}
use Rattle.prepared_set.proofs.Shortened.{put_short}
use Rattle.prepared_set.proofs.kept.Kept.put_between.Goals as goal

pub of_vertices-requires : goal.of_vertices-requires
of_vertices-requires c =
    put_short c.args.self.now _ c.self.inside.last c.args.after c.args.before c.args.p
    (subst (λ (V : List Pair). IsSeparated V c.self.inside.last) c.self.view_is c.self.invariant.0) c.requires.gap
    c.requires.insertion c.requires.few
    (c.deref.ensures.value ∙ c.in_ok-put.ensures.put
    ∙ ap (λ (V : List Pair). put_between V c.args.after c.args.before c.args.p) c.self.view_is)
