-- the known vertices are those after the recorded changes
use Rattle.std.proofs.Common.{◌∙◌}
use Rattle.std.specs.Arc.{arc_value}
use Rattle.hull_snapshots.specs.Lists.{vertices_in}
use Rattle.hull_snapshots.proofs.Known.{known_here}
use Rattle.hull_snapshots.proofs.change_publisher.ChangePublisher.publish.Goals as goal

pub post-requires-clause-vertices : goal.post-requires-clause-vertices
post-requires-clause-vertices g c = known_here arc_value vertices_in _ _ c.fill.new.self.known c.in-Some.list
    c.fill.new.self.known_is (c.fill.ensures.prefix.1 ∙ c.if-self.false) c.in-Some.ensures
