-- At first there are none, and each level comes after those before it.
use Rattle.std.proofs.Common.{◌∙◌, sym, ap, ◌++◌, List}
use Rattle.hull_tree.specs.Nodes.{tree_of}
use Rattle.leaf_trees.specs.declared.bridge.Bridge.{Bridge}
use Rattle.hull_tree.specs.Levels.{level_of}
use Rattle.hull_draw.proofs.Levels.{levels_none, levels_more}
use Rattle.hull_draw.proofs.bridges.bridges.Goals as goal

pub loop-level-init : goal.loop-level-init
loop-level-init c = c.new-bridges.ensures.items ∙ sym (levels_none _)

pub loop-level-preserved : goal.loop-level-preserved
loop-level-preserved c =
    c.in_ok-push_level.ensures
    ∙ ap (λ (bs : List Bridge). bs
    ++ level_of c.loop-level.level 0 (tree_of c.in-Some.root.now)) c.loop-level.invariant
    ∙ sym (levels_more _ _)
