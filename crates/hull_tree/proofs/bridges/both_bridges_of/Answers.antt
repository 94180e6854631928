-- near halves are the same halves, so both branches search the same bridges
use Rattle.std.proofs.Common.{sym, ◌∙◌}
use Rattle.std.proofs.lemmas.Bool.{and_parts}
use Rattle.bridge_search.specs.Near.{all_returned}
use Rattle.hull_tree.proofs.PointRows.{all_before_of_set}
use Rattle.hull_tree.proofs.bridges.both_bridges_of.Goals as goal

pub new-requires : goal.new-requires
new-requires c = rw c.new-u.ensures ((all_returned _).0 (and_parts _ _ (sym c.both_near.ensures ∙ c.if-both_near.true)).0)

pub new-requires-then-both_near : goal.new-requires-then-both_near
new-requires-then-both_near c =
    rw c.new-w.ensures ((all_returned _).0 (and_parts _ _ (sym c.both_near.ensures ∙ c.if-both_near.true)).1)

pub both_bridges_between-requires-clause-in_order : goal.both_bridges_between-requires-clause-in_order
both_bridges_between-requires-clause-in_order c =
    rw (c.new.ensures, c.new-then-both_near.ensures, c.new-u.ensures, c.new-w.ensures)
    (all_before_of_set _ _ c.requires.separated.row.in_order)

pub both_bridges_between-requires-else-both_near-clause-in_order
    : goal.both_bridges_between-requires-else-both_near-clause-in_order
both_bridges_between-requires-else-both_near-clause-in_order c =
    rw (c.new-u.ensures, c.new-w.ensures) (all_before_of_set _ _ c.requires.separated.row.in_order)
