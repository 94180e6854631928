-- the closure returns false only in the octagon, whose vertices stay
use Rattle.std.proofs.Common.{◌⊎◌, subst, List, arith, rules}
use Rattle.std.specs.List.{All, Contains}
use Rattle.lattice.specs.Plane.{Pair}
use Rattle.lattice.proofs.Tests.{passed}
use Rattle.lattice.specs.declared.side.Side.{Side}
use Rattle.hull_geometry.specs.CandidateLists.{IsCandidateList}
use Rattle.outer_points.specs.Octagons.{chain_of, IsInnerTo}
use Rattle.outer_points.specs.declared.octagon.Octagon.{Octagon}
use Rattle.outer_points.proofs.Kept.{all_chosen, candidates, sublist_among, covering, kept_or}
use Rattle.outer_points.proofs.filter.drop_inner.Goals as goal

-- a point is kept, or it is in the octagon
kept : (c : goal.After-retain) (t : Pair) → Contains c.args.points.now.items t
    → Contains c.retain.new.self.items t ⊎ IsInnerTo c.of-octagon.result t
kept c = kept_or _ _ _ (λ x b g k. (search (rules, k.called), search (rules, k.called))) _ _ c.retain.ensures.filtered

-- the points that are kept are a candidate list for both chains
listed : (c : goal.After-retain) (side : Side) → IsCandidateList side (Contains c.retain.new.self.items) (Contains c.args.points.now.items)
listed c =
    let S : List Pair = c.args.points.now.items in
    let O : Octagon = c.of-octagon.result in
    candidates O S c.retain.new.self.items (passed _ _ c.if-is_in_order.true c.is_in_order.ensures) (omega arith) (omega arith)
    (λ side. subst (λ (z : List Pair). All (Contains z) (chain_of side O)) c.deref.ensures.value (c.of-octagon.ensures side))
    (sublist_among S c.retain.new.self.items (c.retain.ensures.filtered.0, c.retain.ensures.filtered.2, c.retain.ensures.filtered.4))
    (kept c)

pub returns-then-is_in_order-clause-covered : goal.returns-then-is_in_order-clause-covered
returns-then-is_in_order-clause-covered c = covering c.args.points.now.items c.retain.new.self.items (listed c)

pub returns-then-is_in_order-clause-candidates : goal.returns-then-is_in_order-clause-candidates
returns-then-is_in_order-clause-candidates c = listed c

pub returns-else-is_in_order-clause-sublist : goal.returns-else-is_in_order-clause-sublist
returns-else-is_in_order-clause-sublist c = all_chosen c.args.points.now.items
