-- a fork that the change below does not reach stays as it is; otherwise its edges are renewed over the ends of its halves
use Rattle.std.proofs.Common.{◌∙◌, subst, sym, arith}
use Rattle.bucket_tree.specs.Changes.{IsEndUnlessClear, edge_on}
use Rattle.bucket_tree.proofs.InPlace.{between_half, untouched}
use Rattle.bucket_tree.proofs.Added.{end_as}
use Rattle.bucket_tree.proofs.in_place.renew_fork.Goals as goal

pub returns-then-is_contained : goal.returns-then-is_contained
returns-then-is_contained c =
    let s = c.is_contained.ensures.0 c.if-is_contained.true in
    untouched c.args.is_left c.args.change c.args.p c.args.changed.now c.args.fork.now c.requires s.between s.lower s.upper

pub renew_edges-above-requires-clause-end : goal.renew_edges-above-requires-clause-end
renew_edges-above-requires-clause-end c = λ side.
    let e = c.renew_half_ends-changed.ensures in
    let f = c.args.fork.now in
    let g = c.renew_half_ends-changed.new.fork in
    subst (λ z. IsEndUnlessClear c.args.change side c.args.p z g.right (edge_on side g)) (sym e.left)
    (subst (λ z. IsEndUnlessClear c.args.change side c.args.p f.left z (edge_on side g)) (sym e.right)
    (end_as c.args.change c.args.p f.left f.right f g e.edges c.requires.end side))

pub returns : goal.returns
returns c =
    let e = c.renew_half_ends-changed.ensures in
    record {
      renewed = c.renew_edges-above.ensures.renewed;
      left = c.renew_edges-above.ensures.left ∙ e.left;
      right = c.renew_edges-above.ensures.right ∙ e.right;
      turns = (let t = rw (e.left, e.right) at c.renew_edges-above.ensures.turns in omega (arith, t));
      closes = rw (e.left, e.right) at c.renew_edges-above.ensures.closes;
      between = λ t. between_half c.args.is_left c.args.p c.args.fork.now (e.between t);
    }
