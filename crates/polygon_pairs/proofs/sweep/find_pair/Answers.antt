-- the polygons of boxes that are apart, or whose distance is more than the length, are no pair
use Rattle.std.proofs.Common.{◌∙◌, [], inr, refl, sym, subst}
use Rattle.std.proofs.lemmas.Bool.{false≢true}
use Rattle.polygon_pairs.specs.Pairs.{IsPairWithin}
use Rattle.polygon_pairs.specs.declared.pair.HullPair.{HullPair}
use Rattle.polygon_pairs.proofs.Boxes.{across_apart}
use Rattle.polygon_pairs.proofs.Fronts.{adds_none}
use Rattle.polygon_pairs.proofs.sweep.find_pair.Goals as goal

pub returns-then-are_across : goal.returns-then-are_across
returns-then-are_across c = (
  [],
  adds_none c.args.out.now c.args.count,
  inr (
    across_apart c.args.reach c.args.polygons.now c.args.here.now c.args.there.now c.requires.polygons c.requires.here c.requires.there
        (c.are_across.ensures.0 c.if-are_across.true),
    refl,
  ),
)

pub returns-else-is_within : goal.returns-else-is_within
returns-else-is_within c = (
  [],
  adds_none c.args.out.now c.args.count,
  inr (
    λ near. false≢true (sym c.if-is_within.false ∙ c.is_within.ensures.1
        (subst (λ (p : HullPair). IsPairWithin c.args.reach c.args.polygons.now p) (sym c.pair_between-pair.ensures) near)),
    refl,
  ),
)
