-- the locations relative to the two chains determine that relative to the hull
use Rattle.lattice.specs.declared.side.Side.TheVariants.{Lower, Upper}
use Rattle.hull_geometry.proofs.ChainPlaces.{are_ends}
use Rattle.hull_plain.proofs.Looks.{edge_within, outwards_right, locations_inside, location_touching}
use Rattle.hull_plain.proofs.locations.look_from_lower.Goals as goal

pub returns-in-Before : goal.returns-in-Before
returns-in-Before c = λ S k.
    c.in-Before.ensures S k.below _ (are_ends Lower S c.args.lower.now.items k.below c.requires.some).0.0

pub returns-in-After : goal.returns-in-After
returns-in-After c = λ S k.
    c.in-After.ensures S k.below _ (are_ends Lower S c.args.lower.now.items k.below c.requires.some).1.0

pub returns-in-Outwards : goal.returns-in-Outwards
returns-in-Outwards c = λ S k.
    let seen = c.in-Outwards.ensures S k.below in (
      edge_within Lower Lower S c.args.lower.now.items c.args.q seen.0 seen.1 seen.2 k.below,
      outwards_right Lower S c.args.q seen,
    )

pub returns-in-Touching : goal.returns-in-Touching
returns-in-Touching c = λ S k. c.in-Touching.ensures S k.below

pub returns-in-Outwards-look_on : goal.returns-in-Outwards-look_on
returns-in-Outwards-look_on c = λ S k.
    let seen = c.in-Outwards-look_on.ensures S k.above in (
      edge_within Upper Lower S c.args.lower.now.items c.args.q seen.0 seen.1 seen.2 k.below,
      outwards_right Upper S c.args.q seen,
    )

pub returns-in-Inwards-look_on : goal.returns-in-Inwards-look_on
returns-in-Inwards-look_on c = λ S k.
    locations_inside S c.args.q (c.in-Inwards.ensures S k.below) (c.in-Inwards-look_on.ensures S k.above)

pub returns-in_default : goal.returns-in_default
returns-in_default c = λ S k.
    location_touching S c.args.q c.look_on-in-Inwards.result (c.in-Inwards.ensures S k.below)
    (c.look_on-in-Inwards.ensures S k.above) c.in_default.not-Outwards c.in_default.not-Inwards
