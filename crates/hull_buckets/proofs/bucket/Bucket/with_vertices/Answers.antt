-- the arrays begin with what was given
use Rattle.std.proofs.Common.{◌≡◌, ℕ, ◌+◌, List, length, take, sym, ap, subst, ◌∙◌, arith}
use Rattle.lattice.specs.Plane.{Pair}
use Rattle.hull_buckets.specs.Buckets.{IsBucket}
use Rattle.hull_buckets.proofs.Changed.{made}
use Rattle.hull_buckets.proofs.bucket.Bucket.with_vertices.Goals as goal

-- the first of what was written after nothing
first_written : {X : Type 0} (new more : List X) (n : ℕ) → n ≡ length more → take (0 + length more) new ≡ more
    → take n new ≡ more
first_written {X} new more n e h =
    let a : n ≡ 0 + length more = omega (arith, e) in ap (λ (k : ℕ). take k new) a ∙ h

pub invariant_of-result : goal.invariant_of-result
invariant_of-result c =
    let P = first_written c.append.new.items c.args.points.now (length c.args.points.now) (omega arith)
    c.append.ensures.items in
    let T : take (length c.args.points.now) c.new.result ≡ c.args.multiplicities.now =
    ap (λ (k : ℕ). take k c.new.result) (sym c.requires.counted) ∙ c.new.ensures.first in (
      c.requires.few,
      subst (λ (z : List Pair). IsBucket (record {
        points = z;
        multiplicities = take (length c.args.points.now) c.new.result;
        lower = c.args.lower;
        upper = c.args.upper;
      })) (sym P)
          (subst (λ (z : List ℕ). IsBucket (record {
            points = c.args.points.now;
            multiplicities = z;
            lower = c.args.lower;
            upper = c.args.upper;
          })) (sym T)
          (made c.args.points.now c.args.multiplicities.now c.args.lower c.args.upper c.requires.some
          c.requires.few c.requires.ordered c.requires.counted c.requires.held c.requires.below
          c.requires.above)),
      c.new.ensures.len,
    )
