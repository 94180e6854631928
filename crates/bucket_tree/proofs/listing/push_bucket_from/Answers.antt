-- those from the start's index on, as many as there is capacity for
use Rattle.std.proofs.Common.{◌∙◌, sym, ap, arith, length, take, drop, ◌++◌, List, ℕ}
use Rattle.lattice.specs.Plane.{Pair}
use Rattle.bucket_tree.specs.Lists.{paired}
use Rattle.bucket_tree.proofs.ListedParts.{bucket_from}
use Rattle.bucket_tree.proofs.listing.push_bucket_from.Goals as goal

pub returns-clause-entries : goal.returns-clause-entries
returns-clause-entries c =
    let same = ap (λ (z : List Pair). length z) c.points-points.ensures.points in
    c.push_all.ensures.entries
    ∙ bucket_from c.points-points.result.now c.multiplicities-multiplicities.result.now c.first_from-first.result c.min-count.result
    c.args.most c.args.entries.now.items (omega (arith, c.multiplicities-multiplicities.ensures.counted, same))
    (omega (arith, c.first_from-first.ensures.within, same)) (omega (arith, c.min-count.ensures)) (omega (arith, c.requires.few))
    ∙ ap (λ z. take c.args.most (c.args.entries.now.items
    ++ drop c.first_from-first.result (paired z c.multiplicities-multiplicities.result.now))) c.points-points.ensures.points
    ∙ ap (λ z. take c.args.most (c.args.entries.now.items
    ++ drop c.first_from-first.result (paired c.args.bucket.now.points z))) c.multiplicities-multiplicities.ensures.multiplicities
    ∙ ap (λ (z : List (Pair × ℕ)). take c.args.most (c.args.entries.now.items ++ z)) (sym c.first_from-first.ensures.from)
