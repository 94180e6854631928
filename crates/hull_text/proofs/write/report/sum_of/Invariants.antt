-- The total is the sum of the ledgers so far, each below 2^32.
use Rattle.std.proofs.Common.{◌≡◌, ◌≤◌, ◌*◌, ◌^◌, sum, take}
use Rattle.hull_text.proofs.write.report.sum_of.Given as goal

abbrev pub invariant-loop-count : goal.invariant-loop-count
invariant-loop-count l =
    record { value : l.total ≡ sum (take l.count-index l.ledgers); small : l.total ≤ l.count-index * 2 ^ 32 }
