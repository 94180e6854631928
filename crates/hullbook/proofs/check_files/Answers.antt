-- the segment that was not judged is one of the files
use Rattle.std.proofs.Common.{◌≡◌, arith, rules, ap, List, ℕ, length, Err}
use Rattle.std.proofs.lemmas.List.{length-map}
use Rattle.std.specs.Prelude.{string_bytes}
use Rattle.hullbook.specs.declared.segments.SegmentsFault.TheVariants.{Segment}
use Rattle.hullbook.proofs.check_files.Goals as goal

pub swap_remove-requires : goal.swap_remove-requires
swap_remove-requires g c =
    let is : c.check_segments-checked.result ≡ Err (Segment c.in-Err-Segment.segment c.in-Err-Segment.fault) = search rules in
    let below = (rw is at c.check_segments-checked.ensures).0 in
    let same = ap (λ (z : List (List ℕ)). length z) c.new.ensures in
    let each = length-map c.deref.result.now string_bytes in
    let all = ap (λ z. length z) c.deref.ensures.value in
    omega (arith, below, same, each, all)
