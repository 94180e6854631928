-- the first indices up to one, without those up to another
use Rattle.std.proofs.Common.{◌≡◌, ◌<◌, ◌≤◌, ◌+◌, ◌-◌, ◌%◌, ◌^◌, ℕ, arith, inl, inr, ◌⊎◌}
use Rattle.std.proofs.lemmas.Nat.{pow_pos}
use Rattle.hull_buckets.specs.Masks.{AreApart}
use Rattle.hull_buckets.proofs.Words.{power_le, lowest_from, top_before}
use Rattle.hull_buckets.proofs.mask.between.Goals as goal

-- the indices before a bound and those after it do not overlap
in_order : (low high count start end : ℕ) → AreApart low high → low < 2 ^ count → (start ≡ 0) ⊎ (2 ^ (start - 1) ≤ low)
    → (end ≡ count) ⊎ (high % 2 ^ (end + 1) ≡ 2 ^ end) → start ≤ end
in_order low high count start end (k, l, e) within (inl s) f = omega (arith, s)
in_order low high count start end (k, l, e) within (inr s) (inl f) =
    let t = top_before low (start - 1) count s within in omega (arith, t, f)
in_order low high count start end (k, l, e) within (inr s) (inr f) =
    let t = top_before low (start - 1) k s l in
    let u = lowest_from high k end e f in omega (arith, t, u)

pub ahead-requires : goal.ahead-requires
ahead-requires c = c.requires.high_within

pub first-requires : goal.first-requires
first-requires c = omega (arith, c.ahead.ensures.within, c.requires.few)

pub first-requires-2 : goal.first-requires-2
first-requires-2 c = c.index_after.ensures.within

pub overflow_sub-result : goal.overflow_sub-result
overflow_sub-result c =
    let o = in_order c.args.low c.args.high c.args.count c.index_after.result c.ahead.result c.requires.apart
    c.requires.low_within c.index_after.ensures.next c.ahead.ensures.next in
    let p = power_le c.index_after.result c.ahead.result o in
    omega (arith, p, c.first.ensures, c.first-2.ensures)

pub returns : goal.returns
returns c =
    let some = pow_pos c.index_after.result in
    record {
      start = c.index_after.result;
      end = c.ahead.result;
      is = omega (arith, some, c.first.ensures, c.first-2.ensures);
      low_before = c.index_after.ensures.all;
      next = c.index_after.ensures.next;
      high_after = c.ahead.ensures.none;
      last = c.ahead.ensures.next;
      order = in_order c.args.low c.args.high c.args.count c.index_after.result c.ahead.result c.requires.apart
          c.requires.low_within c.index_after.ensures.next c.ahead.ensures.next;
      within = c.ahead.ensures.within;
    }
