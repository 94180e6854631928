-- The numbers that a shared hull can be opened with.
use Rattle.std.specs.Prelude.{◌≤◌, ◌<◌, ℕ, Bool, false, true}
use Rattle.hull_book.specs.declared.limits.TheConstants.{CAPACITY_LIMIT, SEAT_LIMIT}
use Rattle.hull_set.specs.declared.TheConstants.{POINT_LIMIT}
use Rattle.hull_shared.specs.declared.limits.Limits.{Limits}

-- each of them is in its range; the first number may be any. A segment has at most one line more than the book may
-- contain
pub record AreLimits (l : Limits) : Type 0 where
  pub limit_low : 1 ≤ l.limit
  pub limit_high : l.limit ≤ POINT_LIMIT
  pub capacity_low : 1 ≤ l.capacity
  pub capacity_high : l.capacity < CAPACITY_LIMIT
  pub seats_low : 1 ≤ l.seats
  pub seats_high : l.seats ≤ SEAT_LIMIT

-- the capacity of the book in lines, and the number of seats, in their ranges
pub record AreSizes (capacity seats : ℕ) : Type 0 where
  pub capacity_low : 1 ≤ capacity
  pub capacity_high : capacity < CAPACITY_LIMIT
  pub seats_low : 1 ≤ seats
  pub seats_high : seats ≤ SEAT_LIMIT

-- the numbers of a shared hull that keeps its lines, and answers questions when the book is full, or does not
abbrev pub kept_with : ℕ → ℕ → ℕ → ℕ → Bool → Limits
kept_with limit first capacity seats answers = record {
  limit = limit;
  first = first;
  capacity = capacity;
  seats = seats;
  keeps = true;
  answers = answers;
}

-- the numbers of a shared hull that keeps no line: it has space for the line of a call while that is served
abbrev pub unkept_with : ℕ → ℕ → ℕ → Limits
unkept_with limit first seats = record {
  limit = limit;
  first = first;
  capacity = 1;
  seats = seats;
  keeps = false;
  answers = false;
}
