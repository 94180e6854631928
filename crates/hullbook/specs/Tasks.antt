-- The task of an accepted command line: its numbers are within their limits.
use Rattle.std.specs.Prelude.{◌≡◌, ◌≤◌, ◌⊎◌, ℕ, List, ◌∷◌, IfSome, codes, length, string_bytes}
use Rattle.hull_set.specs.declared.TheConstants.{POINT_LIMIT}
use Rattle.hull_book.specs.declared.limits.TheConstants.{CAPACITY_LIMIT}
use Rattle.hull_program.specs.Words.{IsOneOf, words_as_texts}
use Rattle.hullbook.specs.declared.options.Options.{Options}
use Rattle.hullbook.specs.declared.options.Stated.{Stated}
use Rattle.hullbook.specs.declared.options.Task.{Task}
use Rattle.hullbook.specs.declared.options.Task.TheVariants.{Run, Check, Upgrade}
use Rattle.hullbook.specs.declared.options.Request.{Request}
use Rattle.hullbook.specs.declared.options.Request.TheVariants as request

-- the numbers of a run are within their limits
pub record AreWithinLimits (o : Options) : Type 0 where
  pub capacity_low : 1 ≤ o.capacity
  pub capacity_high : o.capacity ≤ CAPACITY_LIMIT
  pub limit_low : 1 ≤ o.limit
  pub limit_high : o.limit ≤ POINT_LIMIT

-- the stated numbers are within their limits
pub record AreStatedWithinLimits (s : Stated) : Type 0 where
  pub capacity : IfSome s.capacity (λ n. (1 ≤ n) × (n ≤ CAPACITY_LIMIT))
  pub limit : IfSome s.limit (λ n. (1 ≤ n) × (n ≤ POINT_LIMIT))

-- a task has no other numbers
abbrev pub IsWithinLimits : Task → Type 0
IsWithinLimits (Run path o) = AreWithinLimits o
IsWithinLimits (Check path) = Unit {0}
IsWithinLimits (Upgrade path) = Unit {0}

-- a request has no other numbers
abbrev pub IsRequestWithinLimits : Request → Type 0
IsRequestWithinLimits (request.Task t) = IsWithinLimits t
IsRequestWithinLimits (request.RunBucketed path o) = AreWithinLimits o
IsRequestWithinLimits (request.RunAfter script journal s) = AreStatedWithinLimits s
IsRequestWithinLimits (request.Explain path) = Unit {0}
IsRequestWithinLimits (request.CheckSegments paths) = Unit {0}
IsRequestWithinLimits (request.Compact path) = Unit {0}

-- the texts are `check` and these names, which may follow a mark that ends the options
abbrev pub AreAfterCheck : List (List ℕ) → List (List ℕ) → Type 0
AreAfterCheck texts names =
    (texts ≡ codes "check" ∷ names) ⊎ (texts ≡ codes "check" ∷ codes "--" ∷ names)

-- the path that a task names is one of these texts
abbrev pub NamesWords : List (List ℕ) → Task → Type 0
NamesWords texts (Run path o) = IsOneOf texts (string_bytes path)
NamesWords texts (Check path) = IsOneOf texts (string_bytes path)
NamesWords texts (Upgrade path) = IsOneOf texts (string_bytes path)

-- each path that a request names is one of these texts; of segments there are two or more, and they are all words
-- after `check`
abbrev pub RequestNamesWords : List (List ℕ) → Request → Type 0
RequestNamesWords texts (request.Task t) = NamesWords texts t
RequestNamesWords texts (request.RunBucketed path o) = IsOneOf texts (string_bytes path)
RequestNamesWords texts (request.RunAfter script journal s) =
    IsOneOf texts (string_bytes script) × IsOneOf texts (string_bytes journal)
RequestNamesWords texts (request.Explain path) = IsOneOf texts (string_bytes path)
RequestNamesWords texts (request.CheckSegments paths) =
    (2 ≤ length paths.items) × AreAfterCheck texts (words_as_texts paths.items)
RequestNamesWords texts (request.Compact path) = IsOneOf texts (string_bytes path)
