-- The value of a script: its phases, with the calls of each worker in order.
use Rattle.std.specs.Prelude.{◌≤◌, ◌+◌, ◌==◌, ℕ, zero, suc, max, List, [], ◌∷◌, ◌++◌, map, Option, Some, None}
use Rattle.std.specs.Prelude.{if◌then◌else◌, Bool, true, false}
use Rattle.std.specs.Borrow.{Bor}
use Rattle.std.specs.List.{slice_split}
use Rattle.hull_set.specs.declared.call.Call.{Call}
use Rattle.hull_book.specs.Scripts.{PhaseValue, ScriptValue}
use Rattle.hull_text.specs.Item.{Item}

-- the calls of a worker, in order
unfoldable pub calls_by : ℕ → List Item → List Call
calls_by worker [] = []
calls_by worker (Some order ∷ is) = if order.0 == worker then order.1 ∷ calls_by worker is else calls_by worker is
calls_by worker (None ∷ is) = calls_by worker is

-- the calls of the workers from 0 to n - 1: a phase
unfoldable pub jobs_below : ℕ → List Item → PhaseValue
jobs_below zero is = []
jobs_below (suc n) is = jobs_below n is ++ calls_by n is ∷ []

-- the greatest of n and of one more than each worker
unfoldable pub workers_from : ℕ → List Item → ℕ
workers_from n [] = n
workers_from n (Some order ∷ is) = workers_from (max n (order.0 + 1)) is
workers_from n (None ∷ is) = workers_from n is

-- one more than the greatest worker, and 1 if there is no call
abbrev pub workers_in : List Item → ℕ
workers_in items = workers_from 1 items

-- whether the phase ends here and another begins
abbrev pub is_join : Item → Bool
is_join None = true
is_join (Some order) = false

-- the items of each phase
abbrev pub parts : List Item → List (List Item)
parts items = slice_split is_join items

-- the script that the items make
abbrev pub script_of : List Item → ScriptValue
script_of items = record { workers = workers_in items; phases = map (jobs_below (workers_in items)) (parts items) }

-- the worker of an item is one
abbrev pub HasWorker : Item → Type 0
HasWorker None = Unit {0}
HasWorker (Some order) = order.0 ≤ 63

-- the same of the item of a line
abbrev pub SaysWorker : Option Item → Type 0
SaysWorker None = Unit {0}
SaysWorker (Some item) = HasWorker item

-- the items of the phases that are left; none at the end
abbrev pub parts_left : Option (Bor (List Item)) → List (List Item)
parts_left None = []
parts_left (Some items) = parts items.now
