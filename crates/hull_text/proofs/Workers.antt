-- The workers of a script, item by item.
use Rattle.std.proofs.Common.{◌≡◌, ◌≤◌, ◌+◌, ℕ, max, List, [], ◌∷◌, ◌++◌, Some, None, refl, arith}
use Rattle.hull_set.specs.declared.call.Call.{Call}
use Rattle.hull_text.specs.Item.{Item}
use Rattle.hull_text.specs.ScriptValue.{workers_from}

-- Counting workers never makes the greatest smaller.
pub workers_least : (n : ℕ) (items : List Item) → n ≤ workers_from n items
unfolding workers_from
workers_least n [] = omega arith
workers_least n (None ∷ is) = workers_least n is
workers_least n (Some order ∷ is) = omega (arith, workers_least (max n (order.0 + 1)) is)

-- A call more at the end.
pub workers_append : (n : ℕ) (items : List Item) (order : ℕ × Call)
    → workers_from n (items ++ Some order ∷ []) ≡ max (workers_from n items) (order.0 + 1)
unfolding workers_from
workers_append n [] order = refl
workers_append n (None ∷ is) order = workers_append n is order
workers_append n (Some o ∷ is) order = workers_append (max n (o.0 + 1)) is order

-- A join more at the end.
pub workers_append_join : (n : ℕ) (items : List Item) → workers_from n (items ++ None ∷ []) ≡ workers_from n items
unfolding workers_from
workers_append_join n [] = refl
workers_append_join n (None ∷ is) = workers_append_join n is
workers_append_join n (Some o ∷ is) = workers_append_join (max n (o.0 + 1)) is
