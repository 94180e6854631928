-- The state of a reader of scripts.
use Rattle.std.proofs.lemmas.Grind.{common_steps}
use Rattle.std.proofs.Common.{◌≡◌, ◌≤◌, ◌+◌, ℕ, List, [], ◌∷◌, ◌++◌, length, Option, Some, None, sym, subst, arith}
use Rattle.std.proofs.lemmas.List.{append-nil, length-append}
use Rattle.hull_text.specs.Item.{Item}
use Rattle.hull_text.specs.ScriptText.{kept}
use Rattle.hull_text.specs.ScriptValue.{HasWorker, SaysWorker, workers_from, workers_in}
use Rattle.hull_text.specs.ScriptReading.{IsDraft}
use Rattle.hull_text.proofs.Workers.{workers_append, workers_append_join}

-- Nothing was read.
pub draft_empty : (items : List Item) → items ≡ [] → IsDraft items 1
unfolding workers_from
draft_empty items none =
    rw none (record { low = omega arith; high = omega arith; few = omega arith; workers = omega arith })

-- A line without an item.
draft_nothing : (items : List Item) (n : ℕ) → IsDraft items n → n ≤ 33554432 → IsDraft items (n + 1)
draft_nothing items n d low =
    record { low = omega arith; high = omega arith; few = omega (arith, d.few); workers = d.workers }

-- A line with an item.
draft_more : (items : List Item) (n : ℕ) (item : Item) → IsDraft items n → n ≤ 33554432 → HasWorker item
    → IsDraft (items ++ item ∷ []) (n + 1)
draft_more items n None d low has = grind (arith, common_steps, length-append, workers_append_join)
draft_more items n (Some order) d low has = grind (arith, common_steps, length-append, workers_append)

-- A line, with or without an item.
pub draft_said : (items : List Item) (n : ℕ) (s : Option Item) → IsDraft items n → n ≤ 33554432 → SaysWorker s
    → IsDraft (items ++ kept s []) (n + 1)
draft_said items n None d low has =
    subst (λ (is : List Item). IsDraft is (n + 1)) (sym (append-nil items)) (draft_nothing items n d low)
draft_said items n (Some item) d low has = draft_more items n item d low has

-- The items of a text that ends within a line make a script.
pub draft_ended : (items all : List Item) (n : ℕ) (s : Option Item) → IsDraft items n → n ≤ 33554432 → SaysWorker s
    → all ≡ items ++ kept s [] → (workers_in all ≤ 64) × (length all ≤ 33554432)
draft_ended items all n s d low has e = grind (arith, common_steps, draft_said)
