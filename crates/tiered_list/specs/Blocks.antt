-- Blocks of points, all of one size, of which a list fills the first ones.
use Rattle.std.specs.Prelude.{◌≡◌, ℕ, ◌+◌, ◌-◌, ◌≤◌, ◌^◌, zero, suc, min, List, [], ◌∷◌, length}
use Rattle.heap.specs.Rows.{heap_row}
use Rattle.std.specs.declared.collections.VecDeque.{VecDeque}
use Rattle.std.specs.List.{flat_map}
use Rattle.std.specs.VecDeque.{deque_len, deque_capacity}
use Rattle.lattice.specs.Plane.{Pair}
use Rattle.tiered_list.specs.declared.TheConstants.{BLOCK}

-- a ring of points
abbrev pub Block : Type 0
Block = VecDeque Pair heap_row.Denot

-- the points of blocks, one block after the other
abbrev pub points_of : List Block → List Pair
points_of blocks = flat_map (λ b. b.items) blocks

-- a block has so many points, and the capacity of a full one
abbrev pub IsBlock : ℕ → Block → Type 0
IsBlock n b = (deque_len b ≡ n) × (BLOCK ≤ deque_capacity b)

-- n points fill the blocks: each is full, up to one that has the rest, and those after it are empty
abbrev pub IsFilled : ℕ → List Block → Type 0
IsFilled n [] = n ≡ 0
IsFilled n (b ∷ rest) = IsBlock (min BLOCK n) b × IsFilled (n - BLOCK) rest

-- n points fill the blocks, but the block at h lacks one of its points
abbrev pub IsFilledBut : ℕ → ℕ → List Block → Type 0
IsFilledBut h n [] = ⊥
IsFilledBut zero n (b ∷ rest) = (deque_len b + 1 ≡ min BLOCK n) × (BLOCK ≤ deque_capacity b) × IsFilled (n - BLOCK) rest
IsFilledBut (suc h) n (b ∷ rest) = IsBlock (min BLOCK n) b × IsFilledBut h (n - BLOCK) rest

-- the points of a list, and its capacity
pub record TieredValue : Type 0 where
  pub items : List Pair
  pub space : ℕ

-- the invariant of the type of such a list: its points fill the blocks, whose capacity can be counted in 64 bits
pub record IsTiered (len : ℕ) (blocks : List Block) : Type 0 where
  pub filled : IsFilled len blocks
  pub few : length blocks ≤ 2 ^ 53
