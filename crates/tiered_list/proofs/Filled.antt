-- Facts about filled blocks when a point moves between two of them, is inserted or is removed.
use Rattle.std.proofs.Common.{◌≡◌, ℕ, ◌+◌, ◌-◌, ◌*◌, ◌/◌, ◌%◌, ◌<◌, ◌≤◌, zero, suc, min, List, [], ◌∷◌, ◌++◌, length, get_or, arith, refl, sym, ap}
use Rattle.std.proofs.Common.{◌∙◌, subst, append_assoc, length-append}
use Rattle.std.proofs.Math.ListN.{set}
use Rattle.std.proofs.lemmas.List.Edits.{insert-append_left, insert-append_right, remove-append_left, remove-append_right}
use Rattle.std.proofs.lemmas.List.{get_or_append_left, get_or-append_right}
use Rattle.std.specs.List.{insert, remove}
use Rattle.std.specs.VecDeque.{deque_len, deque_capacity}
use Rattle.lattice.specs.Plane.{Pair}
use Rattle.tiered_list.specs.Blocks.{Block, TieredValue, IsFilled, IsFilledBut, points_of}
use Rattle.tiered_list.specs.declared.TheConstants.{BLOCK}

-- blocks that n points fill have n points
pub filled_total : (n : ℕ) (bs : List Block) → IsFilled n bs → length (points_of bs) ≡ n
filled_total n [] f = sym f
filled_total n (b ∷ rest) f =
    let l = length-append b.items (points_of rest) in
    let r = filled_total (n - BLOCK) rest f.1 in
    let o = b.ok.0 in
    let e = f.0.0 in
    omega (arith, l, r, o, e)

-- n points fill no more blocks than have the capacity for them
pub filled_within : (n : ℕ) (bs : List Block) → IsFilled n bs → n ≤ BLOCK * length bs
filled_within n [] f = omega (arith, f)
filled_within n (b ∷ rest) f = let r = filled_within (n - BLOCK) rest f.1 in omega (arith, r)

-- if a point is to be added, the first block that is not full lacks one
pub hole_at_the_end : (h n : ℕ) (bs : List Block) → h * BLOCK ≤ n → n < h * BLOCK + BLOCK → n < BLOCK * length bs
    → IsFilled n bs → IsFilledBut h (n + 1) bs
hole_at_the_end h n [] low high within f = absurd (omega (arith, within))
hole_at_the_end zero n (b ∷ rest) low high within f = (
  let e = f.0.0 in omega (arith, e, high),
  f.0.1,
  subst (λ (k : ℕ). IsFilled k rest) (omega (arith, high)) f.1,
)
hole_at_the_end (suc h) n (b ∷ rest) low high within f = (
  (let e = f.0.0 in omega (arith, e, low), f.0.1),
  subst (λ (k : ℕ). IsFilledBut h k rest) (omega (arith, low))
      (hole_at_the_end h (n - BLOCK) rest (omega (arith, low)) (omega (arith, low, high)) (omega (arith, low, within)) f.1),
)

-- if the last point was removed, one point less fills the blocks
pub hole_filled_at_the_end : (h n : ℕ) (bs : List Block) → h * BLOCK ≤ n → n < h * BLOCK + BLOCK
    → IsFilledBut h (n + 1) bs → IsFilled n bs
hole_filled_at_the_end h n [] low high f = absurd f
hole_filled_at_the_end zero n (b ∷ rest) low high f = (
  (let e = f.0 in omega (arith, e, high), f.1),
  subst (λ (k : ℕ). IsFilled k rest) (omega (arith, high)) f.2,
)
hole_filled_at_the_end (suc h) n (b ∷ rest) low high f = (
  (let e = f.0.0 in omega (arith, e, low), f.0.1),
  hole_filled_at_the_end h (n - BLOCK) rest (omega (arith, low)) (omega (arith, low, high))
      (subst (λ (k : ℕ). IsFilledBut h k rest) (omega (arith, low)) f.1),
)

-- the index of a block that lacks a point is that of a block
pub hole_within : (h n : ℕ) (bs : List Block) → IsFilledBut h n bs → h < length bs
hole_within h n [] f = absurd f
hole_within zero n (b ∷ rest) f = omega arith
hole_within (suc h) n (b ∷ rest) f = let r = hole_within h (n - BLOCK) rest f.1 in omega (arith, r)

-- the number of points and the capacity of the block that lacks one
pub hole_block : (h n : ℕ) (bs : List Block) (d : Block) → IsFilledBut h n bs
    → (deque_len (get_or bs h d) + 1 ≡ min BLOCK (n - h * BLOCK)) × (BLOCK ≤ deque_capacity (get_or bs h d))
hole_block h n [] d f = absurd f
hole_block zero n (b ∷ rest) d f = (omega (arith, f.0), f.1)
hole_block (suc h) n (b ∷ rest) d f =
    let r = hole_block h (n - BLOCK) rest d f.1 in (omega (arith, r.0), r.1)

-- the number of points and the capacity of the block before it
pub block_before_hole : (h n : ℕ) (bs : List Block) (d : Block) → IsFilledBut (suc h) n bs
    → (deque_len (get_or bs h d) ≡ min BLOCK (n - h * BLOCK)) × (BLOCK ≤ deque_capacity (get_or bs h d))
block_before_hole h n [] d f = absurd f
block_before_hole zero n (b ∷ rest) d f = (omega (arith, f.0.0), f.0.1)
block_before_hole (suc h) n (b ∷ rest) d f =
    let r = block_before_hole h (n - BLOCK) rest d f.1 in (omega (arith, r.0), r.1)

-- setting a block keeps the next one, and the one before
next_block : (h : ℕ) (bs : List Block) (d u : Block) → get_or (set bs h u) (suc h) d ≡ get_or bs (suc h) d
next_block h [] d u = refl
next_block zero (b ∷ rest) d u = refl
next_block (suc h) (b ∷ rest) d u = next_block h rest d u

block_before : (h : ℕ) (bs : List Block) (d u : Block) → get_or (set bs (suc h) u) h d ≡ get_or bs h d
block_before h [] d u = refl
block_before zero (b ∷ rest) d u = refl
block_before (suc h) (b ∷ rest) d u = block_before h rest d u

-- a point more in the block with a hole, and one less in the one before, move the hole back
hole_moves_back : (h n : ℕ) (bs : List Block) (d e u v : Block) → IsFilledBut (suc h) n bs
    → deque_len u + 1 ≡ deque_len (get_or bs h d) → deque_capacity u ≡ deque_capacity (get_or bs h d)
    → deque_len v ≡ deque_len (get_or bs (suc h) e) + 1 → deque_capacity v ≡ deque_capacity (get_or bs (suc h) e)
    → IsFilledBut h n (set (set bs h u) (suc h) v)
hole_moves_back h n [] d e u v f lu cu lv cv = absurd f
hole_moves_back zero n (b ∷ []) d e u v f lu cu lv cv = absurd f.1
hole_moves_back zero n (b ∷ c ∷ rest) d e u v f lu cu lv cv = (
  omega (arith, lu, f.0.0),
  omega (arith, cu, f.0.1),
  ((omega (arith, lv, f.1.0), omega (arith, cv, f.1.1)), f.1.2),
)
hole_moves_back (suc h) n (b ∷ rest) d e u v f lu cu lv cv =
    (f.0, hole_moves_back h (n - BLOCK) rest d e u v f.1 lu cu lv cv)

-- a point more in the block with a hole, and one less in the next, move the hole on
hole_moves_on : (h n : ℕ) (bs : List Block) (d e u v : Block) → IsFilledBut h n bs → suc h < length bs
    → deque_len u + 1 ≡ deque_len (get_or bs (suc h) e) → deque_capacity u ≡ deque_capacity (get_or bs (suc h) e)
    → deque_len v ≡ deque_len (get_or bs h d) + 1 → deque_capacity v ≡ deque_capacity (get_or bs h d)
    → IsFilledBut (suc h) n (set (set bs (suc h) u) h v)
hole_moves_on h n [] d e u v f within lu cu lv cv = absurd f
hole_moves_on zero n (b ∷ []) d e u v f within lu cu lv cv = absurd (omega (arith, within))
hole_moves_on zero n (b ∷ c ∷ rest) d e u v f within lu cu lv cv = (
  (omega (arith, lv, f.0), omega (arith, cv, f.1)),
  (omega (arith, lu, f.2.0.0), omega (arith, cu, f.2.0.1), f.2.1),
)
hole_moves_on (suc h) n (b ∷ rest) d e u v f within lu cu lv cv =
    (f.0, hole_moves_on h (n - BLOCK) rest d e u v f.1 (omega (arith, within)) lu cu lv cv)

-- two blocks whose points together stay the same keep the points of the list
two_blocks_same : (h : ℕ) (bs : List Block) (d e u v : Block) → suc h < length bs
    → u.items ++ v.items ≡ (get_or bs h d).items ++ (get_or bs (suc h) e).items
    → points_of (set (set bs h u) (suc h) v) ≡ points_of bs
two_blocks_same h [] d e u v within same = absurd (omega (arith, within))
two_blocks_same zero (b ∷ []) d e u v within same = absurd (omega (arith, within))
two_blocks_same zero (b ∷ c ∷ rest) d e u v within same =
    sym (append_assoc u.items v.items (points_of rest)) ∙ ap (λ (z : List Pair). z ++ points_of rest) same
    ∙ append_assoc b.items c.items (points_of rest)
two_blocks_same (suc h) (b ∷ rest) d e u v within same =
    ap (λ (z : List Pair). b.items ++ z) (two_blocks_same h rest d e u v (omega (arith, within)) same)

-- the order in which two blocks are set does not matter
set_both : (h : ℕ) (bs : List Block) (u v : Block) → set (set bs (suc h) u) h v ≡ set (set bs h v) (suc h) u
set_both h [] u v = refl
set_both zero (b ∷ rest) u v = refl
set_both (suc h) (b ∷ rest) u v = ap (λ (z : List Block). b ∷ z) (set_both h rest u v)

-- a hole that moved: what is filled now, and the same points
pub record HoleMoved (h n : ℕ) (old new : List Block) : Type 0 where
  pub filled : IsFilledBut h n new
  pub points : points_of new ≡ points_of old

-- the last point of a block becomes the first of the next one, which lacked a point
pub moved_back : (k h n : ℕ) (bs : List Block) (a u q v : Block) (p : Pair) → h ≡ suc k → IsFilledBut h n bs
    → a ≡ get_or bs k a → q ≡ get_or (set bs k u) h q
    → a.items ≡ u.items ++ p ∷ [] → deque_capacity u ≡ deque_capacity a
    → v.items ≡ p ∷ q.items → deque_capacity v ≡ deque_capacity q
    → HoleMoved k n bs (set (set bs k u) h v)
moved_back k h n bs a u q v p e f at_a at_q ia ca iq cq =
    let f' : IsFilledBut (suc k) n bs = subst (λ (j : ℕ). IsFilledBut j n bs) e f in
    let within = hole_within (suc k) n bs f' in
    let at_q' : q ≡ get_or bs (suc k) q =
    subst (λ (j : ℕ). q ≡ get_or (set bs k u) j q) e at_q ∙ next_block k bs q u in
    let la = length-append u.items (p ∷ []) in
    let na : length a.items ≡ length (u.items ++ p ∷ []) = ap length ia in
    let nv : length v.items ≡ suc (length q.items) = ap length iq in
    let lu : deque_len u + 1 ≡ deque_len a = omega (arith, la, na, a.ok.0, u.ok.0) in
    let lv : deque_len v ≡ deque_len q + 1 = omega (arith, nv, q.ok.0, v.ok.0) in
    subst (λ (j : ℕ). HoleMoved k n bs (set (set bs k u) j v)) (sym e) (record {
      filled = hole_moves_back k n bs a q u v f'
          (lu ∙ ap deque_len at_a) (ca ∙ ap deque_capacity at_a)
          (lv ∙ ap (λ (z : Block). deque_len z + 1) at_q') (cq ∙ ap deque_capacity at_q');
      points = two_blocks_same k bs a q u v within
          (ap (λ (z : List Pair). u.items ++ z) iq ∙ sym (append_assoc u.items (p ∷ []) q.items)
          ∙ ap (λ (z : List Pair). z ++ q.items) (sym ia)
          ∙ ap (λ (z : Block). z.items ++ q.items) at_a
          ∙ ap (λ (z : Block). (get_or bs k a).items ++ z.items) at_q');
    })

-- the first point of a block becomes the last of the one before, which lacked a point
pub moved_on : (k h n : ℕ) (bs : List Block) (a u q v : Block) (p : Pair) → h ≡ suc k → IsFilledBut k n bs
    → h < length bs → a ≡ get_or bs h a → q ≡ get_or (set bs h u) k q
    → a.items ≡ p ∷ u.items → deque_capacity u ≡ deque_capacity a
    → v.items ≡ q.items ++ p ∷ [] → deque_capacity v ≡ deque_capacity q
    → HoleMoved h n bs (set (set bs h u) k v)
moved_on k h n bs a u q v p e f within at_a at_q ia ca iq cq =
    let within' : suc k < length bs = omega (arith, within, e) in
    let at_a' : a ≡ get_or bs (suc k) a = subst (λ (j : ℕ). a ≡ get_or bs j a) e at_a in
    let at_q' : q ≡ get_or bs k q =
    subst (λ (j : ℕ). q ≡ get_or (set bs j u) k q) e at_q ∙ block_before k bs q u in
    let lq = length-append q.items (p ∷ []) in
    let na : length a.items ≡ suc (length u.items) = ap length ia in
    let nv : length v.items ≡ length (q.items ++ p ∷ []) = ap length iq in
    let lu : deque_len u + 1 ≡ deque_len a = omega (arith, na, a.ok.0, u.ok.0) in
    let lv : deque_len v ≡ deque_len q + 1 = omega (arith, lq, nv, q.ok.0, v.ok.0) in
    subst (λ (j : ℕ). HoleMoved j n bs (set (set bs j u) k v)) (sym e) (record {
      filled = hole_moves_on k n bs q a u v f within'
          (lu ∙ ap deque_len at_a') (ca ∙ ap deque_capacity at_a')
          (lv ∙ ap (λ (z : Block). deque_len z + 1) at_q') (cq ∙ ap deque_capacity at_q');
      points = ap points_of (set_both k bs u v) ∙ two_blocks_same k bs q a v u within'
          (ap (λ (z : List Pair). z ++ u.items) iq ∙ append_assoc q.items (p ∷ []) u.items
          ∙ ap (λ (z : List Pair). q.items ++ z) (sym ia)
          ∙ ap (λ (z : Block). z.items ++ a.items) at_q'
          ∙ ap (λ (z : Block). (get_or bs k q).items ++ z.items) at_a');
    })

-- a point that is added fills the hole
pub hole_filled : (h n : ℕ) (bs : List Block) (d u : Block) → IsFilledBut h n bs
    → deque_len u ≡ deque_len (get_or bs h d) + 1 → deque_capacity (get_or bs h d) ≤ deque_capacity u
    → IsFilled n (set bs h u)
hole_filled h n [] d u f l c = absurd f
hole_filled zero n (b ∷ rest) d u f l c = ((omega (arith, l, f.0), omega (arith, c, f.1)), f.2)
hole_filled (suc h) n (b ∷ rest) d u f l c = (f.0, hole_filled h (n - BLOCK) rest d u f.1 l c)

-- a point that is inserted into the hole is inserted into the points there
pub points_with : (h n o : ℕ) (bs : List Block) (d u : Block) (p : Pair) → IsFilledBut h n bs → h * BLOCK + o < n → o < BLOCK
    → u.items ≡ insert (get_or bs h d).items o p → points_of (set bs h u) ≡ insert (points_of bs) (h * BLOCK + o) p
points_with h n o [] d u p f within low e = absurd f
points_with zero n o (b ∷ rest) d u p f within low e =
    ap (λ (z : List Pair). z ++ points_of rest) e
    ∙ sym (insert-append_left b.items (points_of rest) o p (let k = b.ok.0 in omega (arith, k, f.0, within, low)))
    ∙ ap (λ (k : ℕ). insert (b.items ++ points_of rest) k p) (omega arith)
points_with (suc h) n o (b ∷ rest) d u p f within low e =
    ap (λ (z : List Pair). b.items ++ z) (points_with h (n - BLOCK) o rest d u p f.1 (omega (arith, within)) low e)
    ∙ ap (λ (k : ℕ). b.items ++ insert (points_of rest) k p) (omega arith)
    ∙ sym (insert-append_right b.items (points_of rest) BLOCK (suc h * BLOCK + o) p
    (let k = b.ok.0 in omega (arith, k, f.0.0, within)) (omega arith))

-- a block from which one point was removed has a hole
pub hole_dug : (h n o : ℕ) (bs : List Block) (d u : Block) → IsFilled n bs → h * BLOCK + o < n
    → deque_len u + 1 ≡ deque_len (get_or bs h d) → deque_capacity u ≡ deque_capacity (get_or bs h d)
    → IsFilledBut h n (set bs h u)
hole_dug h n o [] d u f within l c = absurd (omega (arith, f, within))
hole_dug zero n o (b ∷ rest) d u f within l c = (omega (arith, l, f.0.0), omega (arith, c, f.0.1), f.1)
hole_dug (suc h) n o (b ∷ rest) d u f within l c =
    (f.0, hole_dug h (n - BLOCK) o rest d u f.1 (omega (arith, within)) l c)

-- a point that is removed from a block is removed from the points
pub points_without : (h n o : ℕ) (bs : List Block) (d u : Block) → IsFilled n bs → h * BLOCK + o < n → o < BLOCK
    → u.items ≡ remove (get_or bs h d).items o → points_of (set bs h u) ≡ remove (points_of bs) (h * BLOCK + o)
points_without h n o [] d u f within low e = absurd (omega (arith, f, within))
points_without zero n o (b ∷ rest) d u f within low e =
    ap (λ (z : List Pair). z ++ points_of rest) e
    ∙ sym (remove-append_left b.items (points_of rest) o (let k = b.ok.0 in omega (arith, k, f.0.0, within, low)))
    ∙ ap (λ (k : ℕ). remove (b.items ++ points_of rest) k) (omega arith)
points_without (suc h) n o (b ∷ rest) d u f within low e =
    ap (λ (z : List Pair). b.items ++ z) (points_without h (n - BLOCK) o rest d u f.1 (omega (arith, within)) low e)
    ∙ ap (λ (k : ℕ). b.items ++ remove (points_of rest) k) (omega arith)
    ∙ sym (remove-append_right b.items (points_of rest) BLOCK (suc h * BLOCK + o)
    (let k = b.ok.0 in omega (arith, k, f.0.0, within)) (omega arith))

-- the location of an index below n: its block is one of the blocks, its offset is within that block, and its point is
-- there
pub record StandsAt (h o : ℕ) (bs : List Block) : Type 0 where
  pub block : h < length bs
  pub within : (d : Block) → o < deque_len (get_or bs h d)
  pub point : (d : Block) (p : Pair) → get_or (points_of bs) (h * BLOCK + o) p ≡ get_or (get_or bs h d).items o p

pub stands_at : (h n o : ℕ) (bs : List Block) → IsFilled n bs → h * BLOCK + o < n → o < BLOCK → StandsAt h o bs
stands_at h n o [] f within low = absurd (omega (arith, f, within))
stands_at zero n o (b ∷ rest) f within low = record {
  block = omega arith;
  within = λ d. omega (arith, f.0.0, within, low);
  point = λ d p. ap (λ (k : ℕ). get_or (b.items ++ points_of rest) k p) (omega arith)
      ∙ get_or_append_left b.items (points_of rest) p o (let k = b.ok.0 in omega (arith, k, f.0.0, within, low));
}
stands_at (suc h) n o (b ∷ rest) f within low =
    let r = stands_at h (n - BLOCK) o rest f.1 (omega (arith, within)) low in record {
      block = let k = r.block in omega (arith, k);
      within = r.within;
      point = λ d p. get_or-append_right b.items (points_of rest) BLOCK (suc h * BLOCK + o) p
          (let k = b.ok.0 in omega (arith, k, f.0.0, within)) (omega arith)
          ∙ ap (λ (k : ℕ). get_or (points_of rest) k p) (omega arith) ∙ r.point d p;
    }

-- one more empty block adds capacity, and no point
pub filled_and : (n : ℕ) (bs : List Block) (b : Block) → IsFilled n bs → deque_len b ≡ 0 → BLOCK ≤ deque_capacity b
    → IsFilled n (bs ++ b ∷ [])
filled_and n [] b f l c = ((omega (arith, f, l), c), omega (arith, f))
filled_and n (a ∷ rest) b f l c = (f.0, filled_and (n - BLOCK) rest b f.1 l c)

pub points_and : (bs : List Block) (b : Block) → b.items ≡ [] → points_of (bs ++ b ∷ []) ≡ points_of bs
points_and [] b e = ap (λ (z : List Pair). z ++ []) e
points_and (a ∷ rest) b e = ap (λ (z : List Pair). a.items ++ z) (points_and rest b e)

-- n points, of which one block lacks one, are within the capacity of the blocks
pub hole_few : (h n : ℕ) (bs : List Block) → IsFilledBut h n bs → n ≤ BLOCK * length bs
hole_few h n [] f = absurd f
hole_few zero n (b ∷ rest) f = let r = filled_within (n - BLOCK) rest f.2 in omega (arith, r)
hole_few (suc h) n (b ∷ rest) f = let r = hole_few h (n - BLOCK) rest f.1 in omega (arith, r)

-- the block after the one that lacks a point
pub block_after_hole : (h n : ℕ) (bs : List Block) (d : Block) → IsFilledBut h n bs → suc h < length bs
    → (deque_len (get_or bs (suc h) d) ≡ min BLOCK (n - suc h * BLOCK)) × (BLOCK ≤ deque_capacity (get_or bs (suc h) d))
block_after_hole h n [] d f within = absurd f
block_after_hole zero n (b ∷ []) d f within = absurd (omega (arith, within))
block_after_hole zero n (b ∷ c ∷ rest) d f within = (omega (arith, f.2.0.0), f.2.0.1)
block_after_hole (suc h) n (b ∷ rest) d f within =
    let r = block_after_hole h (n - BLOCK) rest d f.1 (omega (arith, within)) in (omega (arith, r.0), r.1)

-- a block that the code borrows: it has m points or one less, and the capacity of a full one
pub record Holds (a : Block) (m : ℕ) : Type 0 where
  pub count : deque_len a ≡ m
  pub space : BLOCK ≤ deque_capacity a

pub record Lacks (a : Block) (m : ℕ) : Type 0 where
  pub count : deque_len a + 1 ≡ m
  pub space : BLOCK ≤ deque_capacity a

-- the block before the hole
pub before_hole : (k h n : ℕ) (bs : List Block) (a : Block) → h ≡ suc k → IsFilledBut h n bs → a ≡ get_or bs k a
    → Holds a (min BLOCK (n - k * BLOCK))
before_hole k h n bs a e f at =
    let r = block_before_hole k n bs a (subst (λ (j : ℕ). IsFilledBut j n bs) e f) in
    subst (λ (z : Block). Holds z (min BLOCK (n - k * BLOCK))) (sym at) (record { count = r.0; space = r.1 })

-- the block of the hole, after the one before it changed
pub at_hole : (k h n : ℕ) (bs : List Block) (u q : Block) → h ≡ suc k → IsFilledBut h n bs
    → q ≡ get_or (set bs k u) h q → Lacks q (min BLOCK (n - h * BLOCK))
at_hole k h n bs u q e f at =
    let r = hole_block h n bs q f in
    let at' : q ≡ get_or bs h q = at
    ∙ subst (λ (j : ℕ). get_or (set bs k u) j q ≡ get_or bs j q) (sym e) (next_block k bs q u) in
    subst (λ (z : Block). Lacks z (min BLOCK (n - h * BLOCK))) (sym at') (record { count = r.0; space = r.1 })

-- the block after the hole
pub after_hole : (k h n : ℕ) (bs : List Block) (a : Block) → h ≡ suc k → IsFilledBut k n bs → h < length bs
    → a ≡ get_or bs h a → Holds a (min BLOCK (n - h * BLOCK))
after_hole k h n bs a e f within at =
    let r = block_after_hole k n bs a f (omega (arith, e, within)) in
    subst (λ (z : Block). Holds z (min BLOCK (n - h * BLOCK))) (sym at)
    (subst (λ (j : ℕ). Holds (get_or bs j a) (min BLOCK (n - j * BLOCK))) (sym e) (record { count = r.0; space = r.1 }))

-- the block of the hole, after the one after it changed
pub still_hole : (k h n : ℕ) (bs : List Block) (u q : Block) → h ≡ suc k → IsFilledBut k n bs
    → q ≡ get_or (set bs h u) k q → Lacks q (min BLOCK (n - k * BLOCK))
still_hole k h n bs u q e f at =
    let r = hole_block k n bs q f in
    let at' : q ≡ get_or bs k q = at
    ∙ subst (λ (j : ℕ). get_or (set bs j u) k q ≡ get_or bs k q) (sym e) (block_before k bs q u) in
    subst (λ (z : Block). Lacks z (min BLOCK (n - k * BLOCK))) (sym at') (record { count = r.0; space = r.1 })

-- the block of the hole
pub in_hole : (h n : ℕ) (bs : List Block) (a : Block) → IsFilledBut h n bs → a ≡ get_or bs h a
    → Lacks a (min BLOCK (n - h * BLOCK))
in_hole h n bs a f at =
    let r = hole_block h n bs a f in
    subst (λ (z : Block). Lacks z (min BLOCK (n - h * BLOCK))) (sym at) (record { count = r.0; space = r.1 })

-- the value that contracts see of blocks
abbrev pub seen_of : List Block → TieredValue
seen_of bs = record { items = points_of bs; space = BLOCK * length bs }

-- the value has as many points as fill the blocks
pub len_of : (n : ℕ) (bs : List Block) (v : TieredValue) → IsFilled n bs → seen_of bs ≡ v → n ≡ length v.items
len_of n bs v f e = sym (filled_total n bs f) ∙ ap (λ (z : TieredValue). length z.items) e

-- the location of an index of that value
pub place_of : (i n : ℕ) (bs : List Block) (v : TieredValue) → IsFilled n bs → seen_of bs ≡ v → i < length v.items
    → StandsAt (i / BLOCK) (i % BLOCK) bs
place_of i n bs v f e l =
    let s = len_of n bs v f e in stands_at (i / BLOCK) n (i % BLOCK) bs f (omega (arith, s, l)) (omega arith)

-- the point at that offset of its block is the point at the index
pub point_of : (i : ℕ) (bs : List Block) (v : TieredValue) (a : Block) (p : Pair) → StandsAt (i / BLOCK) (i % BLOCK) bs
    → seen_of bs ≡ v → a ≡ get_or bs (i / BLOCK) a → p ≡ get_or a.items (i % BLOCK) p → p ≡ get_or v.items i p
point_of i bs v a p s e at is =
    is ∙ ap (λ (z : Block). get_or z.items (i % BLOCK) p) at ∙ sym (s.point a p)
    ∙ ap (λ (k : ℕ). get_or (points_of bs) k p) (omega arith) ∙ ap (λ (z : TieredValue). get_or z.items i p) e
