-- What is left of an array after a point was written and what is after it moved down.
use Rattle.std.proofs.Common.{◌≡◌, ℕ, suc, ◌+◌, ◌-◌, ◌≤◌, ◌<◌, List, [], ◌∷◌, ◌++◌, length, take, drop, set, sym, ap, ◌∙◌, arith}
use Rattle.std.proofs.Common.{length-drop, length-set}
use Rattle.std.proofs.lemmas.List.{append_assoc, take_more_set, take_rest, drop-set-lt, set_split}
use Rattle.std.proofs.lemmas.List.Edits.{take-paste}
use lib.Seq.{paste}
use Rattle.lattice.specs.Plane.{Pair}
use Rattle.hull_polygon.specs.Insertions.{put_between}

-- the point after the one at a was written
pub written : (V : List Pair) (a b : ℕ) (p : Pair) → a + 1 < length V → b ≡ a + 2 → set V (a + 1) p ≡ put_between V a b p
written V a b p l e =
    let k : suc (a + 1) ≡ b = omega (arith, e) in
    set_split V (a + 1) p l ∙ ap (λ (n : ℕ). take (a + 1) V ++ p ∷ drop n V) k

-- then those from b on were moved after it, and the rest cut off
pub moved : (V : List Pair) (a b m n : ℕ) (p : Pair) → a + 2 ≤ b → b ≤ length V → m ≡ length V - b → n ≡ a + 2 + m
    → take n (paste (set V (a + 1) p) (a + 2) (drop b (set V (a + 1) p)) m) ≡ put_between V a b p
moved V a b m n p h l f e =
    let long = length-set V (a + 1) p in
    let rest = length-drop b (set V (a + 1) p) in
    ap (λ (k : ℕ). take k (paste (set V (a + 1) p) (a + 2) (drop b (set V (a + 1) p)) m)) e
    ∙ take-paste (set V (a + 1) p) (a + 2) (drop b (set V (a + 1) p)) m (omega (arith, long, h, l))
    (omega (arith, long, rest, f))
    ∙ ap (λ (k : ℕ). take (a + 2) (set V (a + 1) p) ++ take k (drop b (set V (a + 1) p))) f ∙ joined
  where
    front : take (a + 2) (set V (a + 1) p) ≡ take (a + 1) V ++ p ∷ []
    front =
        let k : a + 2 ≡ a + 1 + 1 = omega arith in
        ap (λ (n : ℕ). take n (set V (a + 1) p)) k ∙ take_more_set V (a + 1) p (omega (arith, h, l))

    back : take (length V - b) (drop b (set V (a + 1) p)) ≡ drop b V
    back =
        ap (λ (n : ℕ). take (n - b) (drop b (set V (a + 1) p))) (sym (length-set V (a + 1) p))
        ∙ take_rest (set V (a + 1) p) b ∙ drop-set-lt b V (a + 1) p (omega (arith, h))

    joined : take (a + 2) (set V (a + 1) p) ++ take (length V - b) (drop b (set V (a + 1) p)) ≡ put_between V a b p
    joined = rw (front, back) (append_assoc (take (a + 1) V) (p ∷ []) (drop b V))
