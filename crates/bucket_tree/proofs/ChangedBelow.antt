-- A bucket below a node that changed, and the forks above it.
use Rattle.std.proofs.Common.{◌≡◌, ℕ, ◌≤◌, Bool, true, false, cond, not, refl, sym, ap, ◌∙◌, subst, Box, inl, inr, ◌+◌, arith}
use Rattle.lattice.specs.Plane.{Pair, IsBefore}
use Rattle.hull_buckets.specs.Buckets.{BucketValue}
use Rattle.bucket_tree.specs.Changes.{change_of}
use Rattle.bucket_tree.specs.Halves.{half_of, with_half}
use Rattle.bucket_tree.specs.InPlace.{HasChanged, HasChangedBelow, IsChangeable, IsContained, IsRenewedAfter, IsToRenew}
use Rattle.bucket_tree.specs.Nodes.{node_height, IsWellBuilt}
use Rattle.bucket_tree.specs.declared.renewal.Change.{Change}
use Rattle.bucket_tree.specs.declared.renewal.Changed.{Changed}
use Rattle.bucket_tree.specs.declared.node.Fork.{Fork as Below}
use Rattle.bucket_tree.specs.declared.node.Node.{Node, Leaf, Fork, Fork', Taken}
use Rattle.bucket_tree.proofs.InPlace.{IsForkAt, changed_leaf, changed_with, fork_at, part_at, to_renew, untouched}
use Rattle.bucket_tree.proofs.Parts.{BelongsTo}

-- the half to which p belongs is well built, and lower than the node
pub built_half : (left : Bool) (p : Pair) (n : Node) (h : ℕ) (f : Below) → IsForkAt left p n h f
    → IsWellBuilt (half_of left f) × (node_height (half_of left f) + 1 ≤ node_height n)
built_half true p n h f i = (i.apart.row.left_built, omega (arith, i.apart.height))
built_half false p n h f i = (i.apart.row.right_built, omega (arith, i.apart.height))

-- the half to which p belongs of a node that can be changed can be changed
pub changeable_half : (left put : Bool) (p : Pair) (n : Node) (h : ℕ) (f : Below) → IsForkAt left p n h f → IsChangeable put n
    → IsChangeable put (half_of left f)
changeable_half left put p n h f i c =
    let o = part_at left put n h f i.apart c.few c.low in record { built = o.0; few = o.1; low = o.2 }

-- a bucket changed below a fork if it did below the half to which p belongs
pub below_with : (left put : Bool) (p : Pair) (n : Node) (h : ℕ) (b c : Box Below _) (k : Node) (below : Changed) → n ≡ Fork h b
    → BelongsTo left p b.value.right_ends.first → c.value ≡ with_half left b.value k
    → HasChangedBelow put p (half_of left b.value) k below → HasChangedBelow put p n (Fork h c) below
below_with true put p n h b c k below e here v d =
    subst (λ z. HasChangedBelow put p z (Fork h c) below) (sym e)
    (refl, inl (here, v ∙ ap (with_half true b.value) (sym same), subst (λ z. HasChangedBelow put p b.value.left z below) (sym same) d))
  where
    same : c.value.left ≡ k
    same = ap (λ (z : Below). z.left) v
below_with false put p n h b c k below e here v d =
    subst (λ z. HasChangedBelow put p z (Fork h c) below) (sym e)
    (refl, inr (here, v ∙ ap (with_half false b.value) (sym same), subst (λ z. HasChangedBelow put p b.value.right z below) (sym same) d))
  where
    same : c.value.right ≡ k
    same = ap (λ (z : Below). z.right) v

-- a fork below which a bucket changed, as it was before
pub record IsOpened (left put : Bool) (p : Pair) (n : Node) (h : ℕ) (g : Below) (below : Changed) : Type 0 where
  pub old : Below
  pub at : IsForkAt left p n h old
  pub value : g ≡ with_half left old (half_of left g)
  pub changed : HasChangedBelow put p (half_of left old) (half_of left g) below

-- if a bucket changed below a fork, it did below the half to which p belongs
pub opened : (left put : Bool) (p : Pair) (n : Node) (h : ℕ) (b : Box Below _) (below : Changed) → IsWellBuilt n
    → BelongsTo left p b.value.right_ends.first → HasChangedBelow put p n (Fork h b) below → IsOpened left put p n h b.value below
opened left put p (Leaf c) h b below w here d = absurd d
opened left put p Taken h b below w here d = absurd d
opened true put p (Fork' k i l r re u le lo) h b below w here (e, inl (first, v, d)) = record {
  old = record { left_ends = le; left = l; right_ends = re; right = r; upper = u; lower = lo };
  at = fork_at true p _ h _ _ _ (ap (λ z. Fork' z i l r re u le lo) (sym e)) refl refl w first;
  value = v;
  changed = d;
}
opened true put p (Fork' k i l r re u le lo) h b below w here (e, inr (first, v, d)) =
    absurd (first (subst (IsBefore p) (ap (λ (z : Below). z.right_ends.first) v) here))
opened false put p (Fork' k i l r re u le lo) h b below w here (e, inl (first, v, d)) =
    absurd (here (subst (IsBefore p) (sym (ap (λ (z : Below). z.right_ends.first) v)) first))
opened false put p (Fork' k i l r re u le lo) h b below w here (e, inr (first, v, d)) = record {
  old = record { left_ends = le; left = l; right_ends = re; right = r; upper = u; lower = lo };
  at = fork_at false p _ h _ _ _ (ap (λ z. Fork' z i l r re u le lo) (sym e)) refl refl w first;
  value = v;
  changed = d;
}

-- a fork has changed at p as its half, if nothing else changed and no edge is affected
changed_above : (left put : Bool) (p : Pair) (n : Node) (h : ℕ) (old : Below) (b : Box Below _) (below : Changed) → IsForkAt left p n h old
    → b.value ≡ with_half left old (half_of left b.value) → IsChangeable put n
    → (IsChangeable put (half_of left old) → HasChanged put p (half_of left old) (half_of left b.value) below)
    → IsContained below → HasChanged put p n (Fork h b) below
changed_above left put p n h old b below at v c changed s =
    let d = changed (changeable_half left put p n h old at c) in
    changed_with left put p n h old b.value (half_of left b.value) below below b at d c.few c.low v
    (untouched left (change_of left put) p below b.value
    (to_renew left put (change_of left put) p n h old b.value (half_of left b.value) below at d c.few c.low v refl)
    s.between s.lower s.upper)

-- if a bucket changed at a point that is between two others there and on no chain, all above it is well built as it is
pub unreached : (put : Bool) (p : Pair) (n m : Node) (below : Changed) → IsChangeable put n → HasChangedBelow put p n m below
    → IsContained below → HasChanged put p n m below
unreached put p (Leaf b) (Leaf c) below w d s = changed_leaf put p b c c.value below refl d.0 d.1
unreached put p (Leaf b) (Fork' k i l r re u le lo) below w d s = absurd d
unreached put p (Leaf b) Taken below w d s = absurd d
unreached put p Taken m below w d s = absurd d
unreached put p (Fork' h j x y ye q xe t) (Leaf c) below w d s = absurd d
unreached put p (Fork' h j x y ye q xe t) Taken below w d s = absurd d
unreached put p (Fork' h j x y ye q xe t) (Fork' k i l r re u le lo) below w (e, d) s =
    let same = ap (λ z. Fork' z j x y ye q xe t) (sym e) in
    elim d [
      | inl (first, v, d) ↦ changed_above true put p (Fork' h j x y ye q xe t) k _ _ below
          (fork_at true p _ k _ _ _ same refl refl w.built first) v w (λ c. unreached put p x l below c d s) s
      | inr (first, v, d) ↦ changed_above false put p (Fork' h j x y ye q xe t) k _ _ below
          (fork_at false p _ k _ _ _ same refl refl w.built first) v w (λ c. unreached put p y r below c d s) s
    ]

-- a bucket that changed is a leaf that changed
pub leaf_below : (put : Bool) (p : Pair) (n m : Node) (b : Box BucketValue _) (below : Changed) → m ≡ Leaf b → HasChangedBelow put p n m below
    → HasChanged put p n m below
leaf_below put p n m b below e d =
    subst (λ z. HasChanged put p n z below) (sym e) (go n (subst (λ z. HasChangedBelow put p n z below) e d))
  where
    go : (n : Node) → HasChangedBelow put p n (Leaf b) below → HasChanged put p n (Leaf b) below
    go (Leaf c) d = changed_leaf put p c b b.value below refl d.0 d.1
    go (Fork' k i l r re u le lo) d = absurd d
    go Taken d = absurd d

-- nothing changed below a gap
pub none_below : (put : Bool) (p : Pair) (n m : Node) (below : Changed) → m ≡ Taken → ¬ HasChangedBelow put p n m below
none_below put p n m below e d = go n (subst (λ z. HasChangedBelow put p n z below) e d)
  where
    go : (n : Node) → ¬ HasChangedBelow put p n Taken below
    go (Leaf c) d = d
    go (Fork' k i l r re u le lo) d = d
    go Taken d = d

-- the half of a fork into which another one was put is that one
pub half_with : (left : Bool) (f : Below) (k : Node) → half_of left (with_half left f k) ≡ k
half_with true f k = refl
half_with false f k = refl

-- and the other one stays
pub other_half : (left : Bool) (f : Below) (k : Node) → half_of (not left) (with_half left f k) ≡ cond left f.right f.left
other_half true f k = refl
other_half false f k = refl

-- of two nodes put into one half after the other the second one stays
pub with_again : (left : Bool) (f : Below) (k m : Node) → with_half left (with_half left f k) m ≡ with_half left f m
with_again true f k m = refl
with_again false f k m = refl

-- so a fork of which the half was taken out, and m put in, is the fork with m there
pub put_back : (left : Bool) (f g d : Below) (k m : Node) → d ≡ with_half left f k → f ≡ g → with_half left d m ≡ with_half left g m
put_back left f g d k m v e = ap (λ z. with_half left z m) v ∙ with_again left f k m ∙ ap (λ z. with_half left z m) e

-- the half is lower than the fork
pub half_lower : (left : Bool) (m : Node) (h : ℕ) (b : Box Below _) → m ≡ Fork h b → node_height (half_of left b.value) + 1 ≤ node_height m
half_lower true m h b e = let s = ap node_height e in omega (arith, s)
half_lower false m h b e = let s = ap node_height e in omega (arith, s)

-- ---- a fork whose half, below which a bucket changed, was renewed

-- m is the fork b, opened at the half to which p belongs, if the node that it was could be changed
pub opened_below : (left put : Bool) (p : Pair) (n m : Node) (h : ℕ) (b : Box Below _) (below : Changed) → m ≡ Fork h b
    → BelongsTo left p b.value.right_ends.first → IsChangeable put n → HasChangedBelow put p n m below
    → IsOpened left put p n h b.value below
opened_below left put p n m h b below e here c d =
    opened left put p n h b below c.built here (subst (λ z. HasChangedBelow put p n z below) e d)

-- m is the fork b, and g is this fork with k in the place of the half to which p belongs, which has become k
pub record IsHalfRenewed (left put : Bool) (p : Pair) (m : Node) (h : ℕ) (b : Box Below _) (g : Below) (k : Node) (below above : Changed)
    : Type 0 where
  pub fork : m ≡ Fork h b
  pub here : BelongsTo left p b.value.right_ends.first
  pub value : g ≡ with_half left b.value k
  pub becomes : (x : Node) → IsChangeable put x → HasChangedBelow put p x (half_of left b.value) below → HasChanged put p x k above

module _ {left put : Bool} {p : Pair} {m : Node} {h : ℕ} {b : Box Below _} {g : Below} {k : Node} {below above : Changed}
    (r : IsHalfRenewed left put p m h b g k below above) (n : Node) (c : IsChangeable put n) (d : HasChangedBelow put p n m below) where
  o : IsOpened left put p n h b.value below
  o = opened_below left put p n m h b below r.fork r.here c d

  half : HasChanged put p (half_of left o.old) k above
  half = r.becomes (half_of left o.old) (changeable_half left put p n h o.old o.at c) o.changed

  value : g ≡ with_half left o.old k
  value = r.value ∙ ap (λ z. with_half left z k) o.value ∙ with_again left o.old (half_of left b.value) k

  -- it is to be renewed
  pub renewable : (change : Change) → change ≡ change_of left put → IsToRenew left change p above g
  renewable change is = to_renew left put change p n h o.old g k above o.at half c.few c.low value is

  -- and renewed it has changed
  pub renewed : (a : Box Below _) (last : Changed) → IsRenewedAfter p above g a.value last → HasChanged put p n (Fork h a) last
  renewed a last s = changed_with left put p n h o.old g k above last a o.at half c.few c.low value s
