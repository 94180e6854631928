-- A run of a walk while it is listed.
use Rattle.std.proofs.Common.{◌≡◌, ◌∙◌, inl, inr, refl, sym, ap, subst, List, [], ◌∷◌, ◌++◌, append-nil, append_assoc}
use Rattle.std.specs.List.{Contains}
use Rattle.std.proofs.lemmas.List.Elements.{Contains-append_cases, Contains-append_right}
use Rattle.lattice.specs.Plane.{Pair}
use Rattle.hull_geometry.specs.Edges.{end_of}
use Rattle.hull_geometry.proofs.PointLists.{later, only_member}
use Rattle.hull_geometry.proofs.VertexLists.{end_push}
use Rattle.bucket_tree.specs.Runs.{IsAhead, IsInOrder, IsRunTo}

-- from `from` on the walk has passed some points, the last of which is `last`; `from` and these, without the last, were appended
pub record IsOnRun (walk : List Pair) (from : Pair) (before rest : List Pair) (last : Pair) (now : List Pair) : Type 0 where
  pub passed : List Pair
  pub listed : List Pair
  pub walked : walk ≡ passed ++ rest
  pub ends : end_of from passed ≡ last
  pub appended : now ≡ before ++ listed
  pub follows : listed ++ last ∷ [] ≡ from ∷ passed

-- at first none is passed
pub begun : (walk : List Pair) (from : Pair) (before : List Pair) → IsOnRun walk from before walk from before
begun walk from before = record {
  passed = [];
  listed = [];
  walked = refl;
  ends = refl;
  appended = sym (append-nil before);
  follows = refl;
}

-- the last is appended, and the next passed
pub goes_on : {walk : List Pair} {from : Pair} {before rest : List Pair} {last : Pair} {now : List Pair}
    → IsOnRun walk from before rest last now → (p : Pair) (left after : List Pair) → rest ≡ p ∷ left
    → after ≡ now ++ last ∷ [] → IsOnRun walk from before left p after
goes_on {walk} {from} {before} {rest} {last} {now} r p left after e f = record {
  passed = r.passed ++ p ∷ [];
  listed = r.listed ++ last ∷ [];
  walked = r.walked ∙ ap (λ (z : List Pair). r.passed ++ z) e ∙ sym (append_assoc r.passed (p ∷ []) left);
  ends = end_push from r.passed p;
  appended = f ∙ ap (λ (z : List Pair). z ++ last ∷ []) r.appended ∙ append_assoc before r.listed (last ∷ []);
  follows = ap (λ (z : List Pair). z ++ p ∷ []) r.follows;
}

-- when the last is `to`, the run is listed
pub ended : {walk : List Pair} {from : Pair} {before rest : List Pair} {last : Pair} {now : List Pair} (to : Pair)
    → IsOnRun walk from before rest last now → last ≡ to → IsRunTo walk from to before now
ended {walk} {from} {before} {rest} {last} {now} to r e = (
  r.passed,
  rest,
  r.walked,
  r.ends ∙ e,
  ap (λ (p : Pair). now ++ p ∷ []) (sym e) ∙ ap (λ (z : List Pair). z ++ last ∷ []) r.appended
      ∙ append_assoc before r.listed (last ∷ []) ∙ ap (λ (z : List Pair). before ++ z) r.follows,
)

-- if `to` comes later, and is not the last, it is the next or comes later yet
pub still_ahead : (rest : List Pair) (last to next : Pair) (left : List Pair) → IsAhead rest last to → ¬ (last ≡ to) → rest ≡ next ∷ left
    → IsAhead left next to
still_ahead rest last to next left (inl e) n f = absurd (n e)
still_ahead rest last to next left (inr m) n f =
    elim (Contains-append_cases (next ∷ []) left to (subst (λ (z : List Pair). Contains z to) f m)) [
      | inl k ↦ inl (sym (only_member next to k))
      | inr k ↦ inr k
    ]

-- a walk that begins with another point than `from` has both in order after it
pub in_order_later : (walk : List Pair) (from to next : Pair) (left : List Pair) → IsInOrder walk from to → walk ≡ next ∷ left → ¬ (next ≡ from)
    → IsInOrder left from to
in_order_later walk from to next left ([], rest, e, a) f n = let k : next ∷ left ≡ from ∷ rest = sym f ∙ e in absurd (n (cc))
in_order_later walk from to next left (x ∷ xs, rest, e, a) f n =
    let k : next ∷ left ≡ x ∷ (xs ++ from ∷ rest) = sym f ∙ e in (xs, rest, cc, a)

-- one that begins with `from` has `to` after it
pub ahead_of_first : (walk : List Pair) (from to : Pair) (left : List Pair) → IsInOrder walk from to → walk ≡ from ∷ left → IsAhead left from to
ahead_of_first walk from to left ([], rest, e, a) f =
    let k : from ∷ rest ≡ from ∷ left = sym e ∙ f in
    let same : rest ≡ left = cc in subst (λ (z : List Pair). IsAhead z from to) same a
ahead_of_first walk from to left (x ∷ xs, rest, e, inl a) f = inl a
ahead_of_first walk from to left (x ∷ xs, rest, e, inr m) f =
    let k : x ∷ (xs ++ from ∷ rest) ≡ from ∷ left = sym e ∙ f in
    let same : xs ++ from ∷ rest ≡ left = cc in
    inr (subst (λ (z : List Pair). Contains z to) same (Contains-append_right xs (from ∷ rest) to (later from to rest m)))

-- a walk that has points in order is not at its end
pub has_more : (walk : List Pair) (from to : Pair) → IsInOrder walk from to → ¬ (walk ≡ [])
has_more walk from to ([], rest, e, a) f = absurd (cc)
has_more walk from to (x ∷ xs, rest, e, a) f = absurd (cc)
