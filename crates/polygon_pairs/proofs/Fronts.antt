-- Pairs that are written to the front of an array, as many as it takes.
use Rattle.std.proofs.Common.{◌≡◌, ◌∙◌, ℕ, ◌+◌, ◌<◌, ◌≤◌, List, [], ◌∷◌, ◌++◌, length, get_or, suc, take, drop, set, sym, ap, subst, arith}
use Rattle.std.proofs.lemmas.List.{append_assoc, append-nil, length-append, length-drop, length-take, take-append-le, take_all}
use Rattle.std.proofs.Math.ListN.{drop_of_length-le}
use Rattle.std.proofs.Math.Seq.{drop-cons, set-append_seam}
use Rattle.polygon_pairs.specs.Sweeps.{Adds, AreAtFront}
use Rattle.polygon_pairs.specs.declared.pair.HullPair.{HullPair}

-- nothing more
pub adds_none : (out : List HullPair) (count : ℕ) → Adds [] out count out count
adds_none out count = record {
  counted = omega arith;
  written = λ first found e h. subst (λ (z : List HullPair). AreAtFront first z out) (sym (append-nil found)) h;
}

-- some pairs, and then some more
pub adds_both : (xs ys a b c : List HullPair) (k l m : ℕ) → Adds xs a k b l → Adds ys b l c m → Adds (xs ++ ys) a k c m
adds_both xs ys a b c k l m h g = record {
  counted = omega (arith, h.counted, g.counted, length-append xs ys);
  written = λ first found e at.
      subst (λ (z : List HullPair). AreAtFront first z c) (append_assoc found xs ys)
      (g.written first (found ++ xs) (omega (arith, h.counted, e, length-append found xs)) (h.written first found e at));
}

-- an array has as many elements as before
same_length : (first found out : List HullPair) → AreAtFront first found out → length out ≡ length first
same_length first found out e =
    omega (
      arith,
      ap (λ (z : List HullPair). length z) e,
      length-append (take (length first) found) (drop (length found) first),
      length-take (length first) found,
      length-drop (length found) first,
    )

-- a pair that is written after those at the front is at the front, too
front_written : (first found out : List HullPair) (p : HullPair) → length found < length first → AreAtFront first found out
    → AreAtFront first (found ++ p ∷ []) (set out (length found) p)
front_written first found out p l e =
    ap (λ (z : List HullPair). set z c p)
    (e ∙ ap (λ (z : List HullPair). z ++ drop c first) (take_all n found (omega (arith, l)))
    ∙ ap (λ (z : List HullPair). found ++ z) (drop-cons first c p l))
    ∙ set-append_seam found (get_or first c p) (drop (suc c) first) p
    ∙ sym (append_assoc found (p ∷ []) (drop (suc c) first))
    ∙ ap (λ (z : List HullPair). z ++ drop (suc c) first) (sym (take_all n (found ++ p ∷ []) (omega (arith, l, long))))
    ∙ ap (λ (k : ℕ). take n (found ++ p ∷ []) ++ drop k first) after
  where
    c : ℕ
    c = length found

    n : ℕ
    n = length first

    long : length (found ++ p ∷ []) ≡ c + 1
    long = omega (arith, length-append found (p ∷ []))

    after : suc c ≡ length (found ++ p ∷ [])
    after = omega (arith, long)

-- a pair for which there is no space changes nothing
front_full : (first found out : List HullPair) (p : HullPair) → length first ≤ length found → AreAtFront first found out
    → AreAtFront first (found ++ p ∷ []) out
front_full first found out p l e =
    e ∙ ap (λ (z : List HullPair). z ++ drop (length found) first) (sym (take-append-le (length first) found (p ∷ []) l))
    ∙ ap (λ (z : List HullPair). take (length first) (found ++ p ∷ []) ++ z)
    (drop_of_length-le first l ∙ sym (drop_of_length-le first {i = length (found ++ p ∷ [])}
    (omega (arith, l, length-append found (p ∷ [])))))

-- one more pair, if there is space
pub adds_written : (out : List HullPair) (count : ℕ) (p : HullPair) → count < length out
    → Adds (p ∷ []) out count (set out count p) (count + 1)
adds_written out count p l = record {
  counted = omega arith;
  written = λ first found e at.
      subst (λ (k : ℕ). AreAtFront first (found ++ p ∷ []) (set out k p)) (sym e)
      (front_written first found out p (omega (arith, l, e, same_length first found out at)) at);
}

-- or if there is none
pub adds_counted : (out : List HullPair) (count : ℕ) (p : HullPair) → length out ≤ count → Adds (p ∷ []) out count out (count + 1)
adds_counted out count p l = record {
  counted = omega arith;
  written = λ first found e at. front_full first found out p (omega (arith, l, e, same_length first found out at)) at;
}
