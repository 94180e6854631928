-- Writing pieces one after the other.
use Rattle.std.proofs.Common.{◌≡◌, ◌++◌, ◌∙◌, ℕ, List, [], Option, Result, Ok, Err, OnOk, IsOk, sym, ap, subst, refl}
use Rattle.std.proofs.Common.{append_assoc}
use Rattle.std.proofs.lemmas.List.{append-nil}
use Rattle.std.proofs.KnownBytes.{Appends-nil}
use Rattle.text_io.specs.Write.{WritesAfter, WritesText}

-- One piece after another is both.
infixl 10 ◌▸◌
pub ◌▸◌ : {S E : Type 0} {contents : S → Option (List ℕ)} {failed : S → ℕ} {d e f : Result Unit E} {a b c : S}
    {t u : List ℕ} → WritesAfter contents failed d e a b t → WritesAfter contents failed e f b c u
    → WritesAfter contents failed d f a c (t ++ u)
◌▸◌ {contents = contents} {failed = failed} {d = d} {e = e} {f = f} {a = a} {b = b} {c = c} {t = t} {u = u} first second =
    record {
      wrote = λ start count text h. subst (λ (w : List ℕ). WritesText start (contents c) count (failed c) f w)
          (append_assoc text t u) (second.wrote start count (text ++ t) (first.wrote start count text h));
      kept = kept_then e f _ _ _ first.kept second.kept second.was;
      was = was_then d e f first.was second.was;
    }
  where
    kept_then : {E : Type 0} (d e : Result Unit E) (l m n : ℕ) → OnOk d (m ≡ l) → OnOk e (n ≡ m) → OnOk e (IsOk d)
        → OnOk e (n ≡ l)
    kept_then (Ok x) (Ok y) l m n p q w = q ∙ p
    kept_then (Err x) (Ok y) l m n p q w = absurd (cc w)
    kept_then d (Err y) l m n p q w = tt

    was_then : {E : Type 0} (f d e : Result Unit E) → OnOk d (IsOk f) → OnOk e (IsOk d) → OnOk e (IsOk f)
    was_then f (Ok x) (Ok y) p w = p
    was_then f (Err x) (Ok y) p w = absurd (cc w)
    was_then f d (Err y) p w = tt

-- The text that is written is replaced by an equal one.
pub writes_same : {S E : Type 0} {contents : S → Option (List ℕ)} {failed : S → ℕ} {d e : Result Unit E} {a b : S}
    {t u : List ℕ} → t ≡ u → WritesAfter contents failed d e a b t → WritesAfter contents failed d e a b u
writes_same {contents = contents} {failed = failed} {d = d} {e = e} {a = a} {b = b} same h =
    subst (λ (w : List ℕ). WritesAfter contents failed d e a b w) same h

-- Nothing was written.
pub writes_nothing : {S E : Type 0} (contents : S → Option (List ℕ)) (failed : S → ℕ) (d : Result Unit E) (a : S)
    → WritesAfter contents failed d d a a []
writes_nothing contents failed d a = record {
  wrote = λ start count text h.
      subst (λ (w : List ℕ). WritesText start (contents a) count (failed a) d w) (sym (append-nil text)) h;
  kept = same d (failed a);
  was = itself d;
}
  where
    same : {E : Type 0} (r : Result Unit E) (l : ℕ) → OnOk r (l ≡ l)
    same (Ok x) l = refl
    same (Err e) l = tt

    itself : {E : Type 0} (r : Result Unit E) → OnOk r (IsOk r)
    itself (Ok x) = refl
    itself (Err e) = tt

-- A text that was written after nothing is all that was written.
pub written : {S E : Type 0} {contents : S → Option (List ℕ)} {failed : S → ℕ} {e : Result Unit E} {a b : S} {t : List ℕ}
    → WritesAfter contents failed (Ok tt) e a b t → WritesText (contents a) (contents b) (failed a) (failed b) e t
written {contents = contents} {failed = failed} {a = a} h =
    h.wrote (contents a) (failed a) [] (Appends-nil (contents a), refl)

-- A flush after a text leaves the text unchanged.
pub written_whole : {S E : Type 0} {contents : S → Option (List ℕ)} {failed : S → ℕ} {d e : Result Unit E} {a b c : S}
    {t : List ℕ} → WritesAfter contents failed (Ok tt) d a b t → WritesAfter contents failed d e b c []
    → WritesText (contents a) (contents c) (failed a) (failed c) e t
written_whole {t = t} h flushed = written (writes_same (append-nil t) (h ▸ flushed))

-- The text that a loop over pieces has written so far, and what is left of it.
pub record Chained {S E : Type 0} (contents : S → Option (List ℕ)) (failed : S → ℕ) (first now : Result Unit E) (a b : S)
    (all left : List ℕ) : Type 0 where
  pub text : List ℕ
  pub whole : text ++ left ≡ all
  pub written : WritesAfter contents failed first now a b text

-- Nothing was written.
pub chained_start : {S E : Type 0} (contents : S → Option (List ℕ)) (failed : S → ℕ) (first : Result Unit E) (a : S)
    (all left : List ℕ) → left ≡ all → Chained contents failed first first a a all left
chained_start contents failed first a all left e =
    record { text = []; whole = e; written = writes_nothing contents failed first a }

-- A piece more was written.
pub chained_more : {S E : Type 0} {contents : S → Option (List ℕ)} {failed : S → ℕ} {first now next : Result Unit E}
    {a b c : S} {all left piece rest : List ℕ} → Chained contents failed first now a b all left → left ≡ piece ++ rest
    → WritesAfter contents failed now next b c piece → Chained contents failed first next a c all rest
chained_more {piece = piece} {rest = rest} h e more = record {
  text = h.text ++ piece;
  whole = append_assoc h.text piece rest ∙ ap (λ (t : List ℕ). h.text ++ t) (sym e) ∙ h.whole;
  written = h.written ▸ more;
}

-- The rest of the text is replaced by an equal one.
pub chained_same : {S E : Type 0} {contents : S → Option (List ℕ)} {failed : S → ℕ} {first now : Result Unit E} {a b : S}
    {all left other : List ℕ} → Chained contents failed first now a b all left → left ≡ other
    → Chained contents failed first now a b all other
chained_same h e = record { text = h.text; whole = ap (λ (t : List ℕ). h.text ++ t) (sym e) ∙ h.whole; written = h.written }

-- All was written.
pub chained_end : {S E : Type 0} (contents : S → Option (List ℕ)) (failed : S → ℕ) (first now : Result Unit E) (a b : S)
    (all left : List ℕ) → Chained contents failed first now a b all left → left ≡ []
    → WritesAfter contents failed first now a b all
chained_end contents failed first now a b all left h e =
    writes_same (sym (append-nil h.text) ∙ ap (λ (w : List ℕ). h.text ++ w) (sym e) ∙ h.whole) h.written
