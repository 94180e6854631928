-- Formats of fields: what is read is spelled by these fields, what is spelled is read, and each spelling consists of
-- fields.
use Rattle.std.proofs.Common.{◌≡◌, List, [], ◌∷◌, ◌++◌, Option, Some, None, Result, Ok, Err, true, refl, sym, ap, subst}
use Rattle.std.proofs.Common.{◌∙◌, append_assoc}
use Rattle.std.proofs.lemmas.List.{append-nil}
use Rattle.hull_text.specs.declared.fault.FaultKind.{FaultKind}
use Rattle.hull_text.specs.declared.fault.FaultKind.TheVariants.{Word}
use Rattle.hull_text.specs.Field.{◌>>=◌, Field, field_at}
use Rattle.hull_text.specs.Words.{word_in}
use Rattle.hull_text.proofs.Binds.{bind_ok, ok_is, word_takes}
use Rattle.hull_text.proofs.Joined.{is_field, are_fields, fields_append}

-- reading a value from fields, with the fields after it as the rest
abbrev Reading : Type 0 → Type 0
Reading A = List Field → Result (A × List Field) FaultKind

-- A format: which values fit, how each is spelled, how fields are read, and that spelling and reading are inverse.
pub record Format {A : Type 0} (Fits : A → Type 0) (spelled : A → List Field) (read : Reading A) : Type 0 where
  pub takes : (fs : List Field) (x : A × List Field) → read fs ≡ Ok x → (fs ≡ spelled x.0 ++ x.1) × Fits x.0
  pub again : (x : A) (rest : List Field) → Fits x → read (spelled x ++ rest) ≡ Ok (x, rest)
  pub fields : (x : A) → Fits x → are_fields (spelled x) ≡ true

-- One field that spells a value is a format.
pub one : {A : Type 0} (Fits : A → Type 0) (text : A → Field) (says : Field → Result A FaultKind)
    → ((f : Field) (x : A) → says f ≡ Ok x → (f ≡ text x) × Fits x)
    → ((x : A) → Fits x → (says (text x) ≡ Ok x) × (is_field (text x) ≡ true))
    → Format Fits (λ x. text x ∷ []) (field_at says)
one {A = A} Fits text says said spell = record {
  takes = taken;
  again = λ x rest fits. rw (spell x fits).0 refl;
  fields = λ x fits. rw (spell x fits).1 refl;
}
  where
    taken : (fs : List Field) (x : A × List Field) → field_at says fs ≡ Ok x → (fs ≡ text x.0 ∷ x.1) × Fits x.0
    taken [] x e = absurd cc
    taken (f ∷ fs) x e =
        let b = bind_ok (says f) (λ y. Ok (y, fs)) x e in
        let s = said f b.0 b.1 in
        subst (λ (y : A × List Field). (f ∷ fs ≡ text y.0 ∷ y.1) × Fits y.0) (ok_is (b.0, fs) x b.2)
        (ap (λ (g : Field). g ∷ fs) s.0, s.1)

module _ {A : Type 0} {Fits : A → Type 0} {spelled : A → List Field} {read : Reading A} (format : Format Fits spelled read) where
  -- A spelled value is read, with nothing left after it.
  pub alone : (x : A) → Fits x → read (spelled x) ≡ Ok (x, [])
  alone x fits = ap read (sym (append-nil (spelled x))) ∙ format.again x [] fits

  -- A value that was read after a word is spelled after it.
  pub behind : {V : Type 0} (FitsToo : V → Type 0) (fields : V → List Field) (w : Field) (make : A → V)
      → ((x : A) → Fits x → (fields (make x) ≡ w ∷ spelled x) × FitsToo (make x)) → (fs : List Field) (y : V × List Field)
      → (read fs >>= λ x. Ok (make x.0, x.1)) ≡ Ok y → (w ∷ fs ≡ fields y.0 ++ y.1) × FitsToo y.0
  behind {V = V} FitsToo fields w make fit fs y e =
      let b = bind_ok (read fs) (λ x. Ok (make x.0, x.1)) y e in
      let t = format.takes fs b.0 b.1 in
      let s = fit b.0.0 t.1 in
      subst (λ (z : V × List Field). (w ∷ fs ≡ fields z.0 ++ z.1) × FitsToo z.0) (ok_is (make b.0.0, b.0.1) y b.2) (
        ap (λ (h : List Field). w ∷ h) t.0 ∙ ap (λ (h : List Field). h ++ b.0.1) (sym s.0),
        s.1,
      )

  -- Two formats, one after the other, are one of values with two parts.
  pub both : {B C : Type 0} {FitsB : B → Type 0} {spelledB : B → List Field} {readB : Reading B}
      → Format FitsB spelledB readB → (make : A → B → C) (left : C → A) (right : C → B)
      → ((c : C) → make (left c) (right c) ≡ c) → ((a : A) (b : B) → (left (make a b) ≡ a) × (right (make a b) ≡ b))
      → Format (λ c. Fits (left c) × FitsB (right c)) (λ c. spelled (left c) ++ spelledB (right c))
      (λ fs. read fs >>= λ a. readB a.1 >>= λ b. Ok (make a.0 b.0, b.1))
  both {B = B} {C = C} {FitsB = FitsB} {spelledB = spelledB} {readB = readB} second make left right whole parts = record {
    takes = λ fs x e.
        let a = bind_ok (read fs) (λ a. readB a.1 >>= λ b. Ok (make a.0 b.0, b.1)) x e in
        let b = bind_ok (readB a.0.1) (λ b. Ok (make a.0.0 b.0, b.1)) x a.2 in
        let s = format.takes fs a.0 a.1 in
        let t = second.takes a.0.1 b.0 b.1 in
        let p = parts a.0.0 b.0.0 in
        subst (λ (y : C × List Field).
        (fs ≡ (spelled (left y.0) ++ spelledB (right y.0)) ++ y.1) × (Fits (left y.0) × FitsB (right y.0)))
        (ok_is (make a.0.0 b.0.0, b.0.1) x b.2) (rw (p.0, p.1) (
          s.0 ∙ ap (λ (h : List Field). spelled a.0.0 ++ h) t.0
              ∙ sym (append_assoc (spelled a.0.0) (spelledB b.0.0) b.0.1),
          (s.1, t.1),
        ));
    again = λ c rest fits.
        rw (
          append_assoc (spelled (left c)) (spelledB (right c)) rest,
          format.again (left c) (spelledB (right c) ++ rest) fits.0,
          second.again (right c) rest fits.1,
          whole c,
        ) refl;
    fields = λ c fits.
        fields_append (spelled (left c)) (spelledB (right c)) (format.fields (left c) fits.0)
        (second.fields (right c) fits.1);
  }

-- A value that was read by its word is spelled by these fields, if this is so for each word.
pub worded : {W V : Type 0} (text : W → Field) (words : List W) (after : Option W → Reading V) (f : Field)
    (fs : List Field) (y : V × List Field) (P : Field → Type 0) → after None fs ≡ Err Word
    → ((w : W) → after (Some w) fs ≡ Ok y → P (text w)) → after (word_in text words f) fs ≡ Ok y → P f
worded {W = W} text words after f fs y P none some e = found (word_in text words f) refl
  where
    found : (o : Option W) → word_in text words f ≡ o → P f
    found None same = absurd (cc (none, rw same at e))
    found (Some w) same = subst P (sym (word_takes text words f w same)) (some w (rw same at e))
