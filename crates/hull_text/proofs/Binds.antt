-- The steps of a reading that succeeded, and of one that failed.
use Rattle.std.proofs.Common.{◌≡◌, ◌<◌, ◌≤◌, ℕ, Bool, true, false, cond, List, [], ◌∷◌, Option, Some, Result, Ok, Err}
use Rattle.std.proofs.Common.{refl, subst, ap, arith, ◌⊎◌, inl, inr}
use Rattle.std.specs.Prelude.{nat_le, nat_lt}
use Rattle.std.specs.Str.{bytes_eq}
use Rattle.std.proofs.lemmas.Bool.Decides.{nat_tests}
use Rattle.std.proofs.lemmas.Slice.Eq.{bytes_eq-Decides}
use Rattle.hull_text.specs.Field.{◌>>=◌}
use Rattle.hull_text.specs.Words.{word_in}

-- A choice took one of its sides.
pub chosen : {A : Type 0} (b : Bool) (x y z : A) → cond b x y ≡ z → ((b ≡ true) × (x ≡ z)) ⊎ ((b ≡ false) × (y ≡ z))
chosen true x y z e = inl (refl, e)
chosen false x y z e = inr (refl, e)

-- two equal options have equal values
pub some_is : {A : Type 0} (x y : A) → Some x ≡ Some y → x ≡ y
some_is x y e = cc

-- A look-up found its first entry, or continued.
pub pick : {A : Type 0} (b : Bool) (w x : A) (rest : Option A) (P : A → Type 0) → (b ≡ true → P w)
    → (rest ≡ Some x → P x) → cond b (Some w) rest ≡ Some x → P x
pick true w x rest P here there e = subst P (some_is w x e) (here refl)
pick false w x rest P here there e = there e

-- Both steps succeeded.
pub bind_ok : {A B E : Type 0} (r : Result A E) (f : A → Result B E) (y : B) → (r >>= f) ≡ Ok y
    → (x : A) × (r ≡ Ok x) × (f x ≡ Ok y)
bind_ok (Ok x) f y e = (x, refl, e)
bind_ok (Err d) f y e = absurd cc

-- a reading that succeeded
abbrev pub done : {A E : Type 0} → A → Result A E
done x = Ok x

-- Equal readings read the same.
pub ok_is : {A E : Type 0} (x y : A) → done {E = E} x ≡ done y → x ≡ y
ok_is x y e = cc

-- a reading that failed
abbrev pub failed : {A E : Type 0} → E → Result A E
failed f = Err f

-- Equal refusals have equal faults.
pub err_is : {A E : Type 0} (f g : E) → failed {A = A} f ≡ failed g → f ≡ g
err_is f g e = cc

-- A reading that succeeded has no fault.
pub no_fault : {A E : Type 0} (x : A) (f : E) → done x ≡ failed f → ⊥
no_fault x f e = cc

-- Two steps failed: the first did, or the second.
pub bind_err : {A B E : Type 0} (r : Result A E) (f : A → Result B E) (g : E) → (r >>= f) ≡ Err g
    → (r ≡ Err g) ⊎ ((x : A) × (r ≡ Ok x) × (f x ≡ Err g))
bind_err (Ok x) f g e = inr (x, refl, e)
bind_err (Err d) f g e = inl (ap failed (err_is d g e))

-- A value made from a reading has the fault of the reading.
pub made_err : {A B E : Type 0} (make : A → B) (r : Result A E) (f : E) → (r >>= λ x. Ok (make x)) ≡ Err f → r ≡ Err f
made_err make (Ok x) f e = absurd (no_fault (make x) f e)
made_err make (Err d) f e = ap failed (err_is d f e)

-- A test was met.
pub guard_ok : {A E : Type 0} (b : Bool) (x : Result A E) (f : E) (y : A) → cond b x (Err f) ≡ Ok y
    → (b ≡ true) × (x ≡ Ok y)
guard_ok true x f y e = (refl, e)
guard_ok false x f y e = absurd cc

-- A test was not met.
pub guard_err : {A E : Type 0} (b : Bool) (x : Result A E) (f : E) (y : A) → cond b (Err f) x ≡ Ok y
    → (b ≡ false) × (x ≡ Ok y)
guard_err true x f y e = absurd cc
guard_err false x f y e = (refl, e)

-- The meaning of the tests of numbers.
pub low_le : (n m : ℕ) → nat_le n m ≡ true → n ≤ m
low_le n m t = grind (arith, nat_tests)

-- a strict test that passed
pub low_lt : (n m : ℕ) → nat_lt n m ≡ true → n < m
low_lt n m t = grind (arith, nat_tests)

-- a test of naturals that passes
pub le_test : (n m : ℕ) → n ≤ m → nat_le n m ≡ true
le_test n m le = grind (arith, nat_tests)

-- a strict test that passes
pub lt_test : (n m : ℕ) → n < m → nat_lt n m ≡ true
lt_test n m lt = grind (arith, nat_tests)

-- a test of naturals that did not pass
pub test_over : (n m : ℕ) → nat_le n m ≡ false → m < n
test_over n m t = grind (arith, nat_tests)

-- a test of naturals that does not pass
pub over_test : (n m : ℕ) → m < n → nat_le n m ≡ false
over_test n m lt = grind (arith, nat_tests)

-- Equal bytes are one word.
pub word_is : (w text : List ℕ) → bytes_eq w text ≡ true → w ≡ text
word_is w text e = (bytes_eq-Decides w text).0 e

-- A consequence of both steps having succeeded.
pub with_ok : {A B E : Type 0} (r : Result A E) (f : A → Result B E) (y : B) (P : Type 0)
    → (r >>= f) ≡ Ok y → ((x : A) → r ≡ Ok x → f x ≡ Ok y → P) → P
with_ok (Ok x) f y P e k = k x refl e
with_ok (Err d) f y P e k = absurd cc

-- The word that a field spells is the field.
pub word_takes : {W : Type 0} (text : W → List ℕ) (ws : List W) (f : List ℕ) (x : W) → word_in text ws f ≡ Some x
    → f ≡ text x
word_takes text [] f x e = absurd cc
word_takes text (w ∷ ws) f x e =
    pick (bytes_eq f (text w)) w x (word_in text ws f) (λ v. f ≡ text v) (word_is f (text w)) (word_takes text ws f x) e
