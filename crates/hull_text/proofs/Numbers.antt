-- A field spells a number exactly if it is the number's decimal text.
use Rattle.std.proofs.lemmas.Grind.{common_steps}
use Rattle.std.proofs.Common.{◌≡◌, ◌<◌, ◌≤◌, ◌+◌, ◌-◌, ◌*◌, ◌/◌, ◌%◌, ◌^◌, ℕ, zero, suc, List, [], ◌∷◌, length, get_or}
use Rattle.std.proofs.Common.{take, ◌++◌, Option, Some, None, Bool, true, false, cond, decimal, refl, sym, ap, subst}
use Rattle.std.proofs.Common.{◌∙◌, arith, ◌⊎◌}
use Rattle.std.specs.Prelude.{◌==◌}
use Rattle.std.proofs.lemmas.List.{append-nil, append_assoc}
use Rattle.std.proofs.lemmas.Bool.{ne_eqb, cases_lt}
use Rattle.std.proofs.lemmas.Bool.Decides.{nat_tests}
use Rattle.std.proofs.lemmas.Fmt.{decimal_digit, decimal_step_wide, decimal_by_steps_wide}
use Rattle.hull_text.specs.Number.{is_digit, digits_after, number_of}

-- a value that passed a guard
pub guard_some : {A : Type 0} (b : Bool) (x : Option A) (y : A) → cond b x None ≡ Some y → (b ≡ true) × (x ≡ Some y)
guard_some true x y e = (refl, e)
guard_some false x y e = absurd cc

-- a value that passed the opposite of a guard
pub guard_not : {A : Type 0} (b : Bool) (x : Option A) (y : A) → cond b None x ≡ Some y → (b ≡ false) × (x ≡ Some y)
guard_not true x y e = absurd cc
guard_not false x y e = (refl, e)

-- a digit is a byte from 48 to 57
pub digit_low : (b : ℕ) → is_digit b ≡ true → (48 ≤ b) × (b ≤ 57)
digit_low b e = grind (arith, nat_tests)

-- a byte from 48 to 57 is a digit
digit_is : (b : ℕ) → 48 ≤ b → b ≤ 57 → is_digit b ≡ true
digit_is b l h = grind (arith, nat_tests)

-- more digits, no smaller number
digits_grow : (cs : List ℕ) (m n : ℕ) → digits_after m cs ≡ Some n → m ≤ n
unfolding digits_after
digits_grow [] m n e =
    let same : m ≡ n = cc in
    omega (arith, same)
digits_grow (c ∷ cs) m n e =
    let g = guard_some (is_digit c) (digits_after (m * 10 + (c - 48)) cs) n e in
    omega (arith, digits_grow cs (m * 10 + (c - 48)) n g.1)

-- one more digit at the end of a decimal spelling
next_decimal : (m c : ℕ) → 1 ≤ m → 48 ≤ c → c ≤ 57 → m * 10 + (c - 48) < 10 ^ 64
    → decimal (m * 10 + (c - 48)) ≡ decimal m ++ (c ∷ [])
next_decimal m c some low high small =
    let step = decimal_step_wide (m * 10 + (c - 48)) (omega arith) small in
    let front : (m * 10 + (c - 48)) / 10 ≡ m = omega arith in
    let last : 48 + (m * 10 + (c - 48)) % 10 ≡ c = omega arith in
    step ∙ rw (front, last) refl

-- digits that were read after a number spell it together
digits_text : (cs : List ℕ) (m n : ℕ) → 1 ≤ m → n < 10 ^ 64 → digits_after m cs ≡ Some n → decimal n ≡ decimal m ++ cs
unfolding digits_after
digits_text [] m n some small e =
    let same : m ≡ n = cc in
    rw (← same) (sym (append-nil (decimal m)))
digits_text (c ∷ cs) m n some small e =
    let g = guard_some (is_digit c) (digits_after (m * 10 + (c - 48)) cs) n e in
    let d = digit_low c g.0 in
    let le = digits_grow cs (m * 10 + (c - 48)) n g.1 in
    digits_text cs (m * 10 + (c - 48)) n (omega arith) small g.1
    ∙ rw (next_decimal m c some d.0 d.1 (omega arith)) (append_assoc (decimal m) (c ∷ []) cs)

-- a number of one digit
one_digit : (b : ℕ) → 48 ≤ b → b ≤ 57 → decimal (b - 48) ≡ b ∷ []
one_digit b low high = grind (arith, common_steps, decimal_digit)

-- a field that was read as a number is its decimal spelling
pub number_text : (f : List ℕ) (n : ℕ) → n < 10 ^ 64 → number_of f ≡ Some n → f ≡ decimal n
unfolding number_of digits_after
number_text [] n small e = absurd cc
number_text (b ∷ []) n small e =
    let g = guard_some (is_digit b) (Some (0 * 10 + (b - 48))) n e in
    let d = digit_low b g.0 in
    let value : 0 * 10 + (b - 48) ≡ n = cc in
    let same : b - 48 ≡ n = omega (arith, value) in
    sym (one_digit b d.0 d.1) ∙ ap decimal same
number_text (b ∷ c ∷ bs) n small e =
    let h = guard_not (b == 48) (digits_after 0 (b ∷ c ∷ bs)) n e in
    let g = guard_some (is_digit b) (digits_after (0 * 10 + (b - 48)) (c ∷ bs)) n h.1 in
    let d = digit_low b g.0 in
    let ne : b ≡ 48 → ⊥ = λ same. not_zero b h.0 same in
    let first : 0 * 10 + (b - 48) ≡ b - 48 = omega arith in
    let rest : digits_after (b - 48) (c ∷ bs) ≡ Some n =
    subst (λ (m : ℕ). digits_after m (c ∷ bs) ≡ Some n) first g.1 in
    sym (digits_text (c ∷ bs) (b - 48) n (omega (arith, ne)) small rest ∙ rw (one_digit b d.0 d.1) refl)
  where
    not_zero : (b : ℕ) → (b == 48) ≡ false → b ≡ 48 → ⊥
    not_zero b e same =
        let bad : (48 == 48) ≡ false = subst (λ (x : ℕ). (x == 48) ≡ false) same e in
        cc

record IsSpelled (n : ℕ) (ds : List ℕ) : Type 0 where
  first : ℕ
  rest : List ℕ
  is : ds ≡ first ∷ rest
  digits : digits_after 0 ds ≡ Some n
  head : 1 ≤ n → (first == 48) ≡ false
  short : n < 10 → rest ≡ []

-- one more digit is read
digits_more : (ds : List ℕ) (m k x : ℕ) → is_digit x ≡ true → digits_after m ds ≡ Some k
    → digits_after m (ds ++ x ∷ []) ≡ Some (k * 10 + (x - 48))
unfolding digits_after
digits_more [] m k x d e =
    let same : m ≡ k = cc in
    rw (d, same) refl
digits_more (c ∷ cs) m k x d e =
    let g = guard_some (is_digit c) (digits_after (m * 10 + (c - 48)) cs) k e in
    rw g.0 (digits_more cs (m * 10 + (c - 48)) k x d g.1)

-- One byte more of a text is read as a digit.
pub digits_next : (text : List ℕ) (i m v : ℕ) → i < length text → 48 ≤ get_or text i 0 → get_or text i 0 ≤ 57
    → digits_after m (take i text) ≡ Some v
    → digits_after m (take (suc i) text) ≡ Some (v * 10 + (get_or text i 0 - 48))
unfolding digits_after
digits_next [] i m v lt low high e = absurd (omega arith)
digits_next (b ∷ bs) zero m v lt low high e =
    let same : m ≡ v = cc in
    rw (digit_is b low high, same) refl
digits_next (b ∷ bs) (suc i) m v lt low high e =
    let g = guard_some (is_digit b) (digits_after (m * 10 + (b - 48)) (take i bs)) v e in
    rw g.0 (digits_next bs i (m * 10 + (b - 48)) v (omega arith) low high g.1)

-- one digit spells a number below ten
spelled_one : (n : ℕ) → n < 10 → IsSpelled n ((48 + n) ∷ [])
unfolding digits_after
spelled_one n lt = grind (arith, common_steps, is_digit, true, digit_is, ne_eqb)

-- a digit more spells a number from ten on
spelled_more : (n : ℕ) (ds : List ℕ) → 10 ≤ n → IsSpelled (n / 10) ds → IsSpelled n (ds ++ ((48 + n % 10) ∷ []))
spelled_more n ds le s = grind (arith, common_steps, is_digit, true, digit_is, digits_more)

-- digits without a leading zero are a number
is_number : (n first : ℕ) (rest : List ℕ) → digits_after 0 (first ∷ rest) ≡ Some n → (1 ≤ n → (first == 48) ≡ false)
    → (n < 10 → rest ≡ []) → number_of (first ∷ rest) ≡ Some n
unfolding number_of
is_number n first [] e head short = e
is_number n first (c ∷ cs) e head short = grind (arith, common_steps, small_or_not)
  where
    small_or_not : (n : ℕ) → (n < 10) ⊎ (10 ≤ n)
    small_or_not n = cases_lt n 10

-- a decimal spelling is read as its number
pub text_number : (n : ℕ) → n < 10 ^ 64 → number_of (decimal n) ≡ Some n
text_number n small =
    let s = decimal_by_steps_wide IsSpelled spelled_one spelled_more n small in
    rw s.is (is_number n s.first s.rest (rw s.is at s.digits) s.head s.short)
