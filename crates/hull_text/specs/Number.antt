-- Numbers as fields spell them.
use Rattle.std.specs.Prelude.{◌≡◌, ℕ, ℤ, zero, suc, pos, negsuc, ◌+◌, ◌-◌, ◌*◌, ◌≤◌, List, [], ◌∷◌, Option, Some, None}
use Rattle.std.specs.Prelude.{◌==◌, ◌&&◌, nat_le, Bool, if◌then◌else◌}

-- a digit, from 0 to 9
abbrev pub is_digit : ℕ → Bool
is_digit b = nat_le 48 b && nat_le b 57

-- the number that digits spell after those of n; none if a byte is no digit
unfoldable pub digits_after : ℕ → List ℕ → Option ℕ
digits_after n [] = Some n
digits_after n (b ∷ bs) = if is_digit b then digits_after (n * 10 + (b - 48)) bs else None

-- the unsigned number that a field spells: 0, or digits that don't begin with 0
unfoldable pub number_of : List ℕ → Option ℕ
number_of [] = None
number_of (b ∷ []) = digits_after 0 (b ∷ [])
number_of (b ∷ c ∷ bs) = if b == 48 then None else digits_after 0 (b ∷ c ∷ bs)

-- after a minus: a number other than 0
abbrev pub negated : Option ℕ → Option ℤ
negated None = None
negated (Some zero) = None
negated (Some (suc n)) = Some (negsuc n)

-- without a minus
abbrev pub positive : Option ℕ → Option ℤ
positive None = None
positive (Some n) = Some (pos n)

-- the signed number that a field spells
unfoldable pub signed_of : List ℕ → Option ℤ
signed_of [] = None
signed_of (b ∷ bs) = if b == 45 then negated (number_of bs) else positive (number_of (b ∷ bs))

-- a value below this bound is the number; else the number is no smaller than the bound
abbrev pub Returns : ℕ → Option ℕ → ℕ → Type 0
Returns bound None n = bound ≤ n
Returns bound (Some v) n = n ≡ v
