-- A field that is read is the field that was written, and a field that was written is read again.
use Rattle.std.proofs.Common.{◌≡◌, ◌<◌, ◌≤◌, ◌+◌, ◌-◌, ◌*◌, ◌^◌, ℕ, zero, suc, List, [], ◌∷◌, ◌++◌, Option, Some, None}
use Rattle.std.proofs.Common.{Bool, true, false, cond, Ok, Err, decimal, refl, ap, subst, arith, inl, inr}
use Rattle.std.specs.Prelude.{◌==◌, ◌&&◌, nat_le, nat_lt, ℤ, pos, negsuc}
use Rattle.std.specs.Fmt.{signed_decimal}
use Rattle.std.proofs.lemmas.Bool.{eqb-true, ne_eqb}
use Rattle.lattice.specs.Plane.{Pair}
use Rattle.hull_text.specs.declared.fault.FaultKind.{FaultKind}
use Rattle.hull_text.specs.declared.fault.FaultKind.TheVariants.{Number, Coordinate, Worker}
use Rattle.hull_text.specs.declared.version.Version.{Version}
use Rattle.hull_text.specs.Version.{coordinate_limit}
use Rattle.hull_text.specs.Number.{is_digit, digits_after, number_of, negated, positive, signed_of}
use Rattle.hull_text.specs.Field.{Field, field_at, coordinate_in, coordinate_at, point_at, direction_at}
use Rattle.hull_text.specs.Field.{is_zero, up_to, number_at, seat_at}
use Rattle.hull_text.specs.Spelling.{IsSized, IsPair, pair_fields, IsSomeDirection}
use Rattle.hull_text.proofs.Numbers.{guard_some, guard_not, digit_low, number_text, text_number}
use Rattle.hull_text.proofs.Versions.{limit_small}
use Rattle.hull_text.proofs.Binds.{chosen, bind_ok, ok_is, guard_ok, guard_err, low_le, low_lt, le_test, lt_test}
use Rattle.hull_text.proofs.Joined.{decimal_field, signed_field}
use Rattle.hull_text.proofs.Formats.{Format, one, both}
use Rattle.std.proofs.lemmas.Grind.{common_steps}

-- ---- signed numbers

-- a number after a minus sign is not zero
negated_some : (o : Option ℕ) (z : ℤ) → negated o ≡ Some z → (n : ℕ) × (o ≡ Some (suc n)) × (z ≡ negsuc n)
negated_some None z e = absurd cc
negated_some (Some zero) z e = absurd cc
negated_some (Some (suc n)) z e = (n, refl, cc)

-- a number without a sign
positive_some : (o : Option ℕ) (z : ℤ) → positive o ≡ Some z → (n : ℕ) × (o ≡ Some n) × (z ≡ pos n)
positive_some None z e = absurd cc
positive_some (Some n) z e = (n, refl, cc)

-- A number begins with a digit.
pub first_digit : (b : ℕ) (bs : List ℕ) (n : ℕ) → number_of (b ∷ bs) ≡ Some n → (48 ≤ b) × (b ≤ 57)
unfolding number_of digits_after
first_digit b [] n e = digit_low b (guard_some (is_digit b) (Some (0 * 10 + (b - 48))) n e).0
first_digit b (c ∷ bs) n e = grind (arith, common_steps, guard_not, digits_after, digit_low, guard_some, is_digit)

-- A field that spells a signed number is its decimal text.
signed_text : (limit : ℕ) (f : List ℕ) (z : ℤ) → limit ≤ 2 ^ 40 → IsSized limit z → signed_of f ≡ Some z
    → f ≡ signed_decimal z
unfolding signed_of
signed_text limit [] z small fits e = absurd cc
signed_text limit (b ∷ bs) z small fits e =
    elim (chosen (b == 45) (negated (number_of bs)) (positive (number_of (b ∷ bs))) (Some z) e) [
      | inl h ↦
          let g = negated_some (number_of bs) z h.1 in
          let size : IsSized limit (negsuc g.0) = subst (IsSized limit) g.2 fits in
          let minus : b ≡ 45 = eqb-true b 45 h.0 in
          rw (g.2, minus) (ap (λ (t : List ℕ). 45 ∷ t) (number_text bs (suc g.0) (omega (arith, size)) g.1))
      | inr h ↦
          let g = positive_some (number_of (b ∷ bs)) z h.1 in
          let size : IsSized limit (pos g.0) = subst (IsSized limit) g.2 fits in
          rw g.2 (number_text (b ∷ bs) g.0 (omega (arith, size)) g.1)
    ]

-- an unsigned number is a signed one
unsigned_signed : (f : List ℕ) (n : ℕ) → number_of f ≡ Some n → signed_of f ≡ Some (pos n)
unfolding signed_of number_of
unsigned_signed [] n e = absurd cc
unsigned_signed (b ∷ bs) n e = grind (arith, common_steps, first_digit, false, ne_eqb)

-- The decimal text of a signed number spells it.
text_signed : (limit : ℕ) (z : ℤ) → limit ≤ 2 ^ 40 → IsSized limit z → signed_of (signed_decimal z) ≡ Some z
unfolding signed_of
text_signed limit (pos n) small fits = unsigned_signed (decimal n) n (text_number n (omega (arith, fits)))
text_signed limit (negsuc n) small fits = rw (text_number (suc n) (omega (arith, fits))) refl

-- ---- coordinates

-- a coordinate that was accepted is within its limit
coordinate_some : (limit : ℕ) (o : Option ℤ) (z : ℤ) → coordinate_in limit o ≡ Ok z → (o ≡ Some z) × IsSized limit z
coordinate_some limit None z e = absurd cc
coordinate_some limit (Some (pos n)) z e = grind (arith, common_steps, guard_ok, nat_le, pos, ok_is, low_le)
coordinate_some limit (Some (negsuc n)) z e = grind (arith, common_steps, guard_ok, nat_lt, negsuc, ok_is, low_lt)

-- a number within the limit is accepted
in_coordinate : (limit : ℕ) (z : ℤ) → IsSized limit z → coordinate_in limit (Some z) ≡ Ok z
in_coordinate limit (pos n) fits = rw (le_test n limit fits) refl
in_coordinate limit (negsuc n) fits = rw (lt_test n limit fits) refl

-- The coordinates of a version are a format.
pub coordinates : (v : Version)
    → Format (IsSized (coordinate_limit v)) (λ z. signed_decimal z ∷ []) (coordinate_at v)
unfolding coordinate_at
coordinates v =
    one (IsSized (coordinate_limit v)) signed_decimal (λ f. coordinate_in (coordinate_limit v) (signed_of f))
    (λ f z e.
    let s = coordinate_some (coordinate_limit v) (signed_of f) z e in
    (signed_text (coordinate_limit v) f z (limit_small v) s.1 s.0, s.1))
    (λ z fits. (
      rw (text_signed (coordinate_limit v) z (limit_small v) fits, in_coordinate (coordinate_limit v) z fits) refl,
      signed_field v z fits,
    ))

-- ---- points and directions

-- The points of a version are a format.
pub points : (v : Version) → Format (IsPair v) pair_fields (point_at v)
unfolding point_at
points v = both (coordinates v) (coordinates v) (λ x y. record { x = x; y = y }) (λ p. p.x) (λ p. p.y) (λ p. refl)
    (λ x y. (refl, refl))

-- a number that passes the test for zero is zero
zero_is : (z : ℤ) → is_zero z ≡ true → z ≡ pos 0
zero_is (pos n) e = ap (λ (m : ℕ). pos m) (eqb-true n 0 e)
zero_is (negsuc n) e = absurd cc

-- a conjunction is false if both parts cannot be true
both_false : (a b : Bool) → ((a ≡ true) → (b ≡ true) → ⊥) → (a && b) ≡ false
both_false true true h = absurd (h refl refl)
both_false true false h = refl
both_false false b h = refl

-- The directions of a version are a format.
pub directions : (v : Version) → Format (IsSomeDirection v) pair_fields (direction_at v)
unfolding direction_at
directions v = record {
  takes = λ fs p e.
      let a = bind_ok (point_at v fs) (λ q. cond (is_zero q.0.x && is_zero q.0.y) (Err Coordinate) (Ok q)) p e in
      let g = guard_err (is_zero a.0.0.x && is_zero a.0.0.y) (Ok a.0) Coordinate p a.2 in
      let t = (points v).takes fs a.0 a.1 in
      subst (λ (q : Pair × List Field). (fs ≡ pair_fields q.0 ++ q.1) × IsSomeDirection v q.0) (ok_is a.0 p g.1)
      (t.0, (t.1, λ ex ey. zero_bad a.0.0 g.0 ex ey));
  again = λ p rest fits.
      let some : (is_zero p.x && is_zero p.y) ≡ false =
      both_false _ _ (λ ex ey. fits.1 (zero_is p.x ex) (zero_is p.y ey)) in
      rw ((points v).again p rest fits.0, some) refl;
  fields = λ p fits. (points v).fields p fits.0;
}
  where
    zero_bad : (q : Pair) → (is_zero q.x && is_zero q.y) ≡ false → q.x ≡ pos 0 → q.y ≡ pos 0 → ⊥
    zero_bad q h ex ey = grind (arith, common_steps, true, false)

-- ---- numbers and seats

-- a number that was accepted is within its limit
up_to_some : (limit : ℕ) (beyond : FaultKind) (o : Option ℕ) (n : ℕ) → up_to limit beyond o ≡ Ok n
    → (o ≡ Some n) × (n ≤ limit)
up_to_some limit beyond None n e = absurd cc
up_to_some limit beyond (Some m) n e = grind (arith, common_steps, guard_ok, nat_le, ok_is, low_le)

-- the numbers up to a limit are a format, for any fault of a number beyond it
limited : (limit : ℕ) (beyond : FaultKind) → limit < 10 ^ 64
    → Format (λ n. n ≤ limit) (λ n. decimal n ∷ []) (field_at (λ f. up_to limit beyond (number_of f)))
limited limit beyond small =
    one (λ n. n ≤ limit) decimal (λ f. up_to limit beyond (number_of f))
    (λ f n e.
    let s = up_to_some limit beyond (number_of f) n e in
    (number_text f n (omega (arith, s.1)) s.0, s.1))
    (λ n fits. (rw (text_number n (omega arith), le_test n limit fits) refl, decimal_field n (omega arith)))

-- The numbers up to a limit are a format.
pub numbers : (limit : ℕ) → limit < 10 ^ 64 → Format (λ n. n ≤ limit) (λ n. decimal n ∷ []) (number_at limit)
unfolding number_at
numbers limit small = limited limit Number small

-- Workers and seats are a format.
pub seats : Format (λ n. n ≤ 63) (λ n. decimal n ∷ []) seat_at
unfolding seat_at
seats = limited 63 Worker (omega arith)
