-- The values that the fields of a line spell from the left, or their first fault. A value that is read comes with the
-- fields after it.
use Rattle.std.specs.Prelude.{◌≡◌, ◌⊎◌, ℕ, ℤ, pos, negsuc, List, [], ◌∷◌, Option, Some, None, Result, Ok, Err, ◌==◌}
use Rattle.std.specs.Prelude.{◌&&◌, nat_le, nat_lt, Bool, false, if◌then◌else◌}
use Rattle.std.specs.List.{slice_split}
use Rattle.std.specs.Borrow.{Bor}
use Rattle.lattice.specs.Plane.{Pair}
use Rattle.hull_text.specs.declared.fault.FaultKind.{FaultKind}
use Rattle.hull_text.specs.declared.fault.FaultKind.TheVariants.{Form, Number, Coordinate, Worker, NoMemory}
use Rattle.hull_text.specs.declared.version.Version.{Version}
use Rattle.hull_text.specs.Version.{coordinate_limit}
use Rattle.hull_text.specs.Fault.{IsLineFault}
use Rattle.hull_text.specs.Number.{number_of, signed_of}

infixl 10 ◌>>=◌
-- a reading continues with the value that was read, unless there was a fault
abbrev pub ◌>>=◌ : {A B E : Type 0} → Result A E → (A → Result B E) → Result B E
(Ok x) >>= f = f x
(Err e) >>= f = Err e

-- a field is a sequence of bytes without a space
abbrev pub Field : Type 0
Field = List ℕ

-- the fields of a line are separated by one space
abbrev pub fields_of : List ℕ → List Field
fields_of line = slice_split (λ b. b == 32) line

-- The remaining fields of a line that a program reads; none at the end.
abbrev pub fields_left : Option (Bor (List ℕ)) → List Field
fields_left None = []
fields_left (Some text) = fields_of text.now

-- The result of a function, seen through `view`, is the result of reading.
abbrev pub Gives : {X Y : Type 0} → (X → Y) → Result X FaultKind → Result Y FaultKind → Type 0
Gives view (Ok x) read = read ≡ Ok (view x)
Gives view (Err e) read = (read ≡ Err e) × IsLineFault e

-- The same, unless memory was refused.
abbrev pub GivesOrRefuses : {X Y : Type 0} → (X → Y) → Result X FaultKind → Result Y FaultKind → Type 0
GivesOrRefuses view (Ok x) read = read ≡ Ok (view x)
GivesOrRefuses view (Err e) read = (e ≡ NoMemory) ⊎ ((read ≡ Err e) × IsLineFault e)

-- a signed number as a coordinate
abbrev pub coordinate_in : ℕ → Option ℤ → Result ℤ FaultKind
coordinate_in limit None = Err Number
coordinate_in limit (Some (pos n)) = if nat_le n limit then Ok (pos n) else Err Coordinate
coordinate_in limit (Some (negsuc n)) = if nat_lt n limit then Ok (negsuc n) else Err Coordinate

-- the value of the next field
abbrev pub field_at : {A : Type 0} → (Field → Result A FaultKind) → List Field → Result (A × List Field) FaultKind
field_at says [] = Err Form
field_at says (f ∷ fs) = says f >>= λ x. Ok (x, fs)

-- a coordinate
unfoldable pub coordinate_at : Version → List Field → Result (ℤ × List Field) FaultKind
coordinate_at v fs = field_at (λ f. coordinate_in (coordinate_limit v) (signed_of f)) fs

-- two coordinates: a point
unfoldable pub point_at : Version → List Field → Result (Pair × List Field) FaultKind
point_at v fs = do
  x ← coordinate_at v fs
  y ← coordinate_at v x.1
  Ok (record { x = x.0; y = y.0 }, y.1)

-- a number that is zero
abbrev pub is_zero : ℤ → Bool
is_zero (pos n) = n == 0
is_zero (negsuc n) = false

-- two coordinates that are not both zero: a direction
unfoldable pub direction_at : Version → List Field → Result (Pair × List Field) FaultKind
direction_at v fs = do
  p ← point_at v fs
  if is_zero p.0.x && is_zero p.0.y then Err Coordinate else Ok p

-- an unsigned number up to a limit; a greater one is this fault
abbrev pub up_to : ℕ → FaultKind → Option ℕ → Result ℕ FaultKind
up_to limit beyond None = Err Number
up_to limit beyond (Some n) = if nat_le n limit then Ok n else Err beyond

-- an unsigned number as one up to a limit
abbrev pub number_in : ℕ → Option ℕ → Result ℕ FaultKind
number_in limit spelled = up_to limit Number spelled

-- an unsigned number up to a limit
unfoldable pub number_at : ℕ → List Field → Result (ℕ × List Field) FaultKind
number_at limit fs = field_at (λ f. number_in limit (number_of f)) fs

-- an unsigned number as a worker or a seat
abbrev pub seat_in : Option ℕ → Result ℕ FaultKind
seat_in spelled = up_to 63 Worker spelled

-- a worker or a seat
unfoldable pub seat_at : List Field → Result (ℕ × List Field) FaultKind
seat_at fs = field_at (λ f. seat_in (number_of f)) fs

-- no field is left
abbrev pub ended : {X : Type 0} → X → List Field → Result X FaultKind
ended x [] = Ok x
ended x (f ∷ fs) = Err Form
