-- The meaning of a reply in numbers.
use Rattle.std.specs.Prelude.{◌≡◌, ℕ, pos, ◌+◌, ◌*◌, ◌^◌, length}
use Rattle.lattice.specs.Plane.{Pair}
use Rattle.hull_set.specs.declared.reply.Reply.{Reply}
use Rattle.hull_set.specs.declared.reply.Reply.TheVariants as reply
use Rattle.hull_set.specs.declared.set.Place.TheVariants as place
use Rattle.hull_reply.specs.declared.code.Code.{Code}
use Rattle.hull_reply.specs.declared.code.Code.TheVariants as code
use Rattle.hull_reply.specs.declared.reply.HullReply.{HullReply}

-- the number of a code in the header
abbrev pub code_number : Code → ℕ
-- written by tools/table.py: codes
code_number code.OutOfRange = 1
code_number code.ZeroDirection = 2
code_number code.Added = 3
code_number code.Again = 4
code_number code.TooMany = 5
code_number code.NoMemory = 6
code_number code.Removed = 7
code_number code.Left = 8
code_number code.Absent = 9
code_number code.Point = 10
code_number code.Empty = 11
code_number code.Inside = 12
code_number code.On = 13
code_number code.Outside = 14
code_number code.Tangents = 15
code_number code.NoTangent = 16
code_number code.Number = 17
code_number code.Vertices = 18
code_number code.TooSmall = 19
code_number code.Cleared = 20
code_number code.OutOfOrder = 21
code_number code.UnknownKind = 22
code_number code.Intersecting = 23
code_number code.Disjoint = 24
code_number code.Covered = 25
code_number code.Vertex = 26
code_number code.Edge = 27
code_number code.Box = 28
code_number code.Within = 29
code_number code.Crossing = 30
code_number code.Points = 31
code_number code.Open = 32
code_number code.OutOfLimits = 33
code_number code.WasOpened = 34
code_number code.Acquired = 35
code_number code.NoSeat = 36
code_number code.StorageInUse = 37
code_number code.NotOpen = 38
code_number code.Released = 39
code_number code.Vacant = 40
code_number code.Waiting = 41
code_number code.SlotInUse = 42
code_number code.Taken = 43
code_number code.NotYet = 44
code_number code.NoNumber = 45
code_number code.Full = 46
code_number code.SeatsOut = 47
code_number code.Closed = 48
code_number code.NotClosed = 49
code_number code.Text = 50
code_number code.Ended = 51
code_number code.InUse = 52
code_number code.Reserved = 53
code_number code.SegmentInUse = 54
code_number code.NoSpace = 55
code_number code.NoLines = 56
code_number code.NoJournal = 57
code_number code.OldRules = 58
code_number code.Illegal = 59
code_number code.TooFewSeats = 60
code_number code.ReadersSet = 67
code_number code.SnapshotTaken = 68
code_number code.Old = 69

-- end of what tools/table.py writes

-- a code without values
abbrev pub IsBare : Code → HullReply → Type 0
IsBare c r = r ≡ record
    { code = code_number c; x = pos 0; y = pos 0; other_x = pos 0; other_y = pos 0; number = 0; high = 0 }

-- a code with a number
abbrev pub IsNumber : Code → ℕ → HullReply → Type 0
IsNumber c n r = r ≡ record
    { code = code_number c; x = pos 0; y = pos 0; other_x = pos 0; other_y = pos 0; number = n; high = 0 }

-- a code with two numbers
abbrev pub AreNumbers : Code → ℕ → ℕ → HullReply → Type 0
AreNumbers c n m r = r ≡ record
    { code = code_number c; x = pos 0; y = pos 0; other_x = pos 0; other_y = pos 0; number = n; high = m }

-- a code with a point
abbrev pub IsPoint : Code → Pair → HullReply → Type 0
IsPoint c p r = r ≡ record
    { code = code_number c; x = p.x; y = p.y; other_x = pos 0; other_y = pos 0; number = 0; high = 0 }

-- a code with two points, or with a point and a direction
abbrev pub ArePoints : Code → Pair → Pair → HullReply → Type 0
ArePoints c p q r = r
    ≡ record { code = code_number c; x = p.x; y = p.y; other_x = q.x; other_y = q.y; number = 0; high = 0 }

-- a number of 128 bits in two words, without other values
abbrev pub IsWide : ℕ → HullReply → Type 0
IsWide n r =
    (r ≡ record {
      code = code_number code.Number;
      x = pos 0;
      y = pos 0;
      other_x = pos 0;
      other_y = pos 0;
      number =
          r.number;
      high = r.high;
    })
    × (n ≡ r.high * 2 ^ 64 + r.number)

-- the numbers mean this reply of a set
abbrev pub Encodes : HullReply → Reply → Type 0
-- written by tools/table.py: a case for each reply
Encodes r reply.Added = IsBare code.Added r
Encodes r (reply.Again n) = IsNumber code.Again n r
Encodes r reply.TooMany = IsBare code.TooMany r
Encodes r reply.NoMemory = IsBare code.NoMemory r
Encodes r reply.Removed = IsBare code.Removed r
Encodes r (reply.Left n) = IsNumber code.Left n r
Encodes r reply.Absent = IsBare code.Absent r
Encodes r (reply.Farthest p) = IsPoint code.Point p r
Encodes r reply.Empty = IsBare code.Empty r
Encodes r (reply.Lies place.Inside) = IsBare code.Inside r
Encodes r (reply.Lies place.On) = IsBare code.On r
Encodes r (reply.Lies place.Outside) = IsBare code.Outside r
Encodes r (reply.TangentPoints p q) = ArePoints code.Tangents p q r
Encodes r reply.NoTangent = IsBare code.NoTangent r
Encodes r (reply.VertexList ps) = IsNumber code.Vertices (length ps) r
Encodes r (reply.DoubledArea n) = IsWide n r
Encodes r (reply.PointCount n) = IsNumber code.Number n r
-- end of what tools/table.py writes
Encodes r _ = ⊥
