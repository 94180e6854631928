-- All that a film shows is in its square.
use Rattle.std.proofs.Common.{◌≡◌, ◌⊎◌, inl, inr, ◌<◌, ◌≤◌, ◌+◌, ◌++◌, ◌/◌, ℕ, zero, suc, List, [], ◌∷◌, length}
use Rattle.std.proofs.Common.{take}
use Rattle.std.proofs.Common.{Option, Some, None, refl, sym, ap, subst, ◌∙◌, arith, append_assoc, length-append, map}
use Rattle.std.proofs.Common.{drop}
use Rattle.std.proofs.Math.Nat.{div-mul-le_self}
use Rattle.std.proofs.lemmas.Int.{ints}
use Rattle.std.proofs.Math.Seq.{take-append_seam}
use Rattle.std.proofs.lemmas.List.{take-append-drop, take_all}
use Rattle.std.proofs.lemmas.List.Elements.{All-contains, All-cons, All-head, All-tail, All-nil}
use Rattle.std.proofs.lemmas.List.Elements.{Contains-append_left, Contains-append_right}
use Rattle.std.proofs.lemmas.Nat.{le-div}
use Rattle.std.specs.List.{All, Contains}
use Rattle.lattice.proofs.Order.{before_total, is_before-true, is_before-false, before_not, before_irrefl}
use Rattle.lattice.specs.Covers.{without_point}
use Rattle.lattice.specs.Plane.{Pair, IsBefore}
use Rattle.hull_geometry.proofs.SetLaws.{members_with}
use Rattle.hull_set.specs.Held.{Held, nothing_held}
use Rattle.hull_set.specs.Replies.{Answers, after}
use Rattle.hull_set.specs.declared.call.Call.{Call}
use Rattle.hull_set.specs.declared.call.Call.TheVariants.{Add, Remove, Extreme, Tangents}
use Rattle.hull_set.specs.declared.reply.Reply.{Reply}
use Rattle.hull_set.specs.declared.reply.Reply.TheVariants.{Added, Removed, Farthest, TangentPoints}
use Rattle.hull_set.specs.declared.rules.Rules.{Rules}
use Rattle.hull_tree.specs.Roots.{held_by}
use Rattle.hull_book.specs.History.{IsRight, AreRight, IsLegal, replay, held_after}
use Rattle.hull_book.specs.Journals.{JournalValue}
use Rattle.hull_book.specs.declared.head.Head.{Head}
use Rattle.hull_book.specs.declared.line.Line.{Line}
use Rattle.hull_draw.specs.declared.frame.Frame.{Frame}
use Rattle.hull_draw.specs.declared.marks.Mark.{Mark}
use Rattle.hull_draw.specs.Films.{AreShots, IsFilm, shot_options, call_point, point_marks, called_marks}
use Rattle.hull_draw.specs.Frames.{IsWithin, IsMarked, IsFrame, IsFrameOf, IsInSquare, across, down, side_of, unit_of}
use Rattle.hull_draw.specs.Frames.{extent_of, from_left, from_top}
use Rattle.hull_draw.specs.Replays.{Ends}
use Rattle.hull_draw.specs.Scenes.{SceneValue, IsScene}
use Rattle.hull_draw.specs.Squares.{found_points, IsShownInSquare, AreShownInSquare, AreShownIn}
use Rattle.hull_geometry.proofs.PointLists.{all_of}

-- a unit of the picture goes as often into n as into what n is at most
fewer_units : (n whole unit : ℕ) → 0 < unit → n ≤ whole → n / unit ≤ whole / unit
fewer_units n whole unit positive l =
    let part = div-mul-le_self n unit in le-div (n / unit) whole unit positive (omega (arith, part, l))

-- a point between the points at the edges is drawn in the square
pub in_square : (frame : Frame) (p : Pair) → IsWithin frame p → IsInSquare frame p
unfolding across down side_of unit_of from_left from_top extent_of
in_square frame p h =
    let right = h.right_of in
    let left = h.left_of in
    let above = h.above in
    let below = h.below in record {
      wide = fewer_units (from_left frame p) (extent_of frame) (unit_of frame) (omega arith)
          (omega (arith, ints, right, left));
      high = fewer_units (from_top frame p) (extent_of frame) (unit_of frame) (omega arith)
          (omega (arith, ints, above, below));
    }

-- a member of S without p is a member of S
in_whole : (p t : Pair) (S : List Pair) → Contains (without_point p S) t → Contains S t
in_whole p t [] = λ m. m
in_whole p t (x ∷ xs) =
    elim (before_total x p) [
      | inl b ↦ rw (is_before-true x p b) (first (in_whole p t xs))
      | inr (inl e) ↦ rw (
        is_before-false x p (λ b. before_irrefl p (subst (λ (z : Pair). IsBefore z p) e b)),
        is_before-false p x (λ b. before_irrefl p (subst (IsBefore p) e b)),
      ) later
      | inr (inr b) ↦ rw (is_before-false x p (before_not p x b), is_before-true p x b) (λ m. m)
    ]
  where
    later : Contains xs t → Contains (x ∷ xs) t
    later m = (suc m.0, omega (arith, m.1), m.2)

    first : (Contains (without_point p xs) t → Contains xs t) → Contains (x ∷ without_point p xs) t
        → Contains (x ∷ xs) t
    first again (zero, l, e) = (zero, omega arith, e)
    first again (suc k, l, e) = later (again (k, omega (arith, l), e))

-- a point is the point of its own mark
own_mark : (p : Pair) → IsMarked (point_marks (Some p)) p
own_mark p = (record { point = p; multiplicity = 1 }, (0, omega arith, refl), refl)

-- after `add q` a point is in the set only if it was before, or it is q
after_added : (held : Held) (q : Pair) (reply : Reply) (p : Pair) → Contains (after held (Add q) reply).points p
    → Contains held.points p ⊎ IsMarked (point_marks (Some q)) p
after_added held q Added p m = elim ((members_with q p held.points).0 m) [
  | inl e ↦ inr (subst (IsMarked (point_marks (Some q))) (sym e) (own_mark q))
  | inr h ↦ inl h
]
after_added held q reply p m = inl m

-- after `remove q` a point is in the set only if it was before
after_removed : (held : Held) (q : Pair) (reply : Reply) (p : Pair)
    → Contains (after held (Remove q) reply).points p → Contains held.points p
after_removed held q Removed p m = in_whole q p held.points m
after_removed held q reply p m = m

-- after a call a point is in the set only if it was before, or if the call names it
after_called : (held : Held) (call : Call) (reply : Reply) (p : Pair) → Contains (after held call reply).points p
    → Contains held.points p ⊎ IsMarked (point_marks (call_point call)) p
after_called held (Add q) reply p m = after_added held q reply p m
after_called held (Remove q) reply p m = inl (after_removed held q reply p m)
after_called held call reply p m = inl m

-- a point that is marked among the first marks is marked among all
marked_first : (xs ys : List Mark) (p : Pair) → IsMarked xs p → IsMarked (xs ++ ys) p
marked_first xs ys p h = (h.0, Contains-append_left xs ys h.0 h.1, h.2)

-- a point that is marked among the last marks is marked among all
marked_last : (xs ys : List Mark) (p : Pair) → IsMarked ys p → IsMarked (xs ++ ys) p
marked_last xs ys p h = (h.0, Contains-append_right xs ys h.0 h.1, h.2)

-- after calls a point is in the set only if it was before, or if a call names it
replay_called : (held : Held) (lines : List Line) (p : Pair) → Contains (replay held lines).points p
    → Contains held.points p ⊎ IsMarked (called_marks lines) p
unfolding replay called_marks
replay_called held [] p m = inl m
replay_called held (line ∷ lines) p m =
    elim (replay_called (after held line.call line.reply) lines p m) [
      | inr h ↦ inr (marked_last (point_marks (call_point line.call)) (called_marks lines) p h)
      | inl h ↦ elim (after_called held line.call line.reply p h) [
        | inl k ↦ inl k
        | inr k ↦ inr (marked_first (point_marks (call_point line.call)) (called_marks lines) p k)
      ]
    ]

-- a point of the set is one that a call names
live_called : (lines : List Line) (p : Pair) → Contains (held_after lines).points p → IsMarked (called_marks lines) p
live_called lines p m = elim (replay_called nothing_held lines p m) [
  | inl h ↦ absurd (omega (arith, h.1))
  | inr h ↦ h
]

-- the marks of calls in a row
called_append : (xs ys : List Line) → called_marks (xs ++ ys) ≡ called_marks xs ++ called_marks ys
unfolding called_marks
called_append [] ys = refl
called_append (line ∷ lines) ys =
    ap (λ (ms : List Mark). point_marks (call_point line.call) ++ ms) (called_append lines ys)
    ∙ sym (append_assoc (point_marks (call_point line.call)) (called_marks lines) (called_marks ys))

-- a point that the first calls name is named by all
called_first : (xs ys : List Line) (p : Pair) → IsMarked (called_marks xs) p → IsMarked (called_marks (xs ++ ys)) p
called_first xs ys p h =
    subst (λ (ms : List Mark). IsMarked ms p) (sym (called_append xs ys))
    (marked_first (called_marks xs) (called_marks ys) p h)

-- a point that the first n calls name is named by all
called_taken : (n : ℕ) (lines : List Line) (p : Pair) → IsMarked (called_marks (take n lines)) p
    → IsMarked (called_marks lines) p
called_taken n lines p h =
    subst (λ (ls : List Line). IsMarked (called_marks ls) p) (take-append-drop n lines)
    (called_first (take n lines) (drop n lines) p h)

-- of right lines the last is right
last_right : (head : Head) (k : ℕ) (held : Held) (lines : List Line) (line : Line)
    → AreRight head k held (lines ++ line ∷ []) → IsRight head (k + length lines) (replay held lines) line
unfolding replay AreRight
last_right head k held [] line all = subst (λ (n : ℕ). IsRight head n held line) (omega arith) all.0
last_right head k held (m ∷ lines) line all =
    subst (λ (n : ℕ). IsRight head n (replay (after held m.call m.reply) lines) line) (omega arith)
    (last_right head (suc k) (after held m.call m.reply) lines line all.1)

-- if j is at most n, a point that the first j calls name is named by the first n
called_within : (j n : ℕ) (lines : List Line) (p : Pair) → j ≤ n → IsMarked (called_marks (take j lines)) p
    → IsMarked (called_marks (take n lines)) p
called_within j n lines p l h =
    called_taken j (take n lines) p
    (subst (λ (ls : List Line). IsMarked (called_marks ls) p) (sym (take_taken j n lines l)) h)
  where
    take_taken : (j n : ℕ) (ls : List Line) → j ≤ n → take j (take n ls) ≡ take j ls
    take_taken zero n ls l = refl
    take_taken (suc j) zero ls l = absurd (omega (arith, l))
    take_taken (suc j) (suc n) [] l = refl
    take_taken (suc j) (suc n) (x ∷ xs) l = ap (λ (ys : List Line). x ∷ ys) (take_taken j n xs (omega (arith, l)))

-- the points of marks are drawn in the square that contains them
marked_in_square : (marks : List Mark) (frame : Frame) → IsFrame marks frame → (p : Pair) → IsMarked marks p
    → IsInSquare frame p
marked_in_square marks frame h p m =
    subst (IsInSquare frame) m.2
    (in_square frame m.0.point (All-contains (λ n. IsWithin frame n.point) marks m.0 h.holds m.1))

-- a property of the points of marks is one of each mark's point
all_marked : (P : Pair → Type 0) (marks : List Mark) → All P (map (λ (m : Mark). m.point) marks)
    → All (λ (m : Mark). P m.point) marks
all_marked P [] h = All-nil _
all_marked P (m ∷ ms) h =
    All-cons (λ (m : Mark). P m.point) m ms (All-head P m.point (map (λ (m : Mark). m.point) ms) h)
    (all_marked P ms (All-tail P m.point (map (λ (m : Mark). m.point) ms) h))

-- if the set has no point nothing is marked
no_marks : (marks : List Mark) (S : List Pair) → map (λ (m : Mark). m.point) marks ≡ S
    → ((p : Pair) → ¬ Contains S p) → marks ≡ []
no_marks [] S e none = refl
no_marks (m ∷ ms) S e none =
    absurd (none m.point (subst (λ (ps : List Pair). Contains ps m.point) e (0, omega arith, refl)))

-- the farthest point in a right reply is in the set
farthest_live : (rules : Rules) (held : Held) (limit : ℕ) (call : Call) (t : Pair)
    → Answers rules held limit call (Farthest t) → Contains held.points t
farthest_live rules held limit (Extreme d) t h = h.0
farthest_live rules held limit call t h = absurd h

-- the tangent points in a right reply are in the set
tangents_live : (rules : Rules) (held : Held) (limit : ℕ) (call : Call) (l r : Pair)
    → Answers rules held limit call (TangentPoints l r) → Contains held.points l × Contains held.points r
tangents_live rules held limit (Tangents q) l r h = (h.1.0, h.2.0)
tangents_live rules held limit call l r h = absurd h

-- the points that a right reply found are in the set
found_live : (P : Pair → Type 0) (rules : Rules) (held : Held) (limit : ℕ) (call : Call) (reply : Reply)
    → Answers rules held limit call reply → ((p : Pair) → Contains held.points p → P p) → All P (found_points reply)
found_live P rules held limit call (Farthest t) h all =
    All-cons P t [] (all t (farthest_live rules held limit call t h)) (All-nil P)
found_live P rules held limit call (TangentPoints l r) h all =
    let both = tangents_live rules held limit call l r h in
    All-cons P l (r ∷ []) (all l both.0) (All-cons P r [] (all r both.1) (All-nil P))
found_live P rules held limit call reply h all = All-nil P

-- a point of the set after the first j calls, or before a wrong one of them, is named by the first n
scene_called : (journal : JournalValue) (size j n : ℕ) (scene : SceneValue)
    → (shot : IsScene journal (shot_options size j) scene) → j ≤ n → (p : Pair)
    → Contains (held_by shot.root).points p → IsMarked (called_marks (take n journal.lines)) p
scene_called journal size j n scene shot l p m =
    called_within j n journal.lines p l
    (called_taken scene.lines (take j journal.lines) p
    (live_called (take scene.lines (take j journal.lines)) p
    (subst (λ (held : Held). Contains held.points p) shot.replayed.holds m)))

-- a right line found only points that its calls before it name
found_called : (journal : JournalValue) (size : ℕ) (before : List Line) (line : Line) (scene : SceneValue)
    → IsScene journal (shot_options size (suc (length before))) scene → scene.wrong ≡ None
    → take (suc (length before)) journal.lines ≡ before ++ line ∷ []
    → All (λ p. IsMarked (called_marks (before ++ line ∷ [])) p) (found_points line.reply)
found_called journal size before line scene shot right upto =
    let returned = subst (Ends journal.head (take (suc (length before)) journal.lines) scene.lines) right
    shot.replayed.ends in
    let all = take_all scene.lines (take (suc (length before)) journal.lines) (omega (arith, returned)) in
    let legal = subst (IsLegal journal.head) upto (subst (IsLegal journal.head) all shot.replayed.legal) in
    let last = last_right journal.head 0 nothing_held before line legal in
    found_live _ journal.head.rules (held_after before) journal.head.limit line.call line.reply last.reply
    (λ p m. called_first before (line ∷ []) p (live_called before p m))

-- the point that the last of some calls names is named by them
last_called : (before : List Line) (line : Line) (p : Pair) → call_point line.call ≡ Some p
    → IsMarked (called_marks (before ++ line ∷ [])) p
unfolding called_marks
last_called before line p named =
    subst (λ (ms : List Mark). IsMarked ms p) (sym (called_append before (line ∷ [])))
    (marked_last (called_marks before) (called_marks (line ∷ [])) p
    (marked_first (point_marks (call_point line.call)) [] p
    (subst (λ (o : Option Pair). IsMarked (point_marks o) p) (sym named) (own_mark p))))

-- a frame shows nothing outside the square of the points that the first n calls name, if its own call is one of them
shot_in_square : (journal : JournalValue) (size n : ℕ) (frame : Frame) (before : List Line) (line : Line)
    (scene : SceneValue)
    → take (suc (length before)) journal.lines ≡ before ++ line ∷ [] → suc (length before) ≤ n
    → IsFrame (called_marks (take n journal.lines)) frame
    → IsScene journal (shot_options size (suc (length before))) scene → IsShownInSquare frame scene line
shot_in_square journal size n frame before line scene upto fits square shot =
    let live : (p : Pair) → Contains (held_by shot.root).points p → IsInSquare frame p =
    λ p m. marked_in_square _ frame square p (scene_called journal size _ n scene shot fits p m) in
    let named : (p : Pair) → IsMarked (called_marks (before ++ line ∷ [])) p → IsInSquare frame p =
    λ p m. marked_in_square _ frame square p
    (called_within (suc (length before)) n journal.lines p fits
    (subst (λ (ls : List Line). IsMarked (called_marks ls) p) (sym upto) m)) in record {
      marks = all_marked (IsInSquare frame) scene.marks
          (subst (All (IsInSquare frame)) (sym shot.shows.marks.points)
          (all_of (IsInSquare frame) (held_by shot.root).points live));
      vertices = all_of (IsInSquare frame) scene.vertices (λ p m. live p ((shot.shows.vertices.members p).0 m).0);
      asked = λ p e. named p (last_called before line p e);
      found = λ right k d l. named _ (found_called journal size before line scene shot right upto k d l);
    }

-- frames, each with its line, show nothing outside it
shots_in_square : (journal : JournalValue) (size n : ℕ) (frame : Frame) (before rest : List Line)
    (scenes : List SceneValue) → journal.lines ≡ before ++ rest → length before + length scenes ≤ n
    → IsFrame (called_marks (take n journal.lines)) frame → AreShots journal size (length before) scenes
    → AreShownInSquare frame scenes rest
unfolding AreShots AreShownInSquare
shots_in_square journal size n frame before rest [] whole fits square shots = tt
shots_in_square journal size n frame before [] (s ∷ ss) whole fits square shots = tt
shots_in_square journal size n frame before (line ∷ rest) (s ∷ ss) whole fits square shots = (
  shot_in_square journal size n frame before line s upto (omega (arith, fits)) square shots.0,
  shots_in_square journal size n frame (before ++ line ∷ []) rest ss separated
      (rw longer (omega (arith, fits))) square
      (subst (λ (k : ℕ). AreShots journal size k ss) (sym longer) shots.1),
)
  where
    longer : length (before ++ line ∷ []) ≡ suc (length before)
    longer = length-append before (line ∷ []) ∙ omega arith

    separated : journal.lines ≡ (before ++ line ∷ []) ++ rest
    separated = whole ∙ sym (append_assoc before (line ∷ []) rest)

    upto : take (suc (length before)) journal.lines ≡ before ++ line ∷ []
    upto = ap (λ (ls : List Line). take (suc (length before)) ls) separated
        ∙ ap (λ (k : ℕ). take k ((before ++ line ∷ []) ++ rest)) (sym longer)
        ∙ take-append_seam (before ++ line ∷ []) rest

-- if no call names a point no frame has one
shots_empty : (journal : JournalValue) (size n k : ℕ) (scenes : List SceneValue) → k + length scenes ≤ n
    → called_marks (take n journal.lines) ≡ [] → AreShots journal size k scenes
    → All (λ scene. scene.marks ≡ []) scenes
unfolding AreShots
shots_empty journal size n k [] fits none shots = All-nil _
shots_empty journal size n k (s ∷ ss) fits none shots =
    All-cons (λ (scene : SceneValue). scene.marks ≡ []) s ss
    (no_marks s.marks _ shots.0.shows.marks.points (λ p m. nobody p
    (subst (λ (ms : List Mark). IsMarked ms p) none
    (scene_called journal size (suc k) n s shots.0 (omega (arith, fits)) p m))))
    (shots_empty journal size n (suc k) ss (omega (arith, fits)) none shots.1)
  where
    nobody : (p : Pair) → ¬ IsMarked [] p
    nobody p m = omega (arith, m.1.1)

-- A film shows nothing outside its square.
pub film_in_square : (journal : JournalValue) (size : ℕ) (frame : Option Frame) (scenes : List SceneValue)
    → IsFilm journal size scenes → IsFrameOf (called_marks (take (length scenes) journal.lines)) frame
    → AreShownIn frame scenes journal.lines
film_in_square journal size None scenes film square =
    shots_empty journal size (length scenes) 0 scenes (omega arith) square film.shots
film_in_square journal size (Some frame) scenes film square =
    shots_in_square journal size (length scenes) frame [] journal.lines scenes refl (omega arith) square film.shots
