-- A frame that grows with the marks.
use Rattle.std.proofs.Common.{◌≡◌, inl, inr, ◌<◌, ◌≤◌, ◌+◌, ℕ, List, length, take, get_or, subst, sym, ◌∙◌}
use Rattle.std.proofs.lemmas.List.{take_all}
use Rattle.std.proofs.lemmas.List.Elements.{All-more}
use Rattle.std.specs.List.{All, Contains}
use Rattle.lattice.specs.Plane.{Pair}
use Rattle.hull_draw.specs.declared.marks.Mark.{Mark}
use Rattle.hull_draw.specs.declared.frame.Frame.{Frame}
use Rattle.hull_draw.specs.Frames.{IsWithin, IsMarked, IsEither, Widens}

-- these marks are between the edges
abbrev pub Holds : Frame → List Mark → Type 0
Holds frame marks = All (λ m. IsWithin frame m.point) marks

-- the points at the edges are points of marks
pub record IsOfMarks (marks : List Mark) (frame : Frame) : Type 0 where
  pub left : IsMarked marks frame.left
  pub right : IsMarked marks frame.right
  pub top : IsMarked marks frame.top
  pub bottom : IsMarked marks frame.bottom

-- a frame that was widened contains one mark more
pub holds_more : (marks : List Mark) (i : ℕ) (m : Mark) (f g : Frame) → i < length marks → m ≡ get_or marks i m
    → Widens f m.point g → Holds f (take i marks) → Holds g (take (i + 1) marks)
holds_more marks i m f g lt e w so_far = All-more (λ n. IsWithin g n.point) marks i m lt
    (λ k d h. w.holds _ (so_far k d h)) (subst (λ n. IsWithin g n.point) e w.own)

-- the point of a mark, or one that was marked, is marked
pub either_marked : (marks : List Mark) (m : Mark) (p q : Pair) → Contains marks m → IsMarked marks p
    → IsEither p m.point q → IsMarked marks q
either_marked marks m p q in' h (inl e) = (h.0, h.1, h.2 ∙ sym e)
either_marked marks m p q in' h (inr e) = (m, in', sym e)

-- the edges of a frame that was widened by a mark are those of marks
pub of_marks_more : (marks : List Mark) (i : ℕ) (m : Mark) (f g : Frame) → i < length marks → m ≡ get_or marks i m
    → Widens f m.point g → IsOfMarks marks f → IsOfMarks marks g
of_marks_more marks i m f g lt e w so_far = record {
  left = either_marked marks m f.left g.left (i, lt, sym e) so_far.left w.left;
  right = either_marked marks m f.right g.right (i, lt, sym e) so_far.right w.right;
  top = either_marked marks m f.top g.top (i, lt, sym e) so_far.top w.top;
  bottom = either_marked marks m f.bottom g.bottom (i, lt, sym e) so_far.bottom w.bottom;
}

-- it contains all marks at the end
pub holds_all : (marks : List Mark) (i : ℕ) (f : Frame) → length marks ≤ i → Holds f (take i marks) → Holds f marks
holds_all marks i f h all = subst (Holds f) (take_all i marks h) all
