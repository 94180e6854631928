-- an end is kept if the point is on the inner side of it
use Rattle.std.proofs.Common.{◌≡◌, ◌∙◌, ap, inl, inr}
use Rattle.lattice.specs.Plane.{Pair}
use Rattle.hull_geometry.specs.Positions.{first_of, last_of}
use Rattle.bucket_tree.proofs.TopDown.{before_or_not}
use Rattle.bucket_tree.proofs.top_down.extend.Goals as goal

pub returns : goal.returns
returns c = λ S w.
    let first : c.earlier.result ≡ first_of S = elim (before_or_not c.args.ends.now.first c.args.p) [
      | inl b ↦ c.earlier.ensures.first b ∙ w.first_kept b
      | inr n ↦ c.earlier.ensures.second n ∙ w.first_new n
    ] in
    let last : c.later.result ≡ last_of S = elim (before_or_not c.args.p c.args.ends.now.last) [
      | inl b ↦ c.later.ensures.second b ∙ w.last_kept b
      | inr n ↦ c.later.ensures.first n ∙ w.last_new n
    ] in
    ap (λ (z : Pair). record { first = z; last = c.later.result }) first
    ∙ ap (λ (z : Pair). record { first = first_of S; last = z }) last
