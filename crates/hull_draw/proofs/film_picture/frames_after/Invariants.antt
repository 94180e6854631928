-- The texts of the frames so far were written.
use Rattle.std.proofs.Common.{◌≡◌, ◌+◌, length}
use Rattle.text_io.proofs.Chains.{Chained}
use Rattle.hull_draw.specs.FilmTexts.{frames_text}
use Rattle.hull_draw.proofs.film_picture.frames_after.Given as goal

abbrev pub invariant-loop-scene : goal.invariant-loop-scene
invariant-loop-scene g l =
    Chained g.W.Write.contents g.W.Sink.failed l.fn.done l.done l.fn.out l.out
    (frames_text l.size l.frame (length l.scenes) 0 l.scenes l.lines)
    (frames_text l.size l.frame (length l.scenes) l.place l.rest l.left)
    × (l.place + length l.rest ≡ length l.scenes)

abbrev pub decreases-loop-scene : goal.decreases-loop-scene
decreases-loop-scene g l = length l.rest
