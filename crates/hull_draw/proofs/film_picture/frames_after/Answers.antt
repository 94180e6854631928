-- A frame's text comes before those of the frames after it.
use Rattle.std.proofs.Common.{◌≡◌, ◌+◌, length, refl, arith}
use Rattle.text_io.proofs.Chains.{chained_end, chained_more, chained_start}
use Rattle.hull_draw.proofs.Frames.{frames_cons, frames_none, frames_no_lines}
use Rattle.hull_draw.proofs.film_picture.frames_after.Goals as goal

pub loop-scene-init : goal.loop-scene-init
loop-scene-init g c = (chained_start _ _ _ _ _ _ refl, omega arith)

pub returns-in_default-split_first : goal.returns-in_default-split_first
returns-in_default-split_first g c =
    chained_end _ _ _ _ _ _ _ _ c.loop-scene.invariant.0
    (frames_no_lines _ _ _ _ _ _ c.in_default-split_first.ensures.cases)

pub loop-scene-preserved : goal.loop-scene-preserved
loop-scene-preserved g c =
    let started = chained_more c.loop-scene.invariant.0
    (frames_cons c.args.size c.args.frame.now
    (length c.args.scenes.now) c.loop-scene.place c.in-Some.scene.now c.in-Some.after.now c.loop-scene.rest.now
    c.in-Some-split_first.line.now c.in-Some-split_first.lines_after.now c.loop-scene.left.now
    c.in-Some.ensures.cases.0 c.in-Some-split_first.ensures.cases.0)
    c.frame_start_after-done.ensures in
    let left : length c.loop-scene.rest.now ≡ length c.in-Some.after.now + 1 =
    rw c.in-Some.ensures.cases.0 (omega arith) in
    let places = c.loop-scene.invariant.1 in
    let ended = chained_more started refl c.frame_after-done.ensures in
    (ended, omega (arith, left, places))

pub returns : goal.returns
returns g c =
    chained_end _ _ _ _ _ _ _ _ c.loop-scene.invariant.0 (frames_none _ _ _ _ _ _ c.in_default.ensures.cases)
