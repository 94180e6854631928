-- A scene more is a shot more; the one that ends at a wrong line is the last.
use Rattle.std.proofs.Common.{◌≡◌, ◌≤◌, ◌+◌, inr, ℕ, suc, List, length, None, sym, ap, subst, ◌∙◌, arith, rules}
use Rattle.std.proofs.lemmas.List.Elements.{All-nil, All-push}
use Rattle.hull_draw.specs.Films.{AreShots, AreAllRight, shot_options, frames_of}
use Rattle.hull_draw.specs.Scenes.{SceneValue, IsScene}
use Rattle.hull_draw.proofs.ManyScenes.{shots_none, shots_more, none_of, some_of, length_more}
use Rattle.hull_draw.proofs.shots.scenes_of.Goals as goal

pub loop-alloc-init : goal.loop-alloc-init
loop-alloc-init c = (
  subst (λ (ss : List SceneValue). AreShots c.args.journal.now c.args.size 0 ss) (sym c.new-scenes.ensures.items)
      (shots_none _ _ _),
  subst (λ (ss : List SceneValue). AreAllRight ss) (sym c.new-scenes.ensures.items) (All-nil _),
  subst (λ (ss : List SceneValue). length ss ≤ c.min-count.result) (sym c.new-scenes.ensures.items) (omega arith),
)

pub returns-then-is_some-clause-film : goal.returns-then-is_some-clause-film
returns-then-is_some-clause-film c =
    let old = c.loop-alloc.scenes.items in
    let more = c.in-Ok.ensures.items in
    let number : c.len-in-loop-alloc.result + 1 ≡ suc (0 + length old) = omega (arith, c.len-in-loop-alloc.ensures) in
    let shot = subst (λ (n : ℕ). IsScene c.args.journal.now
    (shot_options c.args.size n) c.in_ok-scene.scene) number c.in_ok-scene.ensures in
    let wrong : c.in_ok-scene.scene.wrong ≡ c.scene.inside.wrong = search rules in
    let place = some_of c.scene.inside.wrong (sym c.is_some.ensures ∙ c.if-is_some.true) in
    let count : c.min-count.result ≡ frames_of c.args.journal.now.lines =
    c.min-count.ensures ∙ ap frames_of c.lines.ensures.lines in
    let fits : suc (length old) ≤ c.min-count.result = omega (arith, c.loop-alloc-test.true, c.len.ensures) in
    record {
      shots = subst (λ (ss : List SceneValue). AreShots c.args.journal.now c.args.size 0 ss) (sym more)
          (shots_more _ _ 0 old _ c.loop-alloc.invariant.0 shot);
      few = subst (λ (ss : List SceneValue). length ss ≤ frames_of c.args.journal.now.lines) (sym more)
          (subst (λ (n : ℕ). n ≤ frames_of c.args.journal.now.lines) (sym (length_more old _))
          (subst (λ (n : ℕ). suc (length old) ≤ n) count fits));
      ends = inr record {
        front = old;
        last = c.in_ok-scene.scene;
        place = place.0;
        whole = more;
        right =
            c.loop-alloc.invariant.1;
        wrong = wrong ∙ place.1;
      };
    }

pub loop-alloc-preserved : goal.loop-alloc-preserved
loop-alloc-preserved c =
    let old = c.loop-alloc.scenes.items in
    let more = c.in-Ok.ensures.items in
    let number : c.len-in-loop-alloc.result + 1 ≡ suc (0 + length old) = omega (arith, c.len-in-loop-alloc.ensures) in
    let shot = subst (λ (n : ℕ). IsScene c.args.journal.now
    (shot_options c.args.size n) c.in_ok-scene.scene) number c.in_ok-scene.ensures in
    let wrong : c.in_ok-scene.scene.wrong ≡ c.scene.inside.wrong = search rules in
    let right = wrong ∙ none_of c.scene.inside.wrong (sym c.is_some.ensures ∙ c.if-is_some.false) in
    let fits : suc (length old) ≤ c.min-count.result = omega (arith, c.loop-alloc-test.true, c.len.ensures) in (
      subst (λ (ss : List SceneValue). AreShots c.args.journal.now c.args.size 0 ss) (sym more)
          (shots_more _ _ 0 old _ c.loop-alloc.invariant.0 shot),
      subst (λ (ss : List SceneValue). AreAllRight ss) (sym more)
          (All-push (λ (s : SceneValue). s.wrong ≡ None) old c.in_ok-scene.scene c.loop-alloc.invariant.1 right),
      subst (λ (ss : List SceneValue). length ss ≤ c.min-count.result) (sym more)
          (subst (λ (n : ℕ). n ≤ c.min-count.result) (sym (length_more old _)) fits),
    )
