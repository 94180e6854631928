-- all phases are wide in the end
use Rattle.std.proofs.Common.{◌≡◌, ◌∙◌, ◌≤◌, ℕ, ap, sym, arith, length, map, max}
use Rattle.hull_book.specs.Scripts.{ScriptValue, with_idle}
use Rattle.hull_book.proofs.Idle.{each_idle, wide_script}
use Rattle.hull_book.proofs.script.Script.widened.Goals as goal

-- all phases are widened after the loop
all_wide : (c : goal.After-loop-i) → c.loop-i.phases.items ≡ map (with_idle c.max-wide.result) c.args.self.phases
all_wide c =
    let own : length c.self.inside.phases.items ≡ length c.args.self.phases =
    ap (λ (s : ScriptValue). length s.phases) c.self.view_is in
    let past : length c.args.self.phases ≤ c.loop-i.i =
    omega (arith, own, c.self.inside.phases.ok.0, c.len-i-end.ensures, c.loop-i-test.false) in
    each_idle c.max-wide.result c.args.self.phases c.loop-i.phases.items c.loop-i.invariant.long
    (λ k d l. c.loop-i.invariant.done k d (omega (arith, l, past)))

pub invariant_of-result : goal.invariant_of-result
invariant_of-result c =
    wide_script c.self.inside.workers c.max-wide.result c.self.inside.phases.items c.loop-i.phases.items
    (omega (arith, c.max-wide.ensures))
    (let h = c.self.invariant.workers_high in omega (arith, c.max-wide.ensures, h, c.requires)) c.self.invariant
    (all_wide c ∙ ap (λ (s : ScriptValue). map (with_idle c.max-wide.result) s.phases) (sym c.self.view_is))

pub returns : goal.returns
returns c =
    let wide : c.max-wide.result ≡ max c.args.self.workers c.args.workers =
    c.max-wide.ensures ∙ ap (λ (s : ScriptValue). max s.workers c.args.workers) c.self.view_is in
    let phases = all_wide c ∙ ap (λ (n : ℕ). map (with_idle n) c.args.self.phases) wide in
    λ i. record { workers = wide i; phases = phases i }
