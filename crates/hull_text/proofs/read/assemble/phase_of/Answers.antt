-- an item puts its call after those of its worker, if it has one
use Rattle.std.proofs.Common.{◌≡◌, ℕ, ◌<◌, ◌∙◌, [], ◌∷◌, List, length, map, get_or, Some, None, Vec, refl, ap, sym, arith}
use Rattle.std.specs.Global.{Global}
use Rattle.std.proofs.lemmas.Bool.{false≢true}
use Rattle.std.proofs.lemmas.List.{length-map, length-replicate, length-set, get_or-replicate, take_all}
use Rattle.hull_set.specs.declared.call.Call.{Call}
use Rattle.hull_book.specs.Scripts.{lists_of}
use Rattle.hull_text.specs.Item.{Item}
use Rattle.hull_text.specs.ScriptValue.{calls_by}
use Rattle.hull_text.proofs.Jobs.{are_jobs, calls_stay, none_of_other, none_there, one_call_more, pushed_on, stands_there}
use Rattle.hull_text.proofs.read.assemble.phase_of.Goals as goal
use Rattle.hull_text.proofs.read.assemble.phase_of.Goals.{in-Some+in-Some-get_mut+in_ok-push, in-Some+in_default-get_mut, in_default}

pub loop-item-init : goal.loop-item-init
unfolding calls_by
loop-item-init c = record {
  each = sym (length-map _ _) ∙ ap length c.in_ok-jobs.ensures ∙ length-replicate _ _;
  calls = λ k h. ap (λ (jobs : List (List Call)). get_or jobs k []) c.in_ok-jobs.ensures ∙ get_or-replicate _ k [] [] h;
}

pub loop-item-preserved : goal.loop-item-preserved
loop-item-preserved c =
    let i = c.loop-item.item-index in
    let items = c.args.items.now in
    let jobs = c.loop-item.jobs.items in
    let l : i < length items = c.loop-item-test.true in
    let stands = λ (y : Item) (e : c.item-item.result ≡ y). stands_there items i c.item-item.result y l c.item-item.is e in
    let many = λ (e : c.match-item.jobs ≡ c.loop-item.jobs).
    ap (λ v. length v.items) e ∙ c.loop-item.invariant.each in
    elim c.match-item.branch [
      | in-Some+in-Some-get_mut+in_ok-push w ↦
          let space : w.from.result < length jobs = omega (arith, w.in-Some-get_mut.ensures.variant.0 refl, c.loop-item.jobs.ok.0) in record {
            each = ap (λ v. length v.items) w.jobs-is ∙ length-set jobs w.from.result w.push.new.self
                ∙ c.loop-item.invariant.each;
            calls = λ k h. ap (λ v. get_or (lists_of v.items) k []) w.jobs-is
                ∙ ap (λ (z : List (List Call)). get_or z k [])
                (pushed_on jobs w.in-Some-get_mut.calls.now w.push.new.self w.from.result w.in-Some.call space
                w.in-Some-get_mut.ensures.value w.in_ok-push.ensures.items)
                ∙ one_call_more (lists_of jobs) w.from.result k i w.in-Some.call items
                (omega (arith, length-map jobs (λ (v : Vec Call Global). v.items), space)) l
                (stands _ w.in-Some.is ∙ ap (λ (n : ℕ). Some (n, w.in-Some.call)) (sym w.from.ensures))
                (c.loop-item.invariant.calls k h);
          }
      | in-Some+in_default-get_mut w ↦ record {
        each = many w.jobs-is;
        calls = λ k h. ap (λ v. get_or (lists_of v.items) k []) w.jobs-is ∙ c.loop-item.invariant.calls k h
            ∙ sym (calls_stay k i items l (ap (λ (z : Item). calls_by k (z ∷ [])) (stands _ w.in-Some.is)
            ∙ none_of_other k w.in-Some.worker w.in-Some.call (λ e. false≢true
            (w.in_default-get_mut.ensures.variant.1 (omega (arith, e, h, c.loop-item.invariant.each, c.loop-item.jobs.ok.0, w.from.ensures))))));
      }
      | in_default w ↦ record {
        each = many w.jobs-is;
        calls = λ k h. ap (λ v. get_or (lists_of v.items) k []) w.jobs-is ∙ c.loop-item.invariant.calls k h
            ∙ sym (calls_stay k i items l
            (ap (λ (z : Item). calls_by k (z ∷ [])) (stands None w.in_default.is) ∙ none_there k));
      }
    ]

pub returns : goal.returns
returns c = c.new.ensures
    ∙ are_jobs c.args.workers (lists_of c.loop-item.jobs.items) c.args.items.now (length-map _ _ ∙ c.loop-item.invariant.each)
    (λ k h. c.loop-item.invariant.calls k h
    ∙ ap (λ z. calls_by k z) (take_all c.loop-item.item-index c.args.items.now c.loop-item-test.false))
