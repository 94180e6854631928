-- the call was made with the numbers of the request
use Rattle.std.proofs.Common.{rules, ◌≡◌, ℤ, w64, to_z, of_z, subst}
use Rattle.hull_c.specs.Growing.{IsGrowingCall}
use Rattle.hull_c.proofs.requests.GrowingHullServer.serve.Goals as goal

pub returns : goal.returns
returns c =
    let q = c.args.request in
    let first : to_z w64 (of_z w64 q.x) ≡ q.x = search (rules, c) in
    let second : to_z w64 (of_z w64 q.y) ≡ q.y = search (rules, c) in
    subst (λ (x : ℤ). IsGrowingCall q.kind x q.y c.args.self.now c.call.new.hull c.call.result) first
    (subst (λ (y : ℤ). IsGrowingCall q.kind (to_z w64 (of_z w64 q.x)) y c.args.self.now c.call.new.hull c.call.result) second c.call.ensures)
