-- a point that is before the first of a chain is before all of it
use Rattle.std.proofs.Common.{◌≡◌, ◌+◌, ◌<◌, ℕ, [], List, length, get_or, drop, sym, subst, arith}
use Rattle.std.specs.List.{All, Contains}
use Rattle.std.proofs.lemmas.List.Elements.{All-contains}
use Rattle.lattice.specs.Plane.{Pair, IsBefore}
use Rattle.hull_geometry.proofs.Middles.{before_all}
use Rattle.hull_geometry.proofs.PointLists.{in_rest, none_from}
use Rattle.hull_plain.proofs.repairing.short_of.Goals as goal

-- an empty list has no member
none_in : (xs : List Pair) (t : Pair) → xs ≡ [] → Contains xs t → ⊥
none_in xs t e m =
    let n : Contains [] t = subst (λ (z : List Pair). Contains z t) e m in absurd (omega (arith, n.1))

pub returns-then-i-len-clause-before : goal.returns-then-i-len-clause-before
returns-then-i-len-clause-before c = λ t m.
    subst (λ (z : List Pair). All (IsBefore t) z)
    (sym (none_from c.args.i c.args.chain.now.items (omega (arith, c.if-i-len.true, c.len.ensures))))
    (λ k d l. absurd (omega (arith, l)))

pub returns-then-i-len-clause-beyond : goal.returns-then-i-len-clause-beyond
returns-then-i-len-clause-beyond c = λ t m all.
    none_in (drop c.len-then-i-len.result c.args.points.now.items) t
    (none_from c.len-then-i-len.result c.args.points.now.items (omega (arith, c.len-then-i-len.ensures))) m

pub returns-else-i-len-clause-before : goal.returns-else-i-len-clause-before
returns-else-i-len-clause-before c = λ t m.
    let l : c.args.i + 0 < length c.args.chain.now.items =
    omega (arith, c.if-i-len.false, c.len.ensures, c.requires.inside) in
    let here : c.args.i ≡ c.args.i + 0 = omega arith in
    let at = in_rest c.args.chain.now.items c.args.i 0 c.get.result l
    (subst (λ (n : ℕ). c.get.result ≡ get_or c.args.chain.now.items n c.get.result) here c.get.ensures) in
    before_all (drop c.args.i c.args.chain.now.items) c.get.result t c.requires.chain_ordered at.within at.point
    (All-contains (λ u. IsBefore u c.get.result) _ t c.first_not_before.ensures.below m)

pub returns-else-i-len-clause-beyond : goal.returns-else-i-len-clause-beyond
returns-else-i-len-clause-beyond c = λ t m all.
    let l : c.args.i + 0 < length c.args.chain.now.items =
    omega (arith, c.if-i-len.false, c.len.ensures, c.requires.inside) in
    let here : c.args.i ≡ c.args.i + 0 = omega arith in
    let at = in_rest c.args.chain.now.items c.args.i 0 c.get.result l
    (subst (λ (n : ℕ). c.get.result ≡ get_or c.args.chain.now.items n c.get.result) here c.get.ensures) in
    All-contains (λ u. ¬ (IsBefore u c.get.result)) _ t c.first_not_before.ensures.rest m
    (subst (IsBefore t) (sym at.point) (all 0 c.get.result at.within))
