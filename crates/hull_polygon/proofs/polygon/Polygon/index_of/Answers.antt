-- a vertex is on one of the chains
use Rattle.std.proofs.Common.{◌<◌, length, List, inl, inr, arith}
use Rattle.std.specs.Prelude.{ℕ, ◌≡◌, Option, Some, None, IfNone, MatchOption}
use Rattle.std.specs.List.{Contains}
use Rattle.lattice.specs.Plane.{Pair}
use Rattle.lattice.specs.declared.side.Side.TheVariants.{Lower, Upper}
use Rattle.hull_polygon.specs.Rounds.{vertex}
use Rattle.hull_polygon.specs.Touches.{StandsOn}
use Rattle.hull_polygon.proofs.Staying.{on_either, stay_without}
use Rattle.hull_polygon.proofs.polygon.Polygon.index_of.Goals as goal

-- a point on neither chain is no vertex
on_neither : (V : List Pair) (last : ℕ) (p : Pair) (o : Option ℕ) (P : ℕ → Type 0) → ¬ StandsOn Lower V last p
    → MatchOption o (¬ StandsOn Upper V last p) P → MatchOption o (¬ Contains V p) P
on_neither V last p (Some i) P n h = h
on_neither V last p None P n h = λ m. elim (on_either V last p m) [ inl k ↦ n k | inr k ↦ h k ]

pub returns-in-None-clause-index : goal.returns-in-None-clause-index
returns-in-None-clause-index c =
    let V = c.args.self.now.vertices.now in
    on_neither V c.args.self.now.last c.args.p c.index_on-in-None.result (λ i. (i < length V) × (vertex V i ≡ c.args.p))
    c.in-None.ensures c.index_on-in-None.ensures

-- without an index there is no vertex
absent : {A : Type 0} (o : Option ℕ) (P : ℕ → Type 0) (N : Type 0) → (N → A) → MatchOption o N P → IfNone o A
absent (Some i) P N f h = tt
absent None P N f h = f h

pub returns-then-is_empty-clause-stays : goal.returns-then-is_empty-clause-stays
returns-then-is_empty-clause-stays c = λ S o.
    let none : length c.args.self.now.vertices.now ≡ 0 = grind (arith, c.is_empty.ensures, c.if-is_empty.true) in
    stay_without S c.args.self.now.vertices.now c.args.self.now.last c.args.p o c.args.self.now.separated
    (λ m. omega (arith, none, m.1))

pub returns-in-None-clause-stays : goal.returns-in-None-clause-stays
returns-in-None-clause-stays c =
    let V = c.args.self.now.vertices.now in
    absent c.index_on-in-None.result (λ i. (i < length V) × (vertex V i ≡ c.args.p)) (¬ Contains V c.args.p)
    (λ n S o. stay_without S V c.args.self.now.last c.args.p o c.args.self.now.separated n)
    (on_neither V c.args.self.now.last c.args.p c.index_on-in-None.result (λ i. (i < length V) × (vertex V i ≡ c.args.p))
    c.in-None.ensures c.index_on-in-None.ensures)
