-- the point stays inside, is put between two vertices, or comes beyond them
use Rattle.std.proofs.Common.{◌≡◌, List, inl, inr, sym, ◌∙◌, subst, arith}
use Rattle.lattice.specs.Covers.{with_point}
use Rattle.lattice.specs.Plane.{Pair}
use Rattle.lattice.specs.Vertices.{IsVertexList}
use Rattle.hull_polygon.specs.Insertions.{IsInsertion}
use Rattle.hull_polygon.specs.Polygons.{HoldsOfSetsOf}
use Rattle.hull_polygon.specs.declared.insertions.Insertion.{Insertion}
use Rattle.hull_polygon.specs.declared.insertions.Insertion.TheVariants.{Between, Covered, Beyond}
use Rattle.prepared_set.proofs.Patching.{decided, put_there}
use Rattle.prepared_set.proofs.patches.take_in.Goals as goal

-- what was found of the polygon's vertices holds of the vertices
found_of : (U V : List Pair) (p : Pair) (found : Insertion) → U ≡ V → HoldsOfSetsOf U (IsInsertion U p found)
    → HoldsOfSetsOf V (IsInsertion V p found)
found_of U V p found e h = subst (λ (Z : List Pair). HoldsOfSetsOf Z (IsInsertion Z p found)) e h

pub put_in-requires-clause-insertion : goal.put_in-requires-clause-insertion
put_in-requires-clause-insertion c =
    found_of _ _ c.args.p (Between c.in-Between.after c.in-Between.before) c.polygon.ensures.vertices c.in-Between.ensures.insertion

pub returns-in-Covered-clause-with_it : goal.returns-in-Covered-clause-with_it
returns-in-Covered-clause-with_it c = λ t S o.
    (found_of _ _ c.args.p Covered c.polygon.ensures.vertices c.in-Covered.ensures.insertion S o).1

pub returns-in-Covered-clause-put : goal.returns-in-Covered-clause-put
returns-in-Covered-clause-put c = λ S W i q l m.
    absurd (q.outside (found_of _ _ c.args.p Covered c.polygon.ensures.vertices c.in-Covered.ensures.insertion S q.old).0)

pub returns-in-Covered-clause-spent : goal.returns-in-Covered-clause-spent
returns-in-Covered-clause-spent c = λ S W i q l.
    absurd (q.outside (found_of _ _ c.args.p Covered c.polygon.ensures.vertices c.in-Covered.ensures.insertion S q.old).0)

pub returns-in-Between-clause-with_it : goal.returns-in-Between-clause-with_it
returns-in-Between-clause-with_it c = λ t S o.
    subst (IsVertexList (with_point c.args.p S)) (sym (c.put_in.ensures.put t))
    (found_of _ _ c.args.p (Between c.in-Between.after c.in-Between.before) c.polygon.ensures.vertices
    c.in-Between.ensures.insertion S o).2

pub returns-in-Between-clause-stay : goal.returns-in-Between-clause-stay
returns-in-Between-clause-stay c = λ S o k.
    absurd ((found_of _ _ c.args.p (Between c.in-Between.after c.in-Between.before) c.polygon.ensures.vertices
    c.in-Between.ensures.insertion S o).0 k)

pub returns-in-Between-clause-put : goal.returns-in-Between-clause-put
returns-in-Between-clause-put c = λ S W i q l m.
    let f = put_there S _ c.args.vertices.now W c.in-Between.after c.in-Between.before i c.args.p c.polygon.ensures.vertices
    c.in-Between.ensures.gap c.in-Between.ensures.insertion q in
    elim (decided c.put_in.result) [
      | inl t ↦ inl (t, c.put_in.ensures.put t ∙ f.0, (let s = c.put_in.ensures.spent t in omega (arith, s, f.1)))
      | inr n ↦ inr (n, (let r = c.put_in.ensures.refused n l (omega (arith, f.1, m)) in omega (arith, r, f.2)))
    ]

pub returns-in-Between-clause-spent : goal.returns-in-Between-clause-spent
returns-in-Between-clause-spent c = λ S W i q m.
    let f = put_there S _ c.args.vertices.now W c.in-Between.after c.in-Between.before i c.args.p c.polygon.ensures.vertices
    c.in-Between.ensures.gap c.in-Between.ensures.insertion q in
    elim (decided c.put_in.result) [
      | inl t ↦ absurd (let s = c.put_in.ensures.spent t in omega (arith, s, f.1, m))
      | inr n ↦ n
    ]

pub returns-in-Beyond-clause-stay : goal.returns-in-Beyond-clause-stay
returns-in-Beyond-clause-stay c = λ S o k.
    absurd ((found_of _ _ c.args.p Beyond c.polygon.ensures.vertices c.in-Beyond.ensures.insertion S o).0 k)

pub returns-in-Beyond-clause-put : goal.returns-in-Beyond-clause-put
returns-in-Beyond-clause-put c = λ S W i q l m.
    absurd ((found_of _ _ c.args.p Beyond c.polygon.ensures.vertices c.in-Beyond.ensures.insertion S q.old).1 q.amid)
