-- the vertices of the points that are left are those of all
use Rattle.std.proofs.Common.{◌<◌, inl, inr, subst, sym, List, [], arith, length}
use Rattle.std.specs.Prelude.{◌≢◌}
use Rattle.lattice.specs.Plane.{Pair}
use Rattle.lattice.specs.declared.side.Side.TheVariants.{Lower}
use Rattle.hull_set.specs.declared.TheConstants.{POINT_LIMIT}
use Rattle.hull_set.specs.Held.{nothing_held}
use Rattle.leaf_trees.specs.Entries.{AreTooMany}
use Rattle.hull_c.specs.VerticesOf.{AreVerticesOf}
use Rattle.hull_c.proofs.OuterPoints.{all_too_many, outer_vertices, some_outer}
use Rattle.hull_c.proofs.vertices_of.by_outer_points.Goals as goal

pub by_a_hull-requires : goal.by_a_hull-requires
by_a_hull-requires c =
    subst (λ (z : List Pair). 0 < length z) (sym c.deref.ensures.value)
    (some_outer c.args.points.now.items c.drop_inner.new.points.items c.drop_inner.ensures.candidates c.requires)

pub returns : goal.returns
returns c =
    let points : List Pair = c.args.points.now.items in
    let outer : List Pair = c.drop_inner.new.points.items in
    elim c.by_a_hull.ensures [
      | inl w ↦ inl (
        w.0,
        outer_vertices points outer w.0 c.drop_inner.ensures.candidates
            (subst (λ (z : List Pair). AreVerticesOf z w.0) c.deref.ensures.value w.1),
        w.2,
      )
      | inr r ↦ inr (
        r.0,
        elim r.1 [
          | inl many ↦ inl (
            all_too_many points outer POINT_LIMIT c.drop_inner.ensures.sublist
                (c.drop_inner.ensures.candidates Lower).among
                (subst (λ (z : List Pair). AreTooMany nothing_held z POINT_LIMIT) c.deref.ensures.value many.0),
            many.1,
          )
          | inr refused ↦ inr (λ e. some points c.requires e, refused.1)
        ],
      )
    ]
  where
    some : (xs : List Pair) → 0 < length xs → xs ≢ []
    some xs l e = let m : 0 < length {A = Pair} [] = subst (λ (z : List Pair). 0 < length z) e l in omega (arith, m)
