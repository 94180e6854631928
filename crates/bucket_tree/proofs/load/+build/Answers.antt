-- the halves fill a tree that is one fork lower
use Rattle.std.proofs.Common.{◌-◌, ◌/◌, length, refl, sym, subst, arith, take, drop}
use Rattle.bucket_tree.specs.Loads.{IsLoad}
use Rattle.bucket_tree.proofs.Halves.{first_load, second_load}
use Rattle.bucket_tree.proofs.load.+build.Goals as goal

pub build-requires : goal.build-requires
build-requires t c = (
  omega (arith, c.if-forks-eq0.false, c.decreases),
  subst (λ z. IsLoad z c.split_at-2.result.0.now (c.args.forks - 1)) (sym c.split_at.ensures.front)
      (subst (λ z. IsLoad (take (length c.args.points.now / 2) c.args.points.now) z (c.args.forks - 1))
      (sym c.split_at-2.ensures.front)
      (first_load c.args.points.now c.args.multiplicities.now c.args.forks (length c.args.points.now / 2) c.requires
      (omega (arith, c.if-forks-eq0.false)) refl)),
)

pub build-requires-2 : goal.build-requires-2
build-requires-2 t c = (
  omega (arith, c.if-forks-eq0.false, c.decreases),
  subst (λ z. IsLoad z c.split_at-2.result.1.now (c.args.forks - 1)) (sym c.split_at.ensures.back)
      (subst (λ z. IsLoad (drop (length c.args.points.now / 2) c.args.points.now) z (c.args.forks - 1))
      (sym c.split_at-2.ensures.back)
      (second_load c.args.points.now c.args.multiplicities.now c.args.forks (length c.args.points.now / 2) c.requires
      (omega (arith, c.if-forks-eq0.false)) refl)),
)
