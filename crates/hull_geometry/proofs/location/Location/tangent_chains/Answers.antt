-- each location determines on which side of both chains the point lies
use Rattle.std.specs.List.{Contains}
use Rattle.lattice.specs.Plane.{Pair, IsBefore}
use Rattle.lattice.specs.declared.side.Side.TheVariants.{Lower, Upper}
use Rattle.hull_geometry.proofs.EdgesAt.{up_to, on_from, outside_before, outside_after, outside_right}
use Rattle.hull_geometry.proofs.Views.{clear_before, clear_after, clear_right}
use Rattle.hull_geometry.proofs.location.Location.tangent_chains.Goals as goal

pub returns-in-Before : goal.returns-in-Before
returns-in-Before c = λ first last S q ends location.
    let before = rw c.in-Before.is at location in
    let all : (t : Pair) → Contains S t → IsBefore q t = λ t m. on_from q first t before (ends.0.1 t m) in
    let l = on_from q first last before (ends.0.1 last ends.1.0) in
    (outside_before S first q ends.0.1 before, (clear_before Upper S q all, l), (clear_before Lower S q all, l))

pub returns-in-After : goal.returns-in-After
returns-in-After c = λ first last S q ends location.
    let after = rw c.in-After.is at location in
    let all : (t : Pair) → Contains S t → IsBefore t q = λ t m. up_to t last q (ends.1.1 t m) after in
    let f = up_to first last q (ends.1.1 first ends.0.0) after in
    (outside_after S last q ends.1.1 after, (clear_after Lower S q all, f), (clear_after Upper S q all, f))

pub returns-in-Below : goal.returns-in-Below
returns-in-Below c = λ first last S q ends location.
    let (between, edge) = rw c.in-Below.is at location in
    let b = clear_right Lower S q edge in
    (outside_right Lower S q edge, (b, between.0), (b, between.1))

pub returns-in-Above : goal.returns-in-Above
returns-in-Above c = λ first last S q ends location.
    let (between, edge) = rw c.in-Above.is at location in
    let a = clear_right Upper S q edge in
    (outside_right Upper S q edge, (a, between.1), (a, between.0))

pub returns-in-Touching : goal.returns-in-Touching
returns-in-Touching c = λ first last S q ends location. (rw c.in-Touching.is at location).0

pub returns-in-Within : goal.returns-in-Within
returns-in-Within c = λ first last S q ends location. (rw c.in-Within.is at location).0
