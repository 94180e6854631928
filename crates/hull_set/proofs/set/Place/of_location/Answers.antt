-- a point outside is separated by a line; else the location is the place
use Rattle.lattice.specs.declared.side.Side.TheVariants.{Lower, Upper}
use Rattle.hull_geometry.proofs.EdgesAt.{outside_before, outside_after, outside_right}
use Rattle.hull_set.proofs.set.Place.of_location.Goals as goal

pub returns-in-Before : goal.returns-in-Before
returns-in-Before c = λ first last S q ends location. outside_before S first q ends.0.1 (rw c.in-Before.is at location)

pub returns-in-After : goal.returns-in-After
returns-in-After c = λ first last S q ends location. outside_after S last q ends.1.1 (rw c.in-After.is at location)

pub returns-in-Below : goal.returns-in-Below
returns-in-Below c = λ first last S q ends location. outside_right Lower S q (rw c.in-Below.is at location).1

pub returns-in-Above : goal.returns-in-Above
returns-in-Above c = λ first last S q ends location. outside_right Upper S q (rw c.in-Above.is at location).1

pub returns-in-Touching : goal.returns-in-Touching
returns-in-Touching c = λ first last S q ends location. rw c.in-Touching.is at location

pub returns-in-Within : goal.returns-in-Within
returns-in-Within c = λ first last S q ends location. rw c.in-Within.is at location
