-- what is in order among others in order is no more than those
use Rattle.std.proofs.Common.{arith}
use Rattle.bucket_tree.specs.Nodes.{tree_of}
use Rattle.bucket_tree.proofs.NodePoints.{whole}
use Rattle.bucket_tree.proofs.NodeSizes.{few_vertices, height_size}
use Rattle.bucket_tree.proofs.questions.vertices_are_few.Goals as goal

pub returns-clause-few : goal.returns-clause-few
returns-clause-few c = few_vertices c.args.node.now c.requires

pub returns-clause-low : goal.returns-clause-low
returns-clause-low c = omega (arith, few_vertices c.args.node.now c.requires, height_size (tree_of c.args.node.now))

pub returns-clause-whole : goal.returns-clause-whole
returns-clause-whole c = whole c.args.node.now c.requires.buckets
