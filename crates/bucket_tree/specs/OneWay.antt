-- The proof that a node is whole is unique, as a ghost field requires.
use Rattle.bucket_tree.specs.declared.node.Fork.{Fork}
use Rattle.bucket_tree.specs.declared.node.Node.{Node, Leaf, Fork', Taken}
use Rattle.bucket_tree.specs.Nodes.{IsWhole, AreWhole}

-- that no gap is left below a node has one proof
pub IsWhole-prop : (n : Node) → IsProp (IsWhole n)
IsWhole-prop (Leaf b) = hlevel
IsWhole-prop (Fork' height i left right right_ends upper left_ends lower) =
    let k : IsProp (IsWhole left) = IsWhole-prop left in
    let l : IsProp (IsWhole right) = IsWhole-prop right in
    hlevel (k, l)
IsWhole-prop Taken = λ x y. absurd x

-- and so has the statement that none is left below a fork
pub AreWhole-prop : (f : Fork) → IsProp (AreWhole f)
AreWhole-prop f =
    let k : IsProp (IsWhole f.left) = IsWhole-prop f.left in
    let l : IsProp (IsWhole f.right) = IsWhole-prop f.right in
    hlevel (k, l)
