-- there is capacity for both subtrees, whose concatenated entries are those of the fork
use Rattle.std.proofs.Common.{◌∙◌, sym, ap, arith, length, length-append, append_assoc, ◌++◌, List, ℕ}
use Rattle.lattice.specs.Plane.{Pair}
use Rattle.bucket_tree.specs.Lists.{entries_below}
use Rattle.bucket_tree.specs.declared.node.Fork.{Fork as Below}
use Rattle.bucket_tree.proofs.ListedParts.{fork_parts}
use Rattle.bucket_tree.proofs.listing.+push_entries.Goals as goal

pub push_entries-requires-in-Fork : goal.push_entries-requires-in-Fork
push_entries-requires-in-Fork t c =
    let o = fork_parts c.args.node.now c.in-Fork.field-0 c.in-Fork.fork c.in-Fork.is c.requires.buckets in
    rw c.deref-in-Fork-2.ensures (
      omega (arith, c.decreases, o.height),
      (
        o.right_buckets,
        omega (
          arith,
          c.requires.space,
          o.long,
          o.left_long,
          c.push_entries.ensures.capacity,
          ap (λ (z : List (Pair × ℕ)). length z) c.push_entries.ensures.entries,
          ap (λ (z : Below). length (entries_below z.left)) c.deref-in-Fork.ensures,
          length-append c.args.entries.now.items (entries_below c.deref-in-Fork.result.now.left),
        ),
      ),
    )

pub returns-in-Fork-clause-entries : goal.returns-in-Fork-clause-entries
returns-in-Fork-clause-entries t c =
    let o = fork_parts c.args.node.now c.in-Fork.field-0 c.in-Fork.fork c.in-Fork.is c.requires.buckets in
    c.push_entries-in-Fork.ensures.entries
    ∙ ap (λ (z : List (Pair × ℕ)). z ++ entries_below c.deref-in-Fork-2.result.now.right) c.push_entries.ensures.entries
    ∙ ap (λ (z : Below). (c.args.entries.now.items ++ entries_below c.deref-in-Fork.result.now.left)
    ++ entries_below z.right) c.deref-in-Fork-2.ensures
    ∙ ap (λ (z : Below). (c.args.entries.now.items ++ entries_below z.left)
    ++ entries_below c.in-Fork.fork.value.right) c.deref-in-Fork.ensures
    ∙ append_assoc c.args.entries.now.items (entries_below c.in-Fork.fork.value.left) (entries_below c.in-Fork.fork.value.right)
    ∙ ap (λ (z : List (Pair × ℕ)). c.args.entries.now.items ++ z) (sym o.entries)
