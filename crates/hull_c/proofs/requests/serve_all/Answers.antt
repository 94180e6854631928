use Rattle.std.proofs.Common.{rules, inl, inr}
use Rattle.std.proofs.lemmas.List.{drop_more}
use Rattle.hull_c.proofs.Served.{ends, ends_bad, one_more, rest_on}
use Rattle.hull_c.proofs.requests.serve_all.Goals as goal

pub returns-then-is_bad : goal.returns-then-is_bad
returns-then-is_bad g c =
    ends_bad _ _ _ _ _ _ _ c.loop-made.invariant.on c.loop-made.invariant.rest _ _ _ (search rules) (search rules)
    (search rules) (drop_more c.args.requests.now c.loop-made.made _ (search rules)) c.serve-reply.ensures
    (search rules)

pub loop-made-preserved : goal.loop-made-preserved
loop-made-preserved g c = record {
  on = one_more _ _ _ _ _ _ _ c.loop-made.invariant.on c.loop-made.invariant.rest _ _ _ (search rules) (search rules)
      (search rules) (drop_more c.args.requests.now c.loop-made.made _ (search rules)) c.serve-reply.ensures
      (search rules);
  rest = rest_on _ _ _ _ _ _ _ c.loop-made.invariant.on c.loop-made.invariant.rest _ _ _ (search rules) (search rules)
      (search rules) (drop_more c.args.requests.now c.loop-made.made _ (search rules)) c.serve-reply.ensures;
  long = search rules;
}

pub returns-else-made-replies : goal.returns-else-made-replies
returns-else-made-replies g c = ends _ _ _ _ _ _ _ c.loop-made.invariant.on c.loop-made.invariant.rest (inr (search rules))

pub returns-after-loop-made : goal.returns-after-loop-made
returns-after-loop-made g c = ends _ _ _ _ _ _ _ c.loop-made.invariant.on c.loop-made.invariant.rest (inl (search rules))
