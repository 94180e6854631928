-- the question is asked along the direction
use Rattle.std.proofs.Common.{rules, refl, subst, sym}
use Rattle.bucket_tree.specs.Roots.{held_by}
use Rattle.bucket_tree.specs.Sets.{LimitedTree, bucket_set}
use Rattle.hull_set.specs.Replies.{AnswersExtreme, reply_to_extreme}
use Rattle.hull_set.specs.declared.call.Call.TheVariants as plain
use Rattle.hull_reply.specs.Requests.{kind_number}
use Rattle.hull_reply.specs.Served.{IsAnswered}
use Rattle.hull_reply.specs.declared.kind.Kind.TheVariants.{Extreme}
use Rattle.hull_reply.specs.declared.reply.HullReply.{HullReply}
use Rattle.hull_c.proofs.Asked.{asked, not_asked}
use Rattle.hull_c.proofs.calls.extreme.Goals.{in-Ok, in-Err}
use Rattle.hull_c.proofs.calls.extreme.Goals as goal

pub returns : goal.returns
returns c =
    elim c.match-direction_of.branch [
      | in-Ok w ↦ subst
          (λ (r : HullReply). IsAnswered bucket_set (kind_number Extreme) c.args.x c.args.y c.args.hull.now c.args.hull.now r)
          (sym w.result-is)
          (asked Extreme c.args.x c.args.y (plain.Extreme w.in-Ok.d) c.args.hull.now (reply_to_extreme w.extreme.result)
          w.encoded_farthest.result (search rules)
          (subst (λ (t : LimitedTree). AnswersExtreme (held_by t.root).points w.in-Ok.d (reply_to_extreme w.extreme.result))
          c.hull.view_is w.extreme.ensures) refl w.encoded_farthest.ensures)
      | in-Err w ↦ subst
          (λ (r : HullReply). IsAnswered bucket_set (kind_number Extreme) c.args.x c.args.y c.args.hull.now c.args.hull.now r)
          (sym w.result-is)
          (not_asked Extreme c.args.x c.args.y w.in-Err.fault c.args.hull.now w.bare.result (search rules) w.bare.ensures)
    ]
