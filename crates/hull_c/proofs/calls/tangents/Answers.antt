-- the question is asked at the point
use Rattle.std.proofs.Common.{rules, refl, subst, sym}
use Rattle.bucket_tree.specs.Roots.{held_by}
use Rattle.bucket_tree.specs.Sets.{LimitedTree, bucket_set}
use Rattle.hull_set.specs.Replies.{AnswersTangents, reply_to_tangents}
use Rattle.hull_set.specs.declared.call.Call.TheVariants as plain
use Rattle.hull_set.specs.declared.reply.Reply.{Reply}
use Rattle.hull_reply.specs.Requests.{kind_number}
use Rattle.hull_reply.specs.Served.{IsAnswered}
use Rattle.hull_reply.specs.Encoded.{Encodes}
use Rattle.hull_reply.specs.declared.kind.Kind.TheVariants.{Tangents}
use Rattle.hull_reply.specs.declared.reply.HullReply.{HullReply}
use Rattle.hull_c.proofs.Asked.{asked, not_asked}
use Rattle.hull_c.proofs.calls.tangents.Goals.{in-Ok, in-Err}
use Rattle.hull_c.proofs.calls.tangents.Goals as goal

pub returns : goal.returns
returns c =
    elim c.match-point_of.branch [
      | in-Ok w ↦ subst
          (λ (r : HullReply). IsAnswered bucket_set (kind_number Tangents) c.args.x c.args.y c.args.hull.now c.args.hull.now r)
          (sym w.result-is)
          (asked Tangents c.args.x c.args.y (plain.Tangents w.in-Ok.q) c.args.hull.now (reply_to_tangents w.tangents.result)
          w.encoded.result (search rules)
          (subst (λ (t : LimitedTree). AnswersTangents (held_by t.root).points w.in-Ok.q (reply_to_tangents w.tangents.result))
          c.hull.view_is w.tangents.ensures) refl
          (subst (λ (r : Reply). Encodes w.encoded.result r) w.tangents_reply.ensures w.encoded.ensures))
      | in-Err w ↦ subst
          (λ (r : HullReply). IsAnswered bucket_set (kind_number Tangents) c.args.x c.args.y c.args.hull.now c.args.hull.now r)
          (sym w.result-is)
          (not_asked Tangents c.args.x c.args.y w.in-Err.fault c.args.hull.now w.bare.result (search rules) w.bare.ensures)
    ]
