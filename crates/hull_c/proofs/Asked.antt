-- A question that is served by a function of its own is answered as the call of its kind.
use Rattle.std.proofs.Common.{◌≡◌, ℕ, ℤ, Result, Ok, Err, ap, inl, refl}
use Rattle.bucket_tree.specs.Roots.{held_by}
use Rattle.bucket_tree.specs.Sets.{LimitedTree, bucket_set}
use Rattle.hull_set.specs.Replies.{Answers, after}
use Rattle.hull_set.specs.declared.call.Call as plain
use Rattle.hull_set.specs.declared.reply.Reply.{Reply}
use Rattle.hull_set.specs.declared.rules.Rules.TheVariants.{Counted}
use Rattle.hull_set.specs.declared.set.HullSet.{Ghosts}
use Rattle.prepared_set.specs.Known.{PreparedValue}
use Rattle.hull_reply.specs.Requests.{IsRequestAs, kind_number}
use Rattle.hull_reply.specs.Served.{IsAnswered, IsServedFor}
use Rattle.hull_reply.specs.Encoded.{IsBare, Encodes}
use Rattle.hull_reply.specs.declared.code.Code.{Code}
use Rattle.hull_reply.specs.declared.kind.Kind.{Kind}
use Rattle.hull_reply.specs.declared.reply.HullReply.{HullReply}
use Rattle.hull_reply.specs.declared.request.Request.{Request}
use Rattle.hull_reply.specs.declared.request.Request.TheVariants.{Call, Multiplicity}

-- the reply is allowed and changes nothing
pub asked : (k : Kind) (x y : ℤ) (call : plain.Call) (t : LimitedTree) (reply : Reply) (encoded : HullReply)
    → IsRequestAs k x y (Ok (Call call)) → Answers Counted (held_by t.root) t.limit call reply
    → held_by t.root ≡ after (held_by t.root) call reply → Encodes encoded reply
    → IsAnswered bucket_set (kind_number k) x y t t encoded
asked k x y call t reply encoded r a e n = (
  Ok (Call call),
  inl (k, refl, r),
  record { reply = reply; reports = n; allowed = a; effect = e; same_limit = refl; sound = λ s. s },
)

-- a refusal states why there is no call
pub not_asked : (k : Kind) (x y : ℤ) (fault : Code) (t : LimitedTree) (encoded : HullReply) → IsRequestAs k x y (Err fault)
    → IsBare fault encoded → IsAnswered bucket_set (kind_number k) x y t t encoded
not_asked k x y fault t encoded r n = (Err fault, inl (k, refl, r), (refl, n))

-- a tree with its vertices as a set of points: the tree is
abbrev pub prepared_tree : Ghosts (PreparedValue LimitedTree)
prepared_tree = record { held = λ w. held_by w.set.root; bound = λ w. w.set.limit; sound = λ w. bucket_set.sound w.set }

-- what is answered for a tree with its vertices is answered for the tree
pub of_prepared : (kind : ℕ) (x y : ℤ) (old new : PreparedValue LimitedTree) (encoded : HullReply)
    → IsAnswered prepared_tree kind x y old new encoded → IsAnswered bucket_set kind x y old.set new.set encoded
of_prepared kind x y old new encoded (request, is, served) = (request, is, go request served)
  where
    go : (request : Result Request Code) → IsServedFor prepared_tree request old new encoded
        → IsServedFor bucket_set request old.set new.set encoded
    go (Ok (Call call)) s = record {
      reply = s.reply;
      reports = s.reports;
      allowed = s.allowed;
      effect = s.effect;
      same_limit = s.same_limit;
      sound = s.sound;
    }
    go (Ok (Multiplicity p)) s = (ap (λ (z : PreparedValue LimitedTree). z.set) s.0, s.1)
    go (Err fault) s = (ap (λ (z : PreparedValue LimitedTree). z.set) s.0, s.1)
