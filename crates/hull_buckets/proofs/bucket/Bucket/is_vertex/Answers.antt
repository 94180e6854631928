-- the mask of the side has no such index
use Rattle.std.proofs.Common.{sym, ◌∙◌}
use Rattle.std.proofs.lemmas.Bool.{false≢true}
use Rattle.hull_buckets.proofs.Covered.{covered}
use Rattle.hull_buckets.proofs.bucket.Bucket.is_vertex.Goals as goal

pub returns : goal.returns
returns c = λ f.
    covered c.args.side c.args.self.now.points c.vertices.result c.args.place c.buckets_are_sound.ensures.ordered
    c.vertices.ensures.vertices c.requires (λ e. false≢true (sym f ∙ c.has.ensures.1 e))
