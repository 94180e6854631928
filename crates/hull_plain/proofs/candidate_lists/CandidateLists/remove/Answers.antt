-- the points of the candidate lists were points of the set, so each is in the rest or is the one that was removed
use Rattle.hull_geometry.proofs.Mended.{left_or_gone}
use Rattle.hull_plain.proofs.candidate_lists.CandidateLists.remove.Goals as goal

pub take_off-below-requires-clause-among : goal.take_off-below-requires-clause-among
take_off-below-requires-clause-among c = λ t m.
    left_or_gone c.args.p _ c.requires.candidate_lists.0 t c.requires.candidate_lists.3 (c.requires.candidate_lists.2.below.among t m)

pub take_off-above-requires-clause-among : goal.take_off-above-requires-clause-among
take_off-above-requires-clause-among c = λ t m.
    left_or_gone c.args.p _ c.requires.candidate_lists.0 t c.requires.candidate_lists.3 (c.requires.candidate_lists.2.above.among t m)
