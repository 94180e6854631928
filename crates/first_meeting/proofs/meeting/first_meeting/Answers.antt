-- polygons that stay apart never meet
use Rattle.first_meeting.proofs.FirstOfBoth.{apart_and_never}
use Rattle.first_meeting.proofs.meeting.first_meeting.Goals as goal

pub returns-then-is_found_apart_during : goal.returns-then-is_found_apart_during
returns-then-is_found_apart_during c = λ S o T q. apart_and_never S T c.args.motion (c.is_found_apart_during.ensures S o T q c.if-is_found_apart_during.true)
