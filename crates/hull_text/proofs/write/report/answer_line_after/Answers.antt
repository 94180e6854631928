-- The fields in order are the line.
use Rattle.hull_text.specs.Answers.{answer_fields}
use Rattle.hull_text.specs.Spelling.{call_fields}
use Rattle.hull_text.proofs.Spaces.{◌▹◌, field, fields, line_written}
use Rattle.hull_text.proofs.write.report.answer_line_after.Goals as goal

pub returns : goal.returns
returns g c = line_written c.number_after-done.ensures.wrote
    (fields (call_fields c.args.call.now) c.call_after-done.ensures.wrote ▹ field c.put_after-done.ensures.wrote
    ▹ fields (answer_fields c.args.answer.now) c.answer_after-done.ensures) c.put_after.ensures.wrote
