-- The grammar's value of a text is the result of reading, and a reading has one result.
use Rattle.std.proofs.Common.{refl, ap, ◌∙◌}
use Rattle.hull_text.specs.JournalReading.{journal_of}
use Rattle.hull_text.proofs.Grammars.{one_value}
use Rattle.hull_text.proofs.ScriptTexts.{scripts}
use Rattle.hull_text.proofs.JournalTexts.{journal_taken, journal_again}
use Rattle.hull_text.proofs.JournalFaults.{journals}
use Rattle.hull_text.proofs.laws.texts_hold.Goals as goal

pub returns-clause-scripts : goal.returns-clause-scripts
returns-clause-scripts c = one_value scripts

pub returns-clause-journals : goal.returns-clause-journals
returns-clause-journals c = one_value journals

pub returns-clause-one : goal.returns-clause-one
returns-clause-one c = λ v j said. (v, said, refl)

pub returns-clause-again : goal.returns-clause-again
returns-clause-again c = λ v j said. journal_again v j said

pub returns-clause-reading : goal.returns-clause-reading
returns-clause-reading c = λ bytes j. (journal_taken bytes j, λ t. ap journal_of t.2 ∙ journal_again t.0 j t.1)
