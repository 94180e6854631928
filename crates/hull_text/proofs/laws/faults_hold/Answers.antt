-- The first fault of the bytes is the fault that is read, and a reading has one result.
use Rattle.hull_text.proofs.Grammars.{no_text_fails, one_answer, one_fault, text_or_fault}
use Rattle.hull_text.proofs.ScriptTexts.{scripts}
use Rattle.hull_text.proofs.JournalFaults.{journals}
use Rattle.hull_text.proofs.laws.faults_hold.Goals as goal

pub returns-clause-script_one : goal.returns-clause-script_one
returns-clause-script_one c = one_fault scripts

pub returns-clause-script_none : goal.returns-clause-script_none
returns-clause-script_none c = no_text_fails scripts

pub returns-clause-script_else : goal.returns-clause-script_else
returns-clause-script_else c = text_or_fault scripts

pub returns-clause-journal_one : goal.returns-clause-journal_one
returns-clause-journal_one c = one_fault journals

pub returns-clause-journal_none : goal.returns-clause-journal_none
returns-clause-journal_none c = no_text_fails journals

pub returns-clause-journal_else : goal.returns-clause-journal_else
returns-clause-journal_else c = text_or_fault journals

pub returns-clause-script_answers : goal.returns-clause-script_answers
returns-clause-script_answers c = one_answer scripts

pub returns-clause-journal_answers : goal.returns-clause-journal_answers
returns-clause-journal_answers c = one_answer journals
