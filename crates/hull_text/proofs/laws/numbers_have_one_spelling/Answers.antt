-- A number's digits are read as the number, and a field that is read as a number has its digits.
use Rattle.std.proofs.Common.{arith, ap, ◌∙◌}
use Rattle.hull_text.specs.Number.{number_of}
use Rattle.hull_text.proofs.Numbers.{number_text, text_number}
use Rattle.hull_text.proofs.laws.numbers_have_one_spelling.Goals as goal

pub returns : goal.returns
returns c = λ f n small. (number_text f n (omega arith), λ e. ap number_of e ∙ text_number n (omega arith))
