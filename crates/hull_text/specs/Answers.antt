-- Answers in a report: a reply, or that the journal was full.
use Rattle.std.specs.Prelude.{ℕ, List, [], ◌∷◌, ◌++◌, codes, decimal, Ok, Err}
use Rattle.hull_set.specs.declared.call.Call.{Call}
use Rattle.hull_book.specs.Answers.{Answer}
use Rattle.hull_text.specs.Spelling.{call_fields, reply_fields, line_text}

-- an answer is spelled as its reply, or by a word
abbrev pub answer_fields : Answer → List (List ℕ)
answer_fields (Ok reply) = reply_fields reply
answer_fields (Err full) = codes "full" ∷ []

-- a line of a report: a worker, a call and its answer
abbrev pub answer_line : ℕ → Call → Answer → List ℕ
answer_line worker call answer = line_text (decimal worker ∷ (call_fields call ++ codes "=" ∷ answer_fields answer))

-- a line for each call of a worker, in order
unfoldable pub answers_text : ℕ → List Call → List Answer → List ℕ
answers_text worker [] answers = []
answers_text worker (call ∷ calls) [] = []
answers_text worker (call ∷ calls) (answer ∷ answers) =
    answer_line worker call answer ++ answers_text worker calls answers
