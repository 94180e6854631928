-- the texts so far are those of the words so far
use Rattle.std.proofs.Common.{◌≡◌, take}
use Rattle.hull_program.specs.Words.{texts_of, words_as_texts}
use Rattle.hull_program.proofs.words.texts_of.Given as goal

abbrev pub invariant-loop-word : goal.invariant-loop-word
invariant-loop-word l = texts_of l.texts.items ≡ words_as_texts (take l.word-index l.words)
