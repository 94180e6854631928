-- the strings are the words so far, and there is capacity for all
use Rattle.std.proofs.Common.{◌≡◌, ◌≤◌, length, take, vec_capacity}
use Rattle.hull_program.specs.Words.{texts_of, words_as_texts}
use Rattle.hullbook.proofs.options.parse.strings_of.Given as goal

abbrev pub invariant-loop-word : goal.invariant-loop-word
invariant-loop-word l = record {
  same : words_as_texts l.found.items ≡ texts_of (take l.word-index l.words);
  space : length l.words ≤ vec_capacity l.found;
}
