-- the words of one number times each word of the other
use Rattle.std.proofs.Common.{◌≡◌, ℕ, ◌+◌, ◌*◌, arith}
use Rattle.first_meeting.specs.Words.{word}
use Rattle.first_meeting.proofs.products.product.Goals as goal

-- a product by the words of both
by_words : (m high low a b above below r : ℕ) → m ≡ a → high * word + low ≡ b → above ≡ m * high → below ≡ m * low
    → r ≡ above * word + below → r ≡ a * b
by_words m high low a b above below r e f g h i = rw (← e, ← f) (omega (arith, g, h, i))

pub returns-clause-value : goal.returns-clause-value
returns-clause-value c =
    by_words _ c.two_words-by_high.result.0 c.two_words-by_high.result.1 c.args.a c.args.b _ _ _ c.two_words-high.ensures
    c.two_words-by_high.ensures c.times_word-above.ensures.value c.times_word-below.ensures.value
    c.sum_of_shifted.ensures.value
