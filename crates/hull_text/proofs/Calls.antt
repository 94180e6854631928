-- The calls that texts spell.
use Rattle.std.proofs.Common.{◌≡◌, List, [], ◌∷◌, ◌++◌, Some, Ok, true, refl, subst}
use Rattle.hull_set.specs.declared.call.Call.{Call}
use Rattle.hull_set.specs.declared.call.Call.TheVariants as call
use Rattle.hull_text.specs.declared.version.Version.{Version}
use Rattle.hull_text.specs.declared.words.CallWord.{CallWord}
use Rattle.hull_text.specs.declared.words.CallWord.TheVariants as word
use Rattle.hull_text.specs.Words.{call_word_of, call_word_text, call_words}
use Rattle.hull_text.specs.Field.{Field}
use Rattle.hull_text.specs.Call.{call_after, call_at}
use Rattle.hull_text.specs.Spelling.{IsCall, call_fields}
use Rattle.hull_text.proofs.Binds.{ok_is}
use Rattle.hull_text.proofs.Fields.{points, directions}
use Rattle.hull_text.proofs.Joined.{are_fields}
use Rattle.hull_text.proofs.Formats.{Format, behind, worded}

-- the fields are spelled there, and the call is one of the version
abbrev Takes : Version → List Field → Call × List Field → Type 0
Takes v fs c = (fs ≡ call_fields c.0 ++ c.1) × IsCall v c.0

-- a call that was read is the word and the fields that spell it
after_takes : (v : Version) (w : CallWord) (fs : List Field) (c : Call × List Field) → call_after v (Some w) fs ≡ Ok c
    → Takes v (call_word_text w ∷ fs) c
unfolding call_after
-- written by tools/table.py: a case for each call word
after_takes v word.Add fs c e = behind (points v) (IsCall v) call_fields _ call.Add (λ p h. (refl, h)) fs c e
after_takes v word.Remove fs c e = behind (points v) (IsCall v) call_fields _ call.Remove (λ p h. (refl, h)) fs c e
after_takes v word.Extreme fs c e = behind (directions v) (IsCall v) call_fields _ call.Extreme (λ d h. (refl, h)) fs c e
after_takes v word.Place fs c e = behind (points v) (IsCall v) call_fields _ call.Place (λ p h. (refl, h)) fs c e
after_takes v word.Tangents fs c e = behind (points v) (IsCall v) call_fields _ call.Tangents (λ p h. (refl, h)) fs c e
-- end of what tools/table.py writes
after_takes v w fs c e = subst (Takes v (_ ∷ fs)) (ok_is _ c e) (refl, tt)

-- a call that is read is spelled there
call_takes : (v : Version) (fs : List Field) (c : Call × List Field) → call_at v fs ≡ Ok c → Takes v fs c
unfolding call_at call_after call_word_of
call_takes v [] c e = absurd cc
call_takes v (f ∷ fs) c e =
    worded call_word_text call_words (call_after v) f fs c (λ t. Takes v (t ∷ fs) c) refl (λ w. after_takes v w fs c) e

-- a call that is spelled is read
call_again : (v : Version) (c : Call) (rest : List Field) → IsCall v c → call_at v (call_fields c ++ rest) ≡ Ok (c, rest)
unfolding call_at call_after call_word_of
-- written by tools/table.py: a case for each call, read again
call_again v (call.Add p) rest fits = rw ((points v).again p rest fits) refl
call_again v (call.Remove p) rest fits = rw ((points v).again p rest fits) refl
call_again v (call.Extreme d) rest fits = rw ((directions v).again d rest fits) refl
call_again v (call.Place p) rest fits = rw ((points v).again p rest fits) refl
call_again v (call.Tangents p) rest fits = rw ((points v).again p rest fits) refl
-- end of what tools/table.py writes
call_again v c rest fits = refl

-- what spells a call are fields
call_are_fields : (v : Version) (c : Call) → IsCall v c → are_fields (call_fields c) ≡ true
-- written by tools/table.py: a case for each call, of fields
call_are_fields v (call.Add p) fits = (points v).fields p fits
call_are_fields v (call.Remove p) fits = (points v).fields p fits
call_are_fields v (call.Extreme d) fits = (directions v).fields d fits
call_are_fields v (call.Place p) fits = (points v).fields p fits
call_are_fields v (call.Tangents p) fits = (points v).fields p fits
-- end of what tools/table.py writes
call_are_fields v c fits = refl

-- The calls of a version are a format.
pub calls : (v : Version) → Format (IsCall v) call_fields (call_at v)
calls v = record { takes = call_takes v; again = call_again v; fields = call_are_fields v }
