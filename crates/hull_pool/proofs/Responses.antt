-- Each call is answered by its line.
use Rattle.std.proofs.Common.{◌≡◌, ℕ, zero, suc, List, [], ◌∷◌, ◌++◌, Ok, Err, sym, refl, ap, subst, ◌∙◌, arith}
use Rattle.std.proofs.lemmas.Grind.{common_steps}
use Rattle.std.proofs.Common.{Bool, length, length-append, box_value}
use Rattle.std.proofs.lemmas.List.{append_cancel_left, map-append}
use mathlib.Core.Option.{some, some-injective, some-ne-none}
use lib.ListN.{get_elem?}
use Rattle.hull_set.specs.declared.call.Call.{Call}
use Rattle.hull_set.specs.declared.set.HullSet.{Ghosts}
use Rattle.hull_book.specs.declared.head.BookHead.{BookHead}
use Rattle.hull_book.specs.declared.head.Head.{Head}
use Rattle.hull_book.specs.declared.line.Line.{Line}
use Rattle.hull_book.specs.Answers.{Answer}
use Rattle.hull_book.specs.Books.{says_boxed}
use Rattle.hull_book.specs.History.{IsLegal}
use Rattle.ticket_lock.specs.declared.chronicle.Chronicle as lock
use Rattle.ticket_lock.specs.World.{Event, hands_on}
use Rattle.ticket_lock.specs.Forms.{partitioned_form}
use Rattle.ticket_lock.specs.Linearizable as linear
use Rattle.ticket_lock.specs.Linearizable.{book_after, journal_after, Linearizable}
use Rattle.ticket_lock.specs.Schedule.{SchedulesHold}
use Rattle.hull_book.specs.Served.{HasServed, HasServedLong}
use Rattle.hull_book.specs.Kinds.{Kind}
use Rattle.hull_book.specs.declared.marked_line.MarkedLine.{MarkedLine}
use Rattle.hull_pool.specs.Responses.{Agree, AnswersAreOfLines, LongAnswersAreOfLines}

-- a list is not the same with one more
pub no_longer : {A : Type 0} (xs : List A) (x : A) → xs ≡ xs ++ x ∷ [] → ⊥
no_longer xs x e = let long = ap length e in let one = length-append xs (x ∷ []) in omega arith

-- two lists that are one and one more have the same last
same_last : {A : Type 0} (xs : List A) (x y : A) → xs ++ x ∷ [] ≡ xs ++ y ∷ [] → x ≡ y
same_last xs x y e = let last = append_cancel_left xs (x ∷ []) (y ∷ []) e in cc

-- the journal after a hand on is that of the book handed on
pub after_hand_on : {B H L : Type 0} (K : lock.Ghosts B H L) (b : B) (es : List (Event B)) (r k : ℕ) (c : B)
    → get_elem? es r ≡ some (hands_on k c) → journal_after K b es (suc r) ≡ K.lines c
after_hand_on K b [] r k c at = absurd (some-ne-none (hands_on k c) (sym at))
after_hand_on K b (e ∷ es) zero k c at =
    ap (λ (x : Event _). K.lines (book_after x b)) (some-injective e (hands_on k c) at)
after_hand_on K b (e ∷ es) (suc r) k c at = after_hand_on K (book_after e b) es r k c at

-- a call that added the line was answered with its reply
replied : (head : Head) (t k : ℕ) (call : Call) (found after : List Line) (answer : Answer) (line : Line)
    → HasServed head t k call found after answer → after ≡ found ++ line ∷ []
    → (line.seat ≡ k) × (line.call ≡ call) × (answer ≡ Ok line.reply)
replied head t k call found after (Ok reply) line served adds = grind (arith, common_steps, same_last)
replied head t k call found after (Err f) line served adds = absurd (no_longer found line (sym served.1 ∙ adds))

-- a call that added none was answered that the journal is full
refused : (head : Head) (t k : ℕ) (call : Call) (found after : List Line) (answer : Answer)
    → HasServed head t k call found after answer → after ≡ found → answer ≡ Err (record {})
refused head t k call found after (Ok reply) served same =
    absurd (no_longer found (record { number = t; seat = k; call = call; reply = reply }) (sym same ∙ served.1))
refused head t k call found after (Err f) served same = refl

-- a call that added a marked line was answered with its reply, and one that added none that it was refused
pub long_replied : (head : Head) (drains : Bool) (t k : ℕ) (call : Call) (found after : List MarkedLine) (answer : Answer)
    (l : MarkedLine) → HasServedLong head drains t k call found after answer → after ≡ found ++ l ∷ []
    → (l.line.seat ≡ k) × (l.line.call ≡ call) × (answer ≡ Ok l.line.reply)
long_replied head drains t k call found after answer l served adds = grind (arith, common_steps, replied, map-append)

long_refused : (head : Head) (drains : Bool) (t k : ℕ) (call : Call) (found after : List MarkedLine) (answer : Answer)
    → HasServedLong head drains t k call found after answer → after ≡ found → answer ≡ Err (record {})
long_refused head drains t k call found after answer served same = grind (arith, common_steps, refused)

-- the answers of calls that were served agree with the lines that they added
agreed : {B H L : Type 0} (says : lock.Ghosts B H L) (line_of : L → Line) (b : B) (es : List (Event B))
    (calls : ℕ → Call) (answers : ℕ → Answer) (lines : List L)
    (served : ℕ → ℕ → Call → List L → List L → Answer → Type 0)
    → ((r k : ℕ) (call : Call) (found after : List L) (answer : Answer) (l : L) → served r k call found after answer
    → after ≡ found ++ l ∷ []
    → ((line_of l).seat ≡ k) × ((line_of l).call ≡ call) × (answer ≡ Ok (line_of l).reply))
    → ((r k : ℕ) (call : Call) (found after : List L) (answer : Answer) → served r k call found after answer
    → after ≡ found → answer ≡ Err (record {}))
    → linear.IsSequentialHistory says b es lines
    → ((r k : ℕ) (c : B) → get_elem? es r ≡ some (hands_on k c)
    → served r k (calls r) (journal_after says b es r) (says.lines c) (answers r))
    → Agree says line_of b es calls answers lines
agreed says line_of b es calls answers lines served replies refuses history are = record {
  sequential = history;
  replies = λ k i r p l x. let s = are r k x.ends.0 x.ends.1 in
      replies r k (calls r) (journal_after says b es r) (says.lines x.ends.0) (answers r) l s
      (sym (after_hand_on says b es r k x.ends.0 x.ends.1) ∙ x.adds);
  fulls = λ k i r f. let s = are r k f.full.0 f.full.1 in
      refuses r k (calls r) (journal_after says b es r) (says.lines f.full.0) (answers r) s
      (sym (after_hand_on says b es r k f.full.0 f.full.1) ∙ f.same);
}

module _ {S : Type 0} (K : Ghosts S) where
  -- the law, from those of the lock
  pub answers_are : SchedulesHold (says_boxed K) partitioned_form → Linearizable (says_boxed K) partitioned_form
      → AnswersAreOfLines K
  answers_are holds law n b w u es calls answers opened runs served =
      let ran = law n b w u es opened runs in
      let good = (holds n b w u es opened runs).0 in
      let reports : linear.HeadReturnsCapacity (says_boxed K) = λ x y e. ap (λ (h : BookHead). h.journal.capacity) e in
      record {
        legal = subst (λ (h : BookHead). IsLegal h.journal (box_value u.current).lines) good.head ran.0.legal;
        agree = agreed (says_boxed K) (λ line. line) b es calls answers (box_value u.current).lines
            (λ r k call found after answer. (t : ℕ)
            × HasServed (box_value b).head.journal t k call found after answer)
            (λ r k call found after answer line s e. replied (box_value b).head.journal s.0 k call found after answer line
            s.1 e)
            (λ r k call found after answer s e. refused (box_value b).head.journal s.0 k call found after answer s.1 e)
            ran.1 served;
        fulls_last = λ k i r j a s p line f x. ran.1.full_last reports k i r j a s p line f x;
      }

-- the law of books of a kind that may be drained, from that of the lock
pub long_answers_are : {S B H : Type 0} (kind : Kind S B H MarkedLine) (head_of : H → BookHead)
    → ((b : B) → kind.says.lawful b → IsLegal (kind.whole b).head.journal (kind.whole b).lines)
    → Linearizable kind.says partitioned_form → LongAnswersAreOfLines kind head_of
long_answers_are kind head_of reports law n b w u es calls answers opened runs served =
    let ran = law n b w u es opened runs in let head = (head_of (kind.says.head b)).journal in (
      reports u.current ran.0,
      agreed kind.says (λ l. l.line) b es calls answers (kind.says.lines u.current)
          (λ r k call found after answer. (drains : Bool) × (t : ℕ)
          × HasServedLong head drains t k call found after answer)
          (λ r k call found after answer l s e. long_replied head s.0 s.1 k call found after answer l s.2 e)
          (λ r k call found after answer s e. long_refused head s.0 s.1 k call found after answer s.2 e)
          ran.1 served,
    )
