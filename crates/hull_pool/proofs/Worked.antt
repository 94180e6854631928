-- A worker's calls, one after the other.
use Rattle.std.proofs.Common.{◌≡◌, ◌<◌, ◌≤◌, ◌+◌, ◌-◌, ℕ, List, [], ◌∷◌, ◌++◌, length, refl, sym, ap, ◌∙◌, arith}
use Rattle.std.proofs.lemmas.Grind.{common_steps}
use Rattle.std.proofs.Common.{append-nil, append_assoc, Ok, Err, take, inl, inr, length-append}
use Rattle.std.specs.Prelude.{slice_index_or}
use Rattle.std.proofs.lemmas.Bool.{cases_lt}
use Rattle.std.proofs.lemmas.List.{take_more, map-append, replicate-append-replicate}
use Rattle.hull_set.specs.declared.call.Call.{Call}
use Rattle.hull_book.specs.declared.line.Line.{Line}
use Rattle.hull_book.specs.declared.report.JournalFull.{JournalFull}
use Rattle.hull_book.specs.Answers.{Answer}
use Rattle.hull_book.specs.Served.{HasServed}
use Rattle.hull_book.specs.declared.head.Head.{Head}
use Rattle.hull_pool.specs.Handing.{Found}
use Rattle.hull_pool.specs.Work.{lines_of, HasWorked, replies_of, fulls}
use Rattle.hull_pool.proofs.Called.{lines_of-append_own}

-- nothing was done at the start
pub not_begun : (k capacity : ℕ) (calls : List Call) (lines : List Line) (answers : List Answer)
    → HasWorked k capacity 0 calls lines lines answers answers
not_begun k capacity calls lines answers = grind (arith, common_steps, append-nil)

-- no answers that the journal is full
no_fulls : (n : ℕ) → n ≡ 0 → fulls n ≡ []
no_fulls n e = ap (λ (m : ℕ). fulls m) e

-- one answer more that the journal is full
fulls_more : (n m : ℕ) (f : JournalFull) → m ≡ n + 1 → fulls n ++ Err f ∷ [] ≡ fulls m
fulls_more n m f e = replicate-append-replicate n 1 (Err f) ∙ sym (ap (λ (k : ℕ). fulls k) e)

-- one reply more, if no answer was that the journal is full
answers_ok : (old new newer : List Answer) (served : List Line) (line : Line) (n m : ℕ)
    → new ≡ old ++ replies_of served ++ fulls n → n ≡ 0 → m ≡ 0 → newer ≡ new ++ Ok line.reply ∷ []
    → newer ≡ old ++ replies_of (served ++ line ∷ []) ++ fulls m
answers_ok old new newer served line n m so_far none still pushed = grind (arith, common_steps, no_fulls, append_assoc, map-append, append-nil)

-- one answer more that the journal is full
answers_err : (old new newer : List Answer) (served : List Line) (f : JournalFull) (n m : ℕ)
    → new ≡ old ++ replies_of served ++ fulls n → m ≡ n + 1 → newer ≡ new ++ Err f ∷ []
    → newer ≡ old ++ replies_of served ++ fulls m
answers_err old new newer served f n m so_far more pushed = grind (arith, common_steps, fulls_more, append_assoc)

-- one call more, which was served at the lines that the seat found
pub one_more : (head : Head) (k i : ℕ) (calls : List Call) (call : Call) (before seen lines : List Line)
    (old new newer : List Answer) (answer : Answer) → HasWorked k head.capacity i calls before seen old new
    → i < length calls → slice_index_or calls i call ≡ call
    → Found (λ ls. ls) k seen (λ t found. HasServed head t k call found lines answer) → newer ≡ new ++ answer ∷ []
    → HasWorked k head.capacity (i + 1) calls before lines old newer
one_more head k i calls call before seen lines old new newer (Ok reply) had space here s pushed =
    let line : Line = record { number = s.number; seat = k; call = call; reply = reply } in
    let less : length s.found < head.capacity = s.is_so.0 in
    let all : length had.served ≡ i =
    elim (cases_lt (length had.served) i) [
      | inl lt ↦ absurd (omega (arith, had.full lt, ap length s.begins.1, length-append seen s.begins.0))
      | inr ge ↦ omega (arith, had.few)
    ] in
    let longer : length (had.served ++ line ∷ []) ≡ i + 1 = omega (arith, length-append had.served (line ∷ [])) in record {
      served = had.served ++ line ∷ [];
      own_lines = ap (lines_of k) s.is_so.1 ∙ lines_of-append_own k s.found line refl
          ∙ ap (λ (xs : List Line). xs ++ line ∷ []) (s.own_lines ∙ had.own_lines)
          ∙ append_assoc (lines_of k before) had.served (line ∷ []);
      in_order = map-append (λ (l : Line). l.call) had.served (line ∷ [])
          ∙ ap (λ (xs : List Call). xs ++ call ∷ []) (had.in_order ∙ ap (λ (n : ℕ). take n calls) all)
          ∙ ap (λ (x : Call). take i calls ++ x ∷ []) (sym here)
          ∙ sym (take_more calls i call space)
          ∙ sym (ap (λ (n : ℕ). take n calls) longer);
      few = omega (arith, longer);
      answers = answers_ok old new newer had.served line (i - length had.served)
          (i + 1 - length (had.served ++ line ∷ [])) had.answers (omega arith) (omega (arith, longer)) pushed;
      full = λ lt. absurd (omega (arith, longer));
    }
one_more head k i calls call before seen lines old new newer (Err full) had space here s pushed = record {
  served = had.served;
  own_lines = ap (lines_of k) s.is_so.1 ∙ s.own_lines ∙ had.own_lines;
  in_order = had.in_order;
  few = omega (arith, had.few);
  answers = answers_err old new newer had.served full (i - length had.served) (i + 1 - length had.served) had.answers
      (omega (arith, had.few)) pushed;
  full = λ lt. let n : length s.found ≡ head.capacity = s.is_so.0 in omega (arith, ap length s.is_so.1);
}

-- all calls of the phase were made, whichever way they are given
pub finished : (k n capacity i : ℕ) (items : List Call) (jobs : List (List Call)) (before seen : List Line)
    (old new : List Answer) → n ≡ k → items ≡ slice_index_or jobs k [] → i ≤ length items → length items ≤ i
    → HasWorked k capacity i items before seen old new
    → HasWorked n capacity (length (slice_index_or jobs n [])) (slice_index_or jobs n []) before seen old new
finished k n capacity i items jobs before seen old new same are low high worked = grind (arith, common_steps)

-- if the seat has seen the lines of the start, nothing was done
pub not_begun_at : (k capacity : ℕ) (calls : List Call) (lines seen : List Line) (answers : List Answer) → seen ≡ lines
    → HasWorked k capacity 0 calls lines seen answers answers
not_begun_at k capacity calls lines seen answers e = grind (arith, common_steps, not_begun)
