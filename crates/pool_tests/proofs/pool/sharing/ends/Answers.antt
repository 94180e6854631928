-- two seats and their ledgers are at the same indices, and each ledger is that of its seat
use Rattle.std.proofs.Common.{◌≡◌, ◌++◌, [], ◌∷◌, List, ap, ◌∙◌}
use Rattle.std.specs.List.{AllZip}
use Rattle.hull_book.specs.Ledgers.{IsLedgerOf}
use Rattle.ticket_lock.specs.Tokens.{seat_number, seat_seen}
use Rattle.pool_tests.proofs.pool.sharing.ends.Goals as goal

-- a list that got two members
both : {A : Type 0} (xs ys zs : List A) (x y : A) → xs ≡ [] → ys ≡ xs ++ x ∷ [] → zs ≡ ys ++ y ∷ [] → zs ≡ x ∷ y ∷ []
both xs ys zs x y none one two = two ∙ ap (λ (l : List _). l ++ y ∷ []) (one ∙ ap (λ (l : List _). l ++ x ∷ []) none)

-- two lists that got two members each, at the same indices
zipped : {A B : Type 0} (R : A → B → Type 0) (xs : List A) (ys : List B) (a b : A) (c d : B) → xs ≡ a ∷ b ∷ []
    → ys ≡ c ∷ d ∷ [] → R a c → R b d → AllZip R xs ys
zipped R xs ys a b c d left right first second = rw (left, right) (first, (second, tt))

pub close_book-requires-clause-ledgers : goal.close_book-requires-clause-ledgers
close_book-requires-clause-ledgers c =
    let seats = both _ _ _ _ _ c.requires.empty.0 c.push_reserved.ensures.items c.push_reserved-3.ensures.items in
    let ledgers = both _ _ _ _ _ c.requires.empty.1 c.push_reserved-2.ensures.items c.push_reserved-4.ensures.items in
    let zero = rw c.unwrap.ensures at c.requires.zero.own in
    let one = rw c.unwrap-2.ensures at c.requires.one.own in
    let counts_zero : IsLedgerOf (seat_number c.unwrap.result) (seat_seen c.unwrap.result) c.args.zero.ledger =
    rw zero.1 zero.2 in
    let counts_one : IsLedgerOf (seat_number c.unwrap-2.result) (seat_seen c.unwrap-2.result) c.args.one.ledger =
    rw one.1 one.2 in
    zipped _ _ _ _ _ _ _ seats ledgers counts_zero counts_one
