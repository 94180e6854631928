-- Three lists, place by place, when each is one longer or shorter.
use Rattle.std.proofs.Common.{◌≡◌, ◌+◌, List, [], ◌∷◌, ◌++◌, length, refl, ap, arith, append_assoc}
use Rattle.std.proofs.lemmas.Grind.{common_steps}
use Rattle.std.proofs.Common.{length-append, reverse}
use Rattle.std.proofs.lemmas.List.{reverse-append}
use Rattle.std.specs.Prelude.{IfSome, Some}
use Rattle.ticket_lock.specs.declared.seat.Seat.{Seat}
use Rattle.ticket_lock.specs.Tokens.{seat_number}
use Rattle.hull_pool.specs.declared.worker.Worker.{Worker}
use Rattle.hull_pool.specs.Crews.{team, worker_of}

-- one more in each list is one more in the team
pub team-append_one : {A B C D : Type 0}
    → (make : A → B → C → D) (xs : List A) (ys : List B) (zs : List C) (x : A) (y : B) (z : C) → length ys ≡ length xs
    → length zs ≡ length xs
    → team make (xs ++ x ∷ []) (ys ++ y ∷ []) (zs ++ z ∷ []) ≡ team make xs ys zs ++ make x y z ∷ []
team-append_one {A} {B} {C} {D} make [] [] [] x y z e f = refl
team-append_one {A} {B} {C} {D} make (a ∷ xs) (b ∷ ys) (c ∷ zs) x y z e f =
    ap (λ (ws : List D). make a b c ∷ ws) (team-append_one make xs ys zs x y z (omega arith) (omega arith))
team-append_one {A} {B} {C} {D} make [] (b ∷ ys) zs x y z e f = absurd (omega arith)
team-append_one {A} {B} {C} {D} make [] [] (c ∷ zs) x y z e f = absurd (omega arith)
team-append_one {A} {B} {C} {D} make (a ∷ xs) [] zs x y z e f = absurd (omega arith)
team-append_one {A} {B} {C} {D} make (a ∷ xs) (b ∷ ys) [] x y z e f = absurd (omega arith)

-- teams of the same lists
pub same_team : {A B C D : Type 0} → (make : A → B → C → D) (xs xs' : List A) (ys ys' : List B) (zs zs' : List C)
    → xs ≡ xs' → ys ≡ ys' → zs ≡ zs' → team make xs ys zs ≡ team make xs' ys' zs'
same_team {A} {B} {C} {D} make xs xs' ys ys' zs zs' e f h = grind (arith, common_steps)

-- the last of each list moves to the front of those that were taken before
pub moved : {A B C D : Type 0}
    → (make : A → B → C → D) (xs xs' : List A) (ys ys' : List B) (zs zs' : List C) (x : A) (y : B) (z : C)
    (taken : List D) (whole : List D) → xs ≡ xs' ++ x ∷ [] → ys ≡ ys' ++ y ∷ [] → zs ≡ zs' ++ z ∷ []
    → length ys ≡ length xs → length zs ≡ length xs → team make xs ys zs ++ reverse taken ≡ whole
    → team make xs' ys' zs' ++ reverse (taken ++ make x y z ∷ []) ≡ whole
moved {A} {B} {C} {D} make xs xs' ys ys' zs zs' x y z taken whole ex ey ez ly lz is =
    grind (arith, common_steps, reverse-append, append_assoc, team-append_one, length-append, same_team)

-- the last one taken is put at the end of each list
pub moved_back : {A B C D : Type 0}
    → (make : A → B → C → D) (xs xs' : List A) (ys ys' : List B) (zs zs' : List C) (x : A) (y : B) (z : C) (w : D)
    (taken taken' whole : List D) → xs' ≡ xs ++ x ∷ [] → ys' ≡ ys ++ y ∷ [] → zs' ≡ zs ++ z ∷ []
    → length ys ≡ length xs → length zs ≡ length xs → taken ≡ taken' ++ w ∷ [] → w ≡ make x y z
    → team make xs ys zs ++ reverse taken ≡ whole → team make xs' ys' zs' ++ reverse taken' ≡ whole
moved_back {A} {B} {C} {D} make xs xs' ys ys' zs zs' x y z w taken taken' whole ex ey ez ly lz split same is =
    grind (arith, common_steps, reverse-append, append_assoc, team-append_one, same_team)

-- a worker is what its seat, its answers and its ledger make
pub whole_worker : {B H L : Type 0} → (w : Worker B H L) (s : Seat B H L) → w.seat ≡ Some s
    → IfSome w.seat (λ s. seat_number s ≡ w.number) → w ≡ worker_of s w.answers w.ledger
whole_worker {B} {H} {L} w s is numbered = grind (arith, common_steps)
