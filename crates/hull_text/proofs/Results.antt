-- Properties of a result that follow from others.
use Rattle.std.proofs.Common.{◌≡◌, ◌+◌, Result, Ok, Err, OnOk, IfErr}
use Rattle.text_io.specs.Passage.{Passage, IsSound}
use Rattle.hull_text.specs.declared.fault.TextFault.{TextFault}
use Rattle.hull_text.specs.Fault.{IsReadFault}
use Rattle.hull_text.specs.Reading.{IsLineBeingRead, IsLineTaken}
use Rattle.hull_text.specs.Stopped.{ReadsToEnd}

-- Of a value: one fact for another.
pub ok_then : {T E P Q : Type 0} (r : Result T E) → OnOk r P → (P → Q) → OnOk r Q
ok_then (Ok x) p h = h p
ok_then (Err e) p h = tt

-- Of a fault: one fact for another.
pub err_then : {T E : Type 0} (r : Result T E) (P Q : E → Type 0) → IfErr r P → ((e : E) → P e → Q e) → IfErr r Q
err_then (Ok x) P Q p h = tt
err_then (Err e) P Q p h = h e p

-- A reader with each of these results came to the end of its text, or stopped.
pub reads_to_end : {V : Type 0} (p : Passage) (r : Result V TextFault)
    → IfErr r (λ f. IsReadFault f → p.failed_since ≡ p.failed + 1) → IfErr r (λ f. ¬ IsReadFault f → IsSound p)
    → IfErr r (λ f. IsReadFault f → IsLineBeingRead p.before p.since f.line)
    → IfErr r (λ f. IsLineTaken p.before p.since f.line) → OnOk r (IsSound p) → ReadsToEnd p r
reads_to_end p (Ok v) device others place line sound = sound
reads_to_end p (Err f) device others place line sound =
    record { device = device; others = others; place = place; line = line }
