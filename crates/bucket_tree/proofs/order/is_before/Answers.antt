-- one of two comparisons holds, the second with a third
use Rattle.std.proofs.Common.{Bool, true, false, ◌||◌, ◌&&◌, inl, inr, refl}
use Rattle.std.specs.Prelude.{◌↔◌, ◌⊎◌, IsTrue}
use Rattle.std.proofs.lemmas.Bool.{false≢true}
use Rattle.bucket_tree.proofs.order.is_before.Goals as goal

either : {A B C : Type 0} (a b c : Bool) → (IsTrue a ↔ A) → (IsTrue b ↔ B) → (IsTrue c ↔ C)
    → IsTrue (a || (b && c)) ↔ (A ⊎ (B × C))
either true b c f g h = (λ _. inl (f.0 refl), λ _. refl)
either false true true f g h = (λ _. inr (g.0 refl, h.0 refl), λ _. refl)
either false true false f g h = (λ e. absurd (false≢true e), λ s. elim s [ inl x ↦ f.1 x | inr y ↦ h.1 y.1 ])
either false false c f g h = (λ e. absurd (false≢true e), λ s. elim s [ inl x ↦ f.1 x | inr y ↦ g.1 y.0 ])

pub returns : goal.returns
returns c =
    either c.has_less_x.result c.has_same_x.result c.has_less_y.result c.has_less_x.ensures c.has_same_x.ensures
    c.has_less_y.ensures
