use Rattle.std.proofs.Common.{◌≡◌, ◌∙◌, Bool, true, false, refl, sym}
use Rattle.std.proofs.lemmas.Bool.{false≢true}
use Rattle.std.specs.Prelude.{MatchBool}
use Rattle.script_commands.proofs.rush.tell.Goals as goal

sound : (b : Bool) (A B : Type 0) → (b ≡ true → ⊥) → B → MatchBool b A B
sound true A B never it = absurd (never refl)
sound false A B never it = it

-- a writer that has failed takes nothing
pub returns-in-Ok-clause-noted : goal.returns-in-Ok-clause-noted
returns-in-Ok-clause-noted g c =
    sound _ _ _ (λ failed. false≢true (c.in-Ok.ensures.stuck (sym c.in-Ok.ensures.ok ∙ failed)).0)
    (c.in-Ok.ensures.written, refl)
