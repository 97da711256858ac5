-- A text that asks that its set have no doubt does as a strict call; another as a lenient one.
use Rattle.std.proofs.Common.{◌≡◌, ℕ, Bool, true, false, List, Option, refl, subst}
use Rattle.task_sheet.specs.Sheet.{Task}
use Rattle.task_sheet.specs.declared.prefer.Preference.{Preference}
use Rattle.teams.specs.Strictness.{IsStrict, SaysStrict}
use Rattle.doubts.specs.declared.doubt.Doubt.{Doubt}
use Rattle.preferences.specs.ReadsAsked.{TellsDoubt, asking_so, doubt_told}
use Rattle.preferences.specs.declared.asking.Asking.{Asking}
use Rattle.preferences.specs.declared.asking.Strictness.TheVariants.{AsSaid, Lenient, Strict}

module _ (asking : Asking) (text : List ℕ) (own : Option Preference) (U : List Task)
    (doubt : Option Doubt) where
  pub as_strict : IsStrict text → TellsDoubt (asking_so AsSaid asking) text own U doubt
      → TellsDoubt (asking_so Strict asking) text own U doubt
  as_strict strict (told, says, is) = by told says is
    where
      by : (b : Bool) → SaysStrict text b → doubt_told b asking.prefer own U ≡ doubt
          → TellsDoubt (asking_so Strict asking) text own U doubt
      by true says is = (true, refl, is)
      by false says is = absurd (says strict)

  pub from_strict : IsStrict text → TellsDoubt (asking_so Strict asking) text own U doubt
      → TellsDoubt (asking_so AsSaid asking) text own U doubt
  from_strict strict (told, says, is) =
      (true, strict, subst (λ (b : Bool). doubt_told b asking.prefer own U ≡ doubt) says is)

  pub as_lenient : (IsStrict text → ⊥) → TellsDoubt (asking_so AsSaid asking) text own U doubt
      → TellsDoubt (asking_so Lenient asking) text own U doubt
  as_lenient none (told, says, is) = by told says is
    where
      by : (b : Bool) → SaysStrict text b → doubt_told b asking.prefer own U ≡ doubt
          → TellsDoubt (asking_so Lenient asking) text own U doubt
      by true says is = absurd (none says)
      by false says is = (false, refl, is)

  pub from_lenient : (IsStrict text → ⊥) → TellsDoubt (asking_so Lenient asking) text own U doubt
      → TellsDoubt (asking_so AsSaid asking) text own U doubt
  from_lenient none (told, says, is) =
      (false, none, subst (λ (b : Bool). doubt_told b asking.prefer own U ≡ doubt) says is)
