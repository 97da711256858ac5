-- The doubt that is told, by what the call and the set prefer.
use Rattle.std.proofs.Common.{◌≡◌, ◌∙◌, Bool, List, Option, ap, sym}
use Rattle.task_sheet.specs.Sheet.{Task}
use Rattle.task_sheet.specs.declared.prefer.Preference.{Preference}
use Rattle.doubts.specs.declared.doubt.Doubt.{Doubt}
use Rattle.preferences.specs.ReadsAsked.{doubt_told}

-- a choice says what the call and the set prefer
pub told_as : (s : Bool) (call own prefer prefers : Option Preference) (U : List Task)
    (doubt : Option Doubt) → call ≡ prefer → own ≡ prefers → doubt ≡ doubt_told s call own U
    → doubt_told s prefer prefers U ≡ doubt
told_as s call own prefer prefers U doubt first then told =
    sym (told ∙ ap (λ (o : Option Preference). doubt_told s o own U) first
    ∙ ap (λ (o : Option Preference). doubt_told s prefer o U) then)
