use Rattle.std.proofs.Common.{Option, None, [], refl, sym, subst}
use Rattle.task_sheet.specs.declared.prefer.Preference.{Preference}
use Rattle.preferences.specs.ReadsPreferred.{IsPreferredIn, chosen}
use Rattle.preferences.proofs.laws.call_then_set.Goals as goal

pub returns : goal.returns
returns c = record {
  call = λ text preference U. (λ h. h, λ h. h);
  own = λ text d preference U reads is preferred. (
    d,
    reads,
    subst (λ (o : Option Preference).
        IsPreferredIn (chosen None o) text d.set U) (sym is) preferred,
  );
  nobody = λ text d reads is. (
    d,
    reads,
    subst (λ (o : Option Preference).
        IsPreferredIn (chosen None o) text d.set d.set) (sym is) ([], refl, refl),
  );
  weights = λ text U. (λ h. (h.0, h.1, h.2.2), λ h. (h.0, h.1, ([], refl, h.2)));
}
