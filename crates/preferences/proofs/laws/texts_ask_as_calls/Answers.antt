use Rattle.preferences.proofs.AskedLaws.{as_lenient, as_strict, from_lenient, from_strict}
use Rattle.preferences.proofs.laws.texts_ask_as_calls.Goals as goal

pub returns : goal.returns
returns c = record {
  set = λ asking text U strict. (
    λ h. (h.0, h.1, h.2, as_strict asking text h.0.prefers U _ strict h.3, h.4),
    λ h. (h.0, h.1, h.2, from_strict asking text h.0.prefers U _ strict h.3, h.4),
  );
  doubt = λ asking text doubt strict. (
    λ h. (h.0, h.1, h.2, h.3, as_strict asking text h.0.prefers h.1 _ strict h.4),
    λ h. (h.0, h.1, h.2, h.3, from_strict asking text h.0.prefers h.1 _ strict h.4),
  );
  lenient = λ asking text U none. (
    λ h. (h.0, h.1, h.2, as_lenient asking text h.0.prefers U _ none h.3, h.4),
    λ h. (h.0, h.1, h.2, from_lenient asking text h.0.prefers U _ none h.3, h.4),
  );
}
