use Rattle.std.proofs.Common.{◌≡◌, ◌∙◌, ◌-◌, false, not, get_or, sym, ap, arith}
use Rattle.std.proofs.lemmas.Bool.{false_from_ne_true, ltb-false, or_parts, true≢false}
use Rattle.std.proofs.lemmas.List.Folds.{list_all_at}
use Rattle.observed.specs.SeenJob.{SeenData}
use Rattle.observed_lines.specs.Breaks.{breaks_any, breaks_bound, breaks_cost, breaks_jitter}
use Rattle.observed_lines.specs.Breaks.{breaks_period, breaks_priority}
use Rattle.observed_lines.proofs.laws.kept_jobs_meet_their_bounds.Goals as goal

pub returns : goal.returns
returns c = λ tolerance seen kept k d lt.
    let s = get_or seen k d in
    let none : breaks_any tolerance s ≡ false = false_from_ne_true _ (λ broken. true≢false (sym kept
    ∙ list_all_at (λ (s : SeenData). not (breaks_any tolerance s)) seen k d lt (ap not broken))) in
    let bound : breaks_bound tolerance s ≡ false =
    (or_parts (breaks_bound tolerance s) _ (or_parts (breaks_jitter tolerance s) _
    (or_parts (breaks_period tolerance s) _ (or_parts (breaks_cost tolerance s) _
    (or_parts (breaks_priority s) _ none).1).1).1).1).0 in
    omega (arith, ltb-false tolerance (s.lasted - s.promise.bound) bound)
