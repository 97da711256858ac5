use Rattle.std.proofs.Common.{◌≡◌, ◌∙◌, ◌+◌, ◌≤◌, ◌++◌, ◌∷◌, ℕ, List, ap, sym, arith, append_assoc, drop, string_bytes}
use Rattle.std.proofs.lemmas.List.{drop_more}
use Rattle.observed.specs.SeenJob.{SeenData}
use Rattle.observed_lines.specs.Broken.{wait_lines, wait_words}
use Rattle.observed_lines.specs.Causes.{behind_in}
use Rattle.observed_lines.specs.Sweeps.{Agree}
use Rattle.observed_lines.specs.declared.causes.Behind.{Behind}
use Rattle.observed_lines.specs.declared.causes.Source.{Source}
use Rattle.observed_lines.proofs.SweepLaws.{later_agree}
use Rattle.observed_lines.proofs.broken.push_waits.Goals as goal

pub loop-job-preserved : goal.loop-job-preserved
loop-job-preserved c =
    let k : ℕ = c.loop-job.job-index in
    let seen : List SeenData = c.args.seen.now in
    let job : SeenData = c.job-item.result in
    let causes : List Source = c.args.causes.now in
    let rest : List Source = c.in_ok-rest.rest.now in
    let live : List Source = c.move_on.new.live.items in
    let words = λ (o : Behind). wait_words c.args.follows o c.args.tolerance job in
    let lines = λ (js : List SeenData). wait_lines c.args.follows causes c.args.tolerance js in
    let text : List ℕ = string_bytes c.loop-job.text in
    let later : List ℕ = lines (drop (k + 1) seen) in
    let here : drop k seen ≡ job ∷ drop (k + 1) seen = drop_more seen k job c.loop-job-test.true
    ∙ ap (λ (x : SeenData). x ∷ drop (k + 1) seen) (sym c.job-item.is) in
    let soon : c.job.inside.arrival ≤ job.arrival =
    omega (arith, ap (λ (x : SeenData). x.arrival) c.job.view_is) in
    let same : Agree job.arrival (c.deref.result.now ++ rest) causes =
    rw c.deref.ensures.value (later_agree _ _ (live ++ rest) causes soon c.in_ok-rest.ensures.same) in
    let behind : c.behind_of-behind.result ≡ behind_in c.args.tolerance causes job =
    c.behind_of-behind.ensures causes same in
    record {
      whole = ap (λ (t : List ℕ). t ++ later) (c.in_ok-push_wait.ensures
          ∙ ap (λ (o : Behind). text ++ words o) behind)
          ∙ (append_assoc text (words (behind_in c.args.tolerance causes job)) later
          ∙ (ap (λ (js : List SeenData). text ++ lines js) (sym here)
          ∙ c.loop-job.invariant.whole));
      known = c.in_ok-rest.ensures.same;
      all = c.loop-job.invariant.all;
      order = c.in_ok-rest.ensures.order;
    }
