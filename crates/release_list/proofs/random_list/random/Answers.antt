use Rattle.std.proofs.Common.{rules, ◌≡◌, ◌≤◌, ◌∙◌, List, subst, ap, length, arith}
use Rattle.task_sheet.specs.Sheet.{Task}
use Rattle.std.proofs.lemmas.List.Sorted.{IsNonDecreasingBy-from_sort_by_key, answers_always}
use Rattle.std.proofs.lemmas.List.Sorted.{length_permutation}
use Rattle.ceiling_kernel.specs.declared.trace.Release.{Release}
use Rattle.ceiling_kernel.proofs.Common.{no_release}
use Rattle.release_list.specs.Random.{all_jobs, by_time, random_of}
use Rattle.release_list.proofs.InLaws.{In}
use Rattle.release_list.proofs.OrderLaws.{sorted_is, rises_from}
use Rattle.release_list.proofs.TimeLaws.{none_refused}
use Rattle.release_list.proofs.RandomLaws.{all_early}
use Rattle.release_list.proofs.RandomLists.{random_accepted}
use Rattle.release_list.proofs.random_list.random.Goals as goal

pub returns-in-Ok-clause-list : goal.returns-in-Ok-clause-list
returns-in-Ok-clause-list c =
    let U : List Task = c.args.set.now in
    let jobs = rw c.sheets.ensures.same at c.in_ok-releases.ensures in
    let few : length (all_jobs U c.args.steady.now c.args.until c.args.seed) ≤ 10000 =
    omega (arith, ap length jobs.0, jobs.1) in
    let up = IsNonDecreasingBy-from_sort_by_key (λ (r : Release). r.time)
    c.sort_by_key.new.self.items c.in-Ok.ensures.sorted (λ a r q k. search rules) in
    let stable = c.in-Ok.ensures.stable (λ (r : Release). r.time)
    (answers_always _ _ _ (λ f a r q k. search rules)) in (
      none_refused c.args.until (length (all_jobs U c.args.steady.now c.args.until c.args.seed))
          c.if-until-gt-HORIZON.false few,
      sorted_is c.in_ok-releases.releases.items c.sort_by_key.new.self.items c.args.until
          (λ r at. all_early U c.args.steady.now c.args.until c.args.seed r (subst (In r) jobs.0 at))
          (rises_from c.sort_by_key.new.self.items (λ i j d le lt. up i j no_release le lt)) stable
          ∙ ap (λ (rs : List Release). by_time rs c.args.until) jobs.0,
    )

pub returns-in-Ok-clause-accepted : goal.returns-in-Ok-clause-accepted
returns-in-Ok-clause-accepted c =
    let U : List Task = c.args.set.now in
    let list = returns-in-Ok-clause-list c in
    let long : length c.sort_by_key.new.self.items ≡ length c.in_ok-releases.releases.items =
    length_permutation c.in_ok-releases.releases.items c.sort_by_key.new.self.items
    c.in-Ok.ensures.permutation in
    let few : length (random_of U c.args.steady.now c.args.until c.args.seed) ≤ 10000 =
    omega (arith, ap length list.1, c.in_ok-releases.ensures.1) in
    rw list.1 (random_accepted U c.args.steady.now c.args.until c.args.seed c.sheets.ensures.kept
    c.if-until-gt-HORIZON.false few)
