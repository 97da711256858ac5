use Rattle.std.proofs.Common.{rules, ◌≡◌, ◌≤◌, ◌∙◌, List, subst, ap, length, arith}
use Rattle.task_sheet.specs.Sheet.{Task}
use Rattle.std.proofs.lemmas.List.Sorted.{IsNonDecreasingBy-from_sort_by_key, answers_always}
use Rattle.std.proofs.lemmas.List.Sorted.{length_permutation}
use Rattle.ceiling_kernel.specs.declared.trace.Release.{Release}
use Rattle.ceiling_kernel.proofs.Common.{no_release}
use Rattle.release_list.specs.Random.{by_time}
use Rattle.release_list.proofs.InLaws.{In}
use Rattle.release_list.proofs.OrderLaws.{sorted_is, rises_from}
use Rattle.chain_worst.specs.Built.{built_of}
use Rattle.chain_worst.proofs.JobLaws.{all_early}
use Rattle.chain_worst.proofs.ListLaws.{built_accepted}
use Rattle.chain_worst.proofs.built.build.Goals as goal

pub returns-in-Ok-clause-list : goal.returns-in-Ok-clause-list
returns-in-Ok-clause-list c =
    let U : List Task = c.args.set.now in
    let jobs = rw c.sheets.ensures.same at c.in_ok-releases.ensures in
    let up = IsNonDecreasingBy-from_sort_by_key (λ (r : Release). r.time)
    c.sort_by_key.new.self.items c.in-Ok.ensures.sorted (λ a r q k. search rules) in
    let stable = c.in-Ok.ensures.stable (λ (r : Release). r.time)
    (answers_always _ _ _ (λ f a r q k. search rules)) in
    sorted_is c.in_ok-releases.releases.items c.sort_by_key.new.self.items c.args.until
    (λ r at. all_early U c.args.until c.args.aims.now r (subst (In r) jobs.0 at))
    (rises_from c.sort_by_key.new.self.items (λ i j d le lt. up i j no_release le lt)) stable
    ∙ ap (λ (rs : List Release). by_time rs c.args.until) jobs.0

pub returns-in-Ok-clause-accepted : goal.returns-in-Ok-clause-accepted
returns-in-Ok-clause-accepted c =
    let U : List Task = c.args.set.now in
    let list = returns-in-Ok-clause-list c in
    let long : length c.sort_by_key.new.self.items ≡ length c.in_ok-releases.releases.items =
    length_permutation c.in_ok-releases.releases.items c.sort_by_key.new.self.items
    c.in-Ok.ensures.permutation in
    let few : length (built_of U c.args.until c.args.aims.now) ≤ 10000 =
    omega (arith, long, ap length list, c.in_ok-releases.ensures.1) in
    rw list (built_accepted U c.args.until c.args.aims.now c.sheets.ensures.kept c.requires few)
