use Rattle.std.proofs.Common.{◌≡◌, true, false, rules}
use Rattle.std.proofs.lemmas.Iterator.{first_from_Range}
use Rattle.ceiling_kernel.proofs.Common.{is_outside_cost}
use Rattle.ceiling_kernel.proofs.AcceptLaws.{first_from_cases}
use Rattle.ceiling_kernel.proofs.accept.first_outside_cost.Goals as goal

pub returns-clause-first : goal.returns-clause-first
returns-clause-first c =
    let test = is_outside_cost c.args.set.now c.args.releases.now in
    first_from_cases test _ _ (first_from_Range _ _ _ _ (λ k. test k ≡ true) (λ k. test k ≡ false)
    c.find.ensures.ran (λ x q k. search rules) (λ x q k. search rules))
