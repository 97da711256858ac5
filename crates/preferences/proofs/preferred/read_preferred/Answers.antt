use Rattle.std.proofs.Common.{refl, subst}
use Rattle.task_sheet.specs.declared.prefer.Preference.{Preference}
use Rattle.preferences.specs.ReadsPreferred.{IsPreferredIn}
use Rattle.preferences.proofs.preferred.read_preferred.Goals as goal

pub returns-in-Ok : goal.returns-in-Ok
returns-in-Ok c =
    let document = c.in_ok-document.document in
    let set = subst (λ (p : Preference). IsPreferredIn p c.args.text.now document.set c.in-Ok.set)
    c.preference-preference.ensures
    (c.in_ok-chains.chains.items, c.in_ok-chains.ensures, rw c.deref.ensures.value at c.in-Ok.ensures.ok) in
    (document, c.in_ok-document.ensures, refl, refl, set)
