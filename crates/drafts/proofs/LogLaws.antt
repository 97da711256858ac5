-- What a log was asked determines what it says.
use Rattle.std.proofs.Common.{◌≡◌, ℕ, List, [], ◌∷◌, Result, Ok, Err, refl, sym, ◌∙◌, ap, subst}
use Rattle.drafts.specs.declared.change.Change.{Change}
use Rattle.drafts.specs.declared.change.Refusal.{Refusal}
use Rattle.drafts.specs.Applied.{OnNode, set_of, applied}
use Rattle.drafts.specs.Machine.{MachineState, Ruling, Admitted, Refused, Infeasible, Entry}
use Rattle.drafts.specs.Machine.{IsRuling, after_entry, IsLegal}
use Rattle.drafts.specs.Commits.{commit_of, commits_of}
use Rattle.drafts.proofs.PlacedLaws.{AreStuck-one}

-- ---- one answer
pub answer-one : (version : ℕ) (outcome : Result OnNode Refusal) (d e : Ruling)
    → IsRuling version outcome d → IsRuling version outcome e → d ≡ e
answer-one version (Err refusal) (Refused told) (Refused again) a b =
    ap (λ r. Refused r) (a ∙ sym b)
answer-one version (Err refusal) (Admitted told) e a b = absurd a
answer-one version (Err refusal) (Infeasible told) e a b = absurd a
answer-one version (Ok node) (Refused told) e a b = absurd a
answer-one version (Ok node) (Admitted told) (Admitted again) a b =
    ap (λ n. Admitted n) (a.1 ∙ sym b.1)
answer-one version (Ok node) (Admitted told) (Infeasible again) a b = absurd (b.0 a.0)
answer-one version (Ok node) (Infeasible told) (Admitted again) a b = absurd (a.0 b.0)
answer-one version (Ok node) (Infeasible told) (Infeasible again) a b =
    let members = AreStuck-one (set_of node) told.members again.members a.2 b.2 in
    let sets = a.1 ∙ sym b.1 in
    λ i. Infeasible (record { set = sets i; members = members i })
answer-one version outcome d e a b = absurd b

-- ---- one log
pub log-one : (desk : MachineState) (first second : List Entry)
    → commits_of first ≡ commits_of second → IsLegal desk first → IsLegal desk second
    → first ≡ second
log-one desk [] [] same a b = refl
log-one desk [] (e ∷ second) same a b = cc
log-one desk (d ∷ first) [] same a b = cc
log-one desk (d ∷ first) (e ∷ second) same a b =
    let heads : commit_of d ≡ commit_of e = cc in
    let tails : commits_of first ≡ commits_of second = cc in
    let outcome = applied d.team desk.node d.changes in
    let as_first = subst (λ (c : ℕ × List (List ℕ × Change)). IsRuling desk.version
    (applied c.0 desk.node c.1) e.decision) (sym heads) b.0 in
    let decisions : d.decision ≡ e.decision =
    answer-one desk.version outcome d.decision e.decision a.0 as_first in
    let entries : d ≡ e =
    λ i. record { team = (heads i).0; changes = (heads i).1; decision = decisions i } in
    let rest = log-one (after_entry desk d) first second tails a.1
    (subst (λ x. IsLegal (after_entry desk x) second) (sym entries) b.1) in
    λ i. entries i ∷ rest i
