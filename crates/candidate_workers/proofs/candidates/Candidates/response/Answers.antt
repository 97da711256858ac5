use Rattle.std.proofs.Common.{◌≡◌, ℕ, ◌<◌, ◌≤◌, ◌∙◌, length, Option, None, Some, sym, ap, subst}
use Rattle.std.proofs.lemmas.Bool.{both_ways}
use Rattle.std.specs.Prelude.{IfNone, IfSome}
use Rattle.std.specs.Ordering.{nat_cmp}
use Rattle.std.specs.FinSet as members
use Rattle.task_sheet.proofs.Common.{indexes_of, without_index, meet, IsPart, all_of}
use Rattle.task_sheet.proofs.Common.{must_outrank, must_outrank_any}
use Rattle.task_sheet.proofs.MembersIndexes.{indexes_of-remove}
use Rattle.assignment.proofs.AskLaws.{remove-part}
use Rattle.assignment.proofs.OutcomeLaws.{meet_bound}
use Rattle.assignment.proofs.PlacingLaws.{stands_too}
use Rattle.candidate_workers.specs.Candidates.{CandidatesData}
use Rattle.candidate_workers.proofs.candidates.Candidates.response.Goals as goal

-- the row of the tasks above which it must stand meets the others where it must stand above one
meets_others : (l : CandidatesData) (i : ℕ) (row others : members.FinSet nat_cmp)
    → IsPart (indexes_of l.left) (all_of l.set) → length l.set ≤ 32
    → ((k : ℕ) → k < length l.set → indexes_of row k ≡ must_outrank l.set i k)
    → others ≡ members.remove l.left i → meet (indexes_of row) (indexes_of others)
    ≡ must_outrank_any l.set i (without_index (indexes_of l.left) i)
meets_others l i row others part few is e =
    ap (λ m. meet (indexes_of row) (indexes_of m)) e
    ∙ meet_bound l.set i (indexes_of row) (indexes_of (members.remove l.left i)) is few
    (remove-part l.set l.left i part)
    ∙ ap (λ H. must_outrank_any l.set i H) (indexes_of-remove l.left i)

first_of : (P Q : ℕ → Type 0) (o : Option ℕ) → IfSome o (λ r. P r × Q r) → IfSome o P
first_of P Q None both = tt
first_of P Q (Some r) both = both.0

fails_too : (P Q : Type 0) (o : Option ℕ) → IfNone o (¬ P) → IfNone o (¬ (P × Q))
fails_too P Q None none = λ both. none both.0
fails_too P Q (Some r) none = tt

pub returns-then-meets-clause-none : goal.returns-then-meets-clause-none
returns-then-meets-clause-none c =
    let l = c.args.self.now in
    let i = c.args.task in
    let set : c.of-set.result ≡ l.set =
    c.of-set.ensures ∙ c.deref.ensures ∙ ap (λ (x : CandidatesData). x.set) c.self.view_is in
    let others = c.without-above.ensures
    ∙ ap (λ (x : CandidatesData). members.remove x.left i) c.self.view_is in
    let part = subst (λ (x : CandidatesData). IsPart (indexes_of x.left) (all_of x.set))
    c.self.view_is c.self.invariant in
    let bound = c.meets.ensures ∙ meets_others l i c.outranked.result c.without-above.result part
    c.requires.table.few (rw set at c.outranked.ensures) others in
    λ stands. both_ways _ stands.1 (sym bound ∙ c.if-meets.true)

pub returns-clause-some : goal.returns-clause-some
returns-clause-some c =
    let l = c.args.self.now in
    let i = c.args.task in
    let set : c.of-set.result ≡ l.set =
    c.of-set.ensures ∙ c.deref.ensures ∙ ap (λ (x : CandidatesData). x.set) c.self.view_is in
    let above : indexes_of c.without-above.result ≡ without_index (indexes_of l.left) i =
    ap indexes_of (c.without-above.ensures
    ∙ ap (λ (x : CandidatesData). members.remove x.left i) c.self.view_is)
    ∙ indexes_of-remove l.left i in
    first_of _ _ c.response_in_time.result (rw (set, above) at c.response_in_time.ensures.some)

pub returns-clause-stands : goal.returns-clause-stands
returns-clause-stands c =
    let l = c.args.self.now in
    let i = c.args.task in
    let set : c.of-set.result ≡ l.set =
    c.of-set.ensures ∙ c.deref.ensures ∙ ap (λ (x : CandidatesData). x.set) c.self.view_is in
    let others = c.without-above.ensures
    ∙ ap (λ (x : CandidatesData). members.remove x.left i) c.self.view_is in
    let above : indexes_of c.without-above.result ≡ without_index (indexes_of l.left) i =
    ap indexes_of others ∙ indexes_of-remove l.left i in
    let part = subst (λ (x : CandidatesData). IsPart (indexes_of x.left) (all_of x.set))
    c.self.view_is c.self.invariant in
    let bound = c.meets.ensures ∙ meets_others l i c.outranked.result c.without-above.result part
    c.requires.table.few (rw set at c.outranked.ensures) others in
    stands_too l.set i (without_index (indexes_of l.left) i) c.response_in_time.result
    (sym bound ∙ c.if-meets.false) (rw (set, above) at c.response_in_time.ensures.passes)

pub returns-clause-none : goal.returns-clause-none
returns-clause-none c =
    let l = c.args.self.now in
    let i = c.args.task in
    let set : c.of-set.result ≡ l.set =
    c.of-set.ensures ∙ c.deref.ensures ∙ ap (λ (x : CandidatesData). x.set) c.self.view_is in
    let above : indexes_of c.without-above.result ≡ without_index (indexes_of l.left) i =
    ap indexes_of (c.without-above.ensures
    ∙ ap (λ (x : CandidatesData). members.remove x.left i) c.self.view_is)
    ∙ indexes_of-remove l.left i in
    fails_too _ _ c.response_in_time.result (rw (set, above) at c.response_in_time.ensures.none)
