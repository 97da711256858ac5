-- A team's lines leave its hand the team's.
use Rattle.std.proofs.Common.{◌≡◌, ◌∙◌, ℕ, Bool, true, false, cond, nat_eq, List, [], ◌∷◌, refl}
use Rattle.std.proofs.Common.{Option, None, Some, Result, Ok, Err, sym, ap, subst}
use Rattle.std.specs.Prelude.{MatchOption}
use Rattle.std.specs.Map.{update}
use Rattle.std.proofs.lemmas.Map.{update-update}
use Rattle.drafts.specs.declared.change.Change.{Change}
use Rattle.drafts.specs.declared.draft.EditRefusal.{EditRefusal}
use Rattle.drafts.specs.Edits.{Draft, after_put, after_remove}
use Rattle.book_lock.specs.TeamPass.{Known}
use Rattle.scripts.specs.declared.line.Row.{Row}
use Rattle.scripts.specs.declared.line.Row.TheVariants.{Put, Remove, Commit, Abandon}
use Rattle.rushes.specs.declared.note.Missed.{Missed}
use Rattle.rushes.specs.HandFields.{IsOfTeam, AllOwn}
use Rattle.rushes.specs.Hands.{Hand, draft_at, edited, new_hand, AreDone, IsDraftLine, IsLineDone}
use Rattle.rushes.specs.Hands.{IsOn, IsOpened, IsSet, IsStep}
use Rattle.rushes.specs.TeamLines.{TeamLine, opens}

-- a draft and a pass are of that team
abbrev AreOf : ℕ → Option Draft → Known → Type 0
AreOf team slot p = IsOfTeam team slot × (p.team ≡ team)

-- a hand is that team's, with its drafts
abbrev IsHandOf : ℕ → Hand → Type 0
IsHandOf team h = (h.pass.team ≡ team) × ((n : ℕ) → IsOfTeam team (draft_at h n))

-- nothing is left of a draft
over : (team : ℕ) (next : Option Draft) → next ≡ None → IsOfTeam team next
over team next is = subst (IsOfTeam team) (sym is) tt

edited_team : (team : ℕ) (d : Draft) (outcome : Result (List (List ℕ × Change)) EditRefusal)
    (next : Option Draft)
    → d.team ≡ team → next ≡ Some (edited d outcome) → IsOfTeam team next
edited_team team d (Ok changes) next own is = subst (IsOfTeam team) (sym is) own
edited_team team d (Err refusal) next own is = subst (IsOfTeam team) (sym is) own

same_pass : (team : ℕ) (old new : Known) → new ≡ old → old.team ≡ team → new.team ≡ team
same_pass team old new is own = ap (λ (p : Known). p.team) is ∙ own

step_team : (workers team : ℕ) (row : Row) (d : Draft) (old : Known) (next : Option Draft)
    (missed : Option Missed)
    (new : Known) → IsStep workers row d old next missed new → d.team ≡ team → old.team ≡ team
    → AreOf team next new
step_team workers team (Put number sheet) d old next missed new is own pass =
    (edited_team team d (after_put d sheet) next own is.0, same_pass team old new is.2 pass)
step_team workers team (Remove number name) d old next missed new is own pass =
    (edited_team team d (after_remove d name) next own is.0, same_pass team old new is.2 pass)
step_team workers team (Commit number) d old next missed new is own pass =
    (over team next is.0, ap (λ (p : Known). p.team) is.2.1.3.entered.3 ∙ pass)
step_team workers team (Abandon number) d old next missed new is own pass =
    (over team next is.0, same_pass team old new is.2 pass)
step_team workers team row d old next missed new is own pass =
    (subst (IsOfTeam team) (sym is.0) own, same_pass team old new is.2 pass)

on_team : (workers team : ℕ) (row : Row) (number : ℕ) (slot : Option Draft) (old : Known)
    (next : Option Draft)
    (missed : Option Missed) (new : Known)
    → IsOn workers row number slot old next missed new → AreOf team slot old → AreOf team next new
on_team workers team row number None old next missed new is own =
    (over team next is.0, same_pass team old new is.2 own.1)
on_team workers team row number (Some d) old next missed new is own =
    step_team workers team row d old next missed new is own.0 own.1

-- of a hand one draft is another
set_team : (team : ℕ) (h k : Hand) (number : ℕ) (next : Option Draft) → IsSet h number next k
    → IsOfTeam team next
    → ((n : ℕ) → IsOfTeam team (draft_at h n)) → (n : ℕ) → IsOfTeam team (draft_at k n)
set_team team h k number next is own all n =
    subst (IsOfTeam team) (sym (is n)) (one (nat_eq number n))
  where
    one : (b : Bool) → IsOfTeam team (cond b next (draft_at h n))
    one true = own
    one false = all n

-- a draft that was taken out is put back, or not
pub set_again : (number : ℕ) (next : Option Draft) (old mid new : ℕ → Option Draft)
    → ((n : ℕ) → mid n ≡ update nat_eq old number None n)
    → ((n : ℕ) → new n ≡ update nat_eq mid number next n)
    → (n : ℕ) → new n ≡ update nat_eq old number next n
set_again number next old mid new taken put n =
    put n ∙ ap (λ (o : Option Draft). cond (nat_eq number n) next o) (taken n)
    ∙ update-update nat_eq old number None next n

draft_line_team : (workers team : ℕ) (h k : Hand) (line number : ℕ) (row : Row)
    → IsDraftLine workers h line number row k → IsHandOf team h → IsHandOf team k
draft_line_team workers team h k line number row is own =
    let of : AreOf team is.0 k.pass =
    on_team workers team row number (draft_at h number) h.pass is.0 is.1 k.pass is.2
    (own.1 number, own.0) in
    (of.1, set_team team h k number is.0 is.3 of.0 own.1)

line_by : (workers team number line : ℕ) (h k : Hand) (row : Row) (opened : Option ℕ)
    → MatchOption opened (IsDraftLine workers h line number row k) (λ of. IsOpened h number k)
    → IsHandOf team h → IsHandOf team k
line_by workers team number line h k row None is own =
    draft_line_team workers team h k line number row is own
line_by workers team number line h k row (Some of) is own = (
  same_pass team h.pass k.pass is.3 own.0,
  set_team team h k number (Some is.0) is.2 (is.1.team ∙ own.0) own.1,
)

line_team : (workers team : ℕ) (h k : Hand) (l : TeamLine) → IsLineDone workers h l k
    → IsHandOf team h → IsHandOf team k
line_team workers team h k l is own =
    line_by workers team l.draft l.line.number h k l.line.row (opens l.line.row) is own

-- after a line all drafts are the team's still
pub line_own : (workers : ℕ) (h k : Hand) (line : TeamLine) → IsLineDone workers h line k → AllOwn h
    → AllOwn k
line_own workers h k line is own =
    let of : IsHandOf h.pass.team k =
    line_team workers h.pass.team h k line is (refl, own) in
    λ n. subst (λ (team : ℕ). IsOfTeam team (draft_at k n)) (sym of.0) (of.1 n)

lines_team : (workers team : ℕ) (h k : Hand) (lines : List TeamLine)
    → AreDone workers h lines k → IsHandOf team h → IsHandOf team k
lines_team workers team h k [] is own = subst (IsHandOf team) (sym is) own
lines_team workers team h k (line ∷ lines) is own =
    lines_team workers team is.0 k lines is.2 (line_team workers team h is.0 line is.1 own)

-- after all lines the pass is the team's still
pub run_team : (workers : ℕ) (start : Known) (k : Hand) (lines : List TeamLine)
    → AreDone workers (new_hand start) lines k → k.pass.team ≡ start.team
run_team workers start k lines is =
    (lines_team workers start.team (new_hand start) k lines is (refl, λ n. tt)).0
