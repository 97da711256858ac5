-- What an event makes of a draft's slot.
use Rattle.std.specs.Prelude.{◌≡◌, ℕ, List, Option, None, Some, Result}
use Rattle.assignment.specs.Questions.{QuestionData}
use Rattle.drafts.specs.declared.change.Change.{Change}
use Rattle.drafts.specs.declared.draft.EditRefusal.{EditRefusal}
use Rattle.drafts.specs.Books.{Book}
use Rattle.desk_core.specs.declared.events.Reply.{Reply}
use Rattle.desk_core.specs.declared.events.Reply.TheVariants.{Done}
use Rattle.desk_core.specs.World.{Live, IsEdited, IsBroughtTo, IsCommitted, IfLive}

-- an edit that comes to changes or to a refusal
abbrev pub IsEditIn :
    Option Live → (Live → Result (List (List ℕ × Change)) EditRefusal) → Reply → Option Live
    → Type 0
IsEditIn slot comes_to reply new =
    IfLive slot reply (new ≡ None)
    (λ l. (m : Live) × IsEdited l (comes_to l) reply m × (new ≡ Some m))

-- a finding
abbrev pub IsFoundIn : Option Live → QuestionData → Reply → Option Live → Type 0
IsFoundIn slot q reply new =
    IfLive slot reply (new ≡ None) (λ l. (m : Live) × IsBroughtTo l q reply m × (new ≡ Some m))

-- a commit, with the book before and after
abbrev pub IsCommitIn : Book → Option Live → Reply → Book → Option Live → Type 0
IsCommitIn b slot reply book new =
    IfLive slot reply ((book ≡ b) × (new ≡ None)) (λ l. IsCommitted b l reply book new)

-- an end without a decision
abbrev pub IsAbandonIn : Option Live → Reply → Option Live → Type 0
IsAbandonIn slot reply new = IfLive slot reply (new ≡ None) (λ l. (reply ≡ Done) × (new ≡ None))
