-- What settling a proposal does and answers.
use Rattle.std.specs.Prelude.{◌≡◌, ◌<◌, Result, Ok, Err}
use Rattle.drafts.specs.declared.settling.Settled.{Settled}
use Rattle.drafts.specs.declared.settling.Settled.TheVariants.{Stale, Decided}
use Rattle.drafts.specs.declared.settling.SettleFault.{SettleFault}
use Rattle.drafts.specs.declared.settling.SettleFault.TheVariants.{Stranger, OutOfMemory}
use Rattle.drafts.specs.Books.{Book, logged, IsNextEntry}
use Rattle.drafts.specs.Proposals.{ProposalData, IsStrange, StillHolds, IsSaidBy}

-- stale where the present version is above the base; a stranger is handed back; a proposal that still holds is one
-- machine step, logged
abbrev pub IsSettled : Book → ProposalData → Book → Result Settled SettleFault → Type 0
IsSettled old p new (Ok (Stale fresh back)) =
    (p.draft.base.version < old.desk.version) × (fresh.value ≡ old.desk) × (back ≡ p) × (new ≡ old)
IsSettled old p new (Ok (Decided place entry)) =
    (p.draft.base.version ≡ old.desk.version) × StillHolds old p
    × IsNextEntry old p.draft place entry.value
    × IsSaidBy p entry.value.decision × (new ≡ logged old entry.value)
IsSettled old p new (Err (Stranger back)) = IsStrange old p × (back ≡ p) × (new ≡ old)
IsSettled old p new (Err (OutOfMemory back)) = (back ≡ p) × (new ≡ old)
