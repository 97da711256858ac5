-- Proposals, and what settling one does.
use Rattle.std.specs.Prelude.{◌≡◌, ◌<◌, ◌⊎◌}
use Rattle.drafts.specs.declared.judging.Judged.{Judged}
use Rattle.drafts.specs.Applied.{applied}
use Rattle.drafts.specs.Books.{Book}
use Rattle.drafts.specs.Machine.{Ruling}
use Rattle.drafts.specs.Edits.{Draft, on_base}
use Rattle.drafts.specs.Outcomes.{IsJudged, IsSaid}

-- a draft, and what its changes come to on its base, with the verdict
pub record ProposalData : Type 0 where
  pub draft : Draft
  pub judged : Judged

-- what was judged is what the changes come to on the base
abbrev pub IsProposal : ProposalData → Type 0
IsProposal p = IsJudged (on_base p.draft) p.judged

-- what was judged is what the changes come to on the present state
abbrev pub StillHolds : Book → ProposalData → Type 0
StillHolds b p = IsJudged (applied p.draft.team b.desk.node p.draft.changes) p.judged

-- the decision says what was judged; an admitted one has the version after the base's
abbrev pub IsSaidBy : ProposalData → Ruling → Type 0
IsSaidBy p decision = IsSaid p.draft.base.version p.judged decision

-- its base is above the present version, or equal while the changes come to something else on the present state
abbrev pub IsStrange : Book → ProposalData → Type 0
IsStrange b p =
    (b.desk.version < p.draft.base.version) ⊎ ((p.draft.base.version ≡ b.desk.version)
    × (¬ StillHolds b p))
