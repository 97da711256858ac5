-- What a command says of what its two readers have: a set and a text.
use Rattle.std.specs.Prelude.{◌⊎◌, ℕ, List, Option, Result, Ok, Err}
use Rattle.preferences.specs.declared.asking.Asking.{Asking}
use Rattle.answering.specs.Owning.{HasChained, HaveOwned}
use Rattle.answering.specs.Printed.{PrintsAnswer}
use Rattle.answering.specs.Sets.{HaveNotBoth}
use Rattle.answering.specs.declared.answer.Answer.{Answer}
use Rattle.answering.specs.declared.refusal.CommandRefusal.{CommandRefusal}
use Rattle.answering.specs.declared.sets.Both.{Both}
use Rattle.answering.specs.declared.status.Status.{Status}

-- one reader has the set, as the call asks for it, whose its tasks are and its chains, and the other the text, of at most so
-- many bytes
abbrev pub HaveBoth : (most : ℕ) → Asking → (set other : Option (List ℕ)) → Both → Type 0
HaveBoth most asking set other both =
    HaveOwned most asking set other both.by both.tasks both.owners.items both.text.items
    × HasChained set both.tasks both.chains.items

-- what a command answers on both
abbrev pub OfBoth : Type 1
OfBoth = Both → Result Answer CommandRefusal → Type 0

-- its answer on what the readers have: that on both, or why there are not both
abbrev pub OnBoth : OfBoth → (most : ℕ) → Asking → (set other : Option (List ℕ))
    → Result Answer CommandRefusal → Type 0
OnBoth answers most asking set other (Ok answer) =
    (both : Both) × HaveBoth most asking set other both × answers both (Ok answer)
OnBoth answers most asking set other (Err r) =
    HaveNotBoth most asking set other r
    ⊎ ((both : Both) × HaveBoth most asking set other both × answers both (Err r))

-- it is printed after what the writer held, and the status is the answer's
abbrev pub SaysOnBoth : OfBoth → (most : ℕ) → Asking → (set other : Option (List ℕ))
    → (before after : Option (List ℕ)) → Status → Type 0
SaysOnBoth answers most asking set other before after s =
    PrintsAnswer (OnBoth answers most asking set other) before after s
