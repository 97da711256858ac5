-- What `open` answers.
use Rattle.std.specs.Prelude.{◌≡◌, [], true, false, Result, Ok, Err}
use Rattle.drafts.specs.Machine.{MachineState}
use Rattle.drafts.specs.Books.{Book, IsLegalBook}
use Rattle.drafts.specs.Edits.{Draft}
use Rattle.book_lock.specs.Reached.{IsReached}
use Rattle.book_lock.specs.Own.{own_of, IsForeignName}
use Rattle.book_lock.specs.TeamPass.{Known, is_up_to}
use Rattle.book_lock.specs.declared.answer.OpenFault.{OpenFault}
use Rattle.book_lock.specs.declared.answer.OpenFault.TheVariants.{Foreign, Behind, OutOfMemory}

-- the book's tasks of the pass's team are those that it knows
abbrev pub IsOwn : MachineState → Known → Type 0
IsOwn desk p = own_of p.team desk.node.tasks ≡ p.tasks

-- what a book answers to a pass: a draft on its state; the first name at which the team's tasks differ; that it is older
-- than a receipt
abbrev pub OpensDraft : Book → Known → Result Draft OpenFault → Type 0
OpensDraft b p (Ok d) =
    IsOwn b.desk p
    × (is_up_to b.desk.version p.receipts ≡ true)
    × (d ≡ (let n : Draft = record { team = p.team; base = b.desk; changes = [] } in n))
OpensDraft b p (Err (Foreign name)) = IsForeignName (own_of p.team b.desk.node.tasks) p.tasks name
OpensDraft b p (Err (Behind version)) =
    IsOwn b.desk p × (version ≡ b.desk.version) × (is_up_to version p.receipts ≡ false)
OpensDraft b p (Err OutOfMemory) = Unit {0}

-- an empty draft of that team on a state that a node can come to, with its tasks, and no older than its receipts
pub record IsOpenedFor (p : Known) (d : Draft) : Type 0 where
  pub team : d.team ≡ p.team
  pub changes : d.changes ≡ []
  pub own : IsOwn d.base p
  pub late : is_up_to d.base.version p.receipts ≡ true
  pub reached : IsReached d.base

-- a fault that some legal book answers to that pass
pub record IsNotOpenedFor (p : Known) (fault : OpenFault) : Type 0 where
  pub book : Book
  pub legal : IsLegalBook book
  pub is : OpensDraft book p (Err fault)
