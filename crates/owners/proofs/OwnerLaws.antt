-- The owners of the documents that were read so far.
use Rattle.std.proofs.Common.{◌≡◌, ◌∙◌, ◌++◌, ℕ, List, [], ◌∷◌, refl, sym, ap}
use Rattle.std.proofs.Common.{append_assoc, append-nil}
use Rattle.task_sheet.specs.declared.read.Document.{Document}
use Rattle.teams.specs.Gathering.{AreGathered, IsFirstPart}
use Rattle.teams.specs.Owned.{TeamSetData}
use Rattle.teams.specs.declared.reading.Part.{Part}
use Rattle.teams.proofs.TeamLaws.{gathered_more}
use Rattle.owners.specs.Owners.{IsDocumentOf, interrupts_by, owned_by, owners_of}
use Rattle.task_lines.specs.declared.owner.Owner.{Owner}

-- these have the tasks of the documents that a text begins with, up to what stands behind them
pub record Gathers (text rest : List ℕ) (owners : List Owner) : Type 0 where
  pub sets : List TeamSetData
  pub gathered : AreGathered text rest sets
  pub are : owners ≡ owners_of sets

owners_more : (sets : List TeamSetData) (s : TeamSetData)
    → owners_of (sets ++ s ∷ []) ≡ owners_of sets ++ (owned_by s.team s.set
    ++ interrupts_by s.team s.interrupts)
owners_more [] s = append-nil (owned_by s.team s.set ++ interrupts_by s.team s.interrupts)
owners_more (r ∷ sets) s =
    let own = owned_by r.team r.set ++ interrupts_by r.team r.interrupts in
    let last = owned_by s.team s.set ++ interrupts_by s.team s.interrupts in
    ap (λ (l : List Owner). own ++ l) (owners_more sets s)
    ∙ sym (append_assoc own (owners_of sets) last)

-- one document more
pub gathers_more : (text rest after : List ℕ) (owners more : List Owner) (p : Part) (d : Document)
    → Gathers text rest owners → IsFirstPart rest p.team p.text.now after → IsDocumentOf p d
    → more ≡ owners ++ owned_by p.team d.set ++ interrupts_by p.team d.interrupts.items
    → Gathers text after more
gathers_more text rest after owners more p d all first says is =
    let s : TeamSetData = record {
      team = p.team;
      set = d.set;
      prefers = d.prefers;
      node = d.node;
      interrupts = d.interrupts.items;
    } in
    record {
      sets = all.sets ++ s ∷ [];
      gathered = gathered_more text rest after all.sets p s all.gathered first (refl, says);
      are = is
          ∙ append_assoc owners (owned_by p.team d.set)
          (interrupts_by p.team d.interrupts.items)
          ∙ ap (λ (l : List Owner). l ++ (owned_by p.team d.set
          ++ interrupts_by p.team d.interrupts.items)) all.are
          ∙ sym (owners_more all.sets s);
    }
