-- A document that says nothing, in front of others.
use Rattle.std.proofs.Common.{◌≡◌, ◌∙◌, ℕ, List, [], ◌∷◌, Option, Some, None, Ok, refl, ap, sym, subst}
use Rattle.task_sheet.specs.Sheet.{Task}
use Rattle.task_sheet.specs.declared.prefer.Preference.{Preference}
use Rattle.task_sheet.specs.declared.prefer.Preference.TheVariants.{Weights, Deadline, Chains}
use Rattle.task_sheet.specs.declared.node.Node.{Node}
use Rattle.task_sheet.specs.declared.node.Interrupt.{Interrupt}
use Rattle.task_sheet.specs.declared.read.Document.{Document}
use Rattle.teams.specs.Agreeing.{disagreement_with, first_saying, says_other, says_other_node}
use Rattle.teams.specs.Owned.{TeamSetData}
use Rattle.teams.specs.ReadsTeams.{UnitesAll}
use Rattle.teams.specs.declared.fault.TeamsFault.TheVariants.{OtherPreference, OtherNode}

of : List ℕ → List Task → Option Preference → Option Node → List Interrupt → TeamSetData
of team set prefers node interrupts = record {
  team = team;
  set = set;
  prefers = prefers;
  node = node;
  interrupts = interrupts;
}

bare : List ℕ → TeamSetData
bare team = record { team = team; set = []; prefers = None; node = None; interrupts = [] }

is_bare : (s : TeamSetData) → s.set ≡ [] → s.prefers ≡ None → s.node ≡ None → s.interrupts ≡ []
    → s ≡ bare s.team
unfolding of bare
is_bare s tasks prefers node interrupts =
    ap (λ x. of s.team x s.prefers s.node s.interrupts) tasks
    ∙ (ap (λ x. of s.team [] x s.node s.interrupts) prefers
    ∙ (ap (λ x. of s.team [] None x s.interrupts) node
    ∙ ap (λ x. of s.team [] None None x) interrupts))

same_preference : (said : Option (List ℕ × Preference)) (team : List ℕ) (sets : List TeamSetData)
    → disagreement_with says_other (λ s. s.prefers) (λ t other. OtherPreference t other) said
    (bare team ∷ sets)
    ≡ disagreement_with says_other (λ s. s.prefers) (λ t other. OtherPreference t other) said sets
unfolding bare
same_preference None team sets = refl
same_preference (Some (t, Weights)) team sets = refl
same_preference (Some (t, Deadline)) team sets = refl
same_preference (Some (t, Chains)) team sets = refl

same_node : (said : Option (List ℕ × Node)) (team : List ℕ) (sets : List TeamSetData)
    → disagreement_with says_other_node (λ s. s.node) (λ t other. OtherNode t other) said
    (bare team ∷ sets)
    ≡ disagreement_with says_other_node (λ s. s.node) (λ t other. OtherNode t other) said sets
unfolding bare
same_node None team sets = refl
same_node (Some said) team sets = refl

without_bare : (team : List ℕ) (sets : List TeamSetData) (d : Document)
    → UnitesAll (bare team ∷ sets) (Ok d) → UnitesAll sets (Ok d)
unfolding bare
without_bare team sets d all = (
  record {
    preference =
        sym (same_preference (first_saying (λ s. s.prefers) sets) team sets) ∙ all.0.preference;
    node = sym (same_node (first_saying (λ s. s.node) sets) team sets) ∙ all.0.node;
    interrupts = all.0.interrupts;
  },
  all.1,
  all.2,
  all.3,
  all.4,
)

pub without : (s : TeamSetData) (sets : List TeamSetData) (d : Document) → s.set ≡ []
    → s.prefers ≡ None → s.node ≡ None → s.interrupts ≡ [] → UnitesAll (s ∷ sets) (Ok d)
    → UnitesAll sets (Ok d)
without s sets d tasks prefers node interrupts all = without_bare s.team sets d
    (subst (λ (x : TeamSetData). UnitesAll (x ∷ sets) (Ok d)) (is_bare s tasks prefers node interrupts) all)
