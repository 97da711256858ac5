-- What a text says as it is written, and with what its node takes: numbers and interrupts within the limits, and documents of the
-- same set, preference, node and interrupts as one answer.
use Rattle.std.proofs.Common.{◌≡◌, ◌∙◌, ℕ, inl, inr, Bool, true, false, List, [], ◌∷◌, length}
use Rattle.std.proofs.Common.{map, Option, Some, None, IfSome, option_map, All, Ok, sym, ap}
use Rattle.std.proofs.Common.{arith, Result, Err, refl}
use Rattle.std.proofs.lemmas.Bool.{cases_Bool}
use Rattle.std.proofs.lemmas.List.Elements.{All-append, All-from_recursion, All-head, All-nil, All-tail}
use Rattle.std.specs.List.{AllByRecursion}
use Rattle.std.specs.Option.{option_or}
use Rattle.task_sheet.specs.Sheet.{Task, AreOverheads, IsInterrupt}
use Rattle.task_sheet.specs.ReadsSet.{AreWithinLimits}
use Rattle.task_sheet.specs.declared.node.Node.{Node}
use Rattle.task_sheet.specs.declared.node.Interrupt.{Interrupt}
use Rattle.task_sheet.specs.declared.read.Document.{Document}
use Rattle.toml.specs.Data.{Members}
use Rattle.task_sheet.specs.Tree.{tables_at, value_at}
use Rattle.task_sheet.specs.TreeFault.{interrupts_fault, overheads_fault, prefer_fault}
use Rattle.task_sheet.specs.declared.keys.Key.TheVariants as key
use Rattle.task_sheet.specs.declared.read.SetFault.{SetFault}
use Rattle.task_sheet.proofs.WithinLimits.{overheads_within, says_within, tables_within}
use Rattle.teams.specs.NodeDocument.{NodeData, ReadsNodeDocument, node_fault, only_keys, own_fault}
use Rattle.teams.specs.declared.node.NodeKey.TheVariants.{Locks, Said, Strict, Team}
use Rattle.teams.specs.declared.node.NodeFault.{NodeFault}
use Rattle.teams.specs.declared.node.NodeFault.TheVariants as node
use Rattle.teams.specs.Agreeing.{first_saying, interrupts_by, node_by, said_by}
use Rattle.teams.specs.Budgets.{AreSound}
use Rattle.teams.specs.Naming.{named_by, named_set}
use Rattle.teams.specs.declared.naming.Lock.{Lock}
use Rattle.teams.specs.Owned.{TeamSetData}
use Rattle.teams.specs.ReadsTeams.{AreRead, UnitesAll}
use Rattle.teams.specs.ReadsText.{ReadsEither, ReadsWritten, is_gathered, Pads, ReadsText}
use Rattle.teams.specs.declared.reading.Part.{Part}
use Rattle.overheads.specs.Padding.{IsPadded}
use Rattle.teams.specs.declared.fault.TeamsFault.{TeamsFault}
use Rattle.teams.specs.declared.fault.TeamsFault.TheVariants.{OutOfMemory}

-- ---- within the limits
each_within : (ps : List Part) (sets : List TeamSetData) → AreRead ps sets
    → AllByRecursion (λ s. AreWithinLimits s.node s.interrupts) sets
each_within [] [] all = tt
each_within (p ∷ ps) (s ∷ sets) all =
    (says_within p.text.now s.set s.prefers s.node s.interrupts all.0.1, each_within ps sets all.1)
each_within ps sets all = absurd all

pub sound_sets : (ps : List Part) (sets : List TeamSetData) → AreRead ps sets → AreSound sets
sound_sets ps sets all = All-from_recursion (λ s. All IsInterrupt s.interrupts) sets (by sets (each_within ps sets all))
  where
    by : (xs : List TeamSetData) → AllByRecursion (λ s. AreWithinLimits s.node s.interrupts) xs
        → AllByRecursion (λ s. All IsInterrupt s.interrupts) xs
    by [] all = tt
    by (x ∷ xs) all = (all.0.interrupts.valid, by xs all.1)

node_within : (sets : List TeamSetData) → AllByRecursion (λ s. AreWithinLimits s.node s.interrupts)
    sets → IfSome (node_by sets) AreOverheads
node_within [] all = tt
node_within (s ∷ sets) all = by s.node all.0.node (node_within sets all.1)
  where
    by : (o : Option Node) → IfSome o AreOverheads → IfSome (node_by sets) AreOverheads
        → IfSome (option_map (λ said. said.1) (option_or (said_by s.team o)
        (first_saying (λ (d : TeamSetData). d.node) sets))) AreOverheads
    by None own rest = rest
    by (Some n) own rest = own

interrupts_within : (sets : List TeamSetData) → AllByRecursion
    (λ s. AreWithinLimits s.node s.interrupts) sets → All IsInterrupt (interrupts_by sets)
interrupts_within [] all = All-nil IsInterrupt
interrupts_within (s ∷ sets) all = All-append IsInterrupt s.interrupts (interrupts_by sets)
    all.0.interrupts.valid (interrupts_within sets all.1)

all_within : (sets : List TeamSetData) (d : Document)
    → AllByRecursion (λ s. AreWithinLimits s.node s.interrupts) sets → UnitesAll sets (Ok d)
    → AreWithinLimits d.node d.interrupts.items
all_within sets d each all = record {
  node = rw (all.2) (node_within sets each);
  interrupts = record {
    valid = rw (all.3) (interrupts_within sets each);
    few = omega (arith, all.0.interrupts, ap length all.3);
  };
}

united_within : (ps : List Part) (sets : List TeamSetData) (d : Document) → AreRead ps sets
    → UnitesAll sets (Ok d) → AreWithinLimits d.node d.interrupts.items
united_within ps sets d read all = all_within sets d (each_within ps sets read) all

-- ---- the node's document
no_fault : (o p : Option SetFault) → option_or o p ≡ None → (o ≡ None) × (p ≡ None)
no_fault None p e = (refl, e)
no_fault (Some f) p e = cc

no_node_fault : (o p : Option NodeFault) → option_or o p ≡ None → o ≡ None
no_node_fault None p e = refl
no_node_fault (Some f) p e = cc

none_said : (o : Option SetFault) → option_map node.Says o ≡ None → o ≡ None
none_said None e = refl
none_said (Some f) e = cc

root_none : (tree : Members) → node_fault tree ≡ None → own_fault tree ≡ None
root_none tree none = elim (cases_Bool (only_keys
    (Said key.Prefer ∷ Said key.Node ∷ Said key.Interrupt ∷ Said key.Chain ∷ Strict ∷ Locks ∷ Team ∷ []) tree)) [
      | inl known ↦ none_said _ (no_node_fault _ _ (rw known at none))
      | inr other ↦
          let some : Some node.UnknownRoot ≡ None = (rw other at none) in
          absurd (cc)
    ]

-- the node's document says as much
pub node_bounds : (document : List ℕ) (n : NodeData) → ReadsNodeDocument document (Ok n)
    → AreWithinLimits n.own.node n.own.interrupts
node_bounds document n (tree, is, none, says) =
    let first = root_none tree none in
    let prefers = no_fault (prefer_fault (value_at key.Prefer tree)) _ first in
    let node = no_fault (overheads_fault (value_at key.Node tree)) _ prefers.1 in
    let rest = no_fault (interrupts_fault (tables_at key.Interrupt tree)) _ node.1 in
    rw says (record {
      node = overheads_within (value_at key.Node tree) node.0;
      interrupts = tables_within (tables_at key.Interrupt tree) rest.0;
    })

-- and teams' documents with locks by their own names say as much as they are
named_within : (o : Option (List Lock)) (sets : List TeamSetData)
    → AllByRecursion (λ s. AreWithinLimits s.node s.interrupts) sets
    → AllByRecursion (λ s. AreWithinLimits s.node s.interrupts) (named_by o sets)
named_within None sets all = all
named_within (Some locks) sets all = by sets all
  where
    by : (xs : List TeamSetData) → AllByRecursion (λ s. AreWithinLimits s.node s.interrupts) xs
        → AllByRecursion (λ s. AreWithinLimits s.node s.interrupts) (map (named_set locks) xs)
    by [] all = tt
    by (x ∷ xs) all = (all.0, by xs all.1)

pub sound_named : (locks : List Lock) (sets : List TeamSetData) → AreSound sets
    → AreSound (map (named_set locks) sets)
sound_named locks sets all =
    All-from_recursion (λ s. All IsInterrupt s.interrupts) (map (named_set locks) sets) (by sets all)
  where
    by : (xs : List TeamSetData) → AreSound xs
        → AllByRecursion (λ s. All IsInterrupt s.interrupts) (map (named_set locks) xs)
    by [] all = tt
    by (x ∷ xs) all = (
      All-head (λ (s : TeamSetData). All IsInterrupt s.interrupts) x xs all,
      by xs (All-tail (λ (s : TeamSetData). All IsInterrupt s.interrupts) x xs all),
    )

pub bounded_within : (n : NodeData) (sets : List TeamSetData) (d : Document)
    → AreWithinLimits n.own.node n.own.interrupts → (ps : List Part) → AreRead ps sets
    → UnitesAll (n.own ∷ named_by n.locks sets) (Ok d)
    → AreWithinLimits d.node d.interrupts.items
bounded_within n sets d own ps read all = all_within (n.own ∷ named_by n.locks sets) d
    (own, named_within n.locks sets (each_within ps sets read)) all

either_within : (b : Bool) (text : List ℕ) (d : Document) → ReadsEither b text (Ok d)
    → AreWithinLimits d.node d.interrupts.items
either_within false text d says = says_within text d.set d.prefers d.node d.interrupts.items says
either_within true text d (inl bounded) =
    let judged = bounded.3 in
    bounded_within judged.0 judged.1 d (node_bounds bounded.0 judged.0 judged.2) judged.3.0 judged.3.2
    judged.4.1.0
either_within true text d (inr gathered) =
    let teams = gathered.1 in
    united_within teams.1.0 teams.0 d teams.1.2 teams.2

pub written_within : (text : List ℕ) (d : Document) → ReadsWritten text (Ok d)
    → AreWithinLimits d.node d.interrupts.items
written_within text d reads = either_within (is_gathered text) text d reads

-- ---- the same answer
record SaySame (u d : Document) : Type 0 where
  set : d.set ≡ u.set
  prefers : d.prefers ≡ u.prefers
  node : d.node ≡ u.node
  interrupts : d.interrupts.items ≡ u.interrupts.items

either_same : (b : Bool) (text : List ℕ) (u d : Document) → SaySame u d → ReadsEither b text (Ok u)
    → ReadsEither b text (Ok d)
either_same false text u d same says =
    rw (same.set, same.prefers, same.node, same.interrupts) says
either_same true text u d same says = rw (same.set, same.prefers, same.node, same.interrupts) says

-- ---- one document
plain : (said : Option Node) (xs : List Interrupt) (U V : List Task) → said ≡ None → xs ≡ []
    → IsPadded said xs U V → V ≡ U
plain said xs U V none bare is = rw (none, bare) at is.1

-- ---- the text
pub reads_padded : (text : List ℕ) (u : Document) (answer : Result Document TeamsFault)
    → ReadsWritten text (Ok u) → Pads u answer → ReadsText text answer
reads_padded text u (Ok d) reads pads = (u, reads, pads)
reads_padded text u (Err OutOfMemory) reads pads = tt
reads_padded text u (Err e) reads pads = inr (u, reads, pads)

-- ---- without a node and interrupts
pub as_written : (text : List ℕ) (d : Document) → d.node ≡ None → d.interrupts.items ≡ []
    → ReadsText text (Ok d) → ReadsWritten text (Ok d)
as_written text d none bare (u, reads, (is, prefers, node, interrupts)) =
    let same : SaySame u d = record {
      set = plain u.node u.interrupts.items u.set d.set (sym node ∙ none) (sym interrupts ∙ bare) is;
      prefers = prefers;
      node = node;
      interrupts = interrupts;
    } in
    either_same (is_gathered text) text u d same reads

pub written : (text : List ℕ) (d : Document) → d.node ≡ None → d.interrupts.items ≡ []
    → ReadsWritten text (Ok d) → ReadsText text (Ok d)
written text d none bare reads =
    let is : IsPadded d.node d.interrupts.items d.set d.set = rw (none, bare) (refl, refl) in
    (d, reads, (is, refl, refl, refl))
