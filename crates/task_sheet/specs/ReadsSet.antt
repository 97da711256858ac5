-- What reading a task set, or a document, answers.
use Rattle.std.specs.Prelude.{◌≡◌, ℕ, List, Option, None, Some, IfSome, Result, Ok, Err, IsUtf8}
use Rattle.toml.specs.Data.{Members}
use Rattle.toml.specs.Parse.{parse_document}
use Rattle.task_sheet.specs.Sheet.{Task, AreOverheads, AreInterrupts}
use Rattle.task_sheet.specs.Rank.{IsByRank}
use Rattle.task_sheet.specs.Tree.{tree_sheets, tree_prefers, tree_node, tree_interrupts}
use Rattle.task_sheet.specs.TreeFault.{tree_fault}
use Rattle.task_sheet.specs.declared.prefer.Preference.{Preference}
use Rattle.task_sheet.specs.declared.node.Node.{Node}
use Rattle.task_sheet.specs.declared.node.Interrupt.{Interrupt}
use Rattle.task_sheet.specs.declared.set.TaskSet.{TaskSet}
use Rattle.task_sheet.specs.declared.read.Document.{Document}
use Rattle.task_sheet.specs.declared.read.SetFault.{SetFault}
use Rattle.task_sheet.specs.declared.read.SetFault.TheVariants as fault

-- the bytes are a document with this tree
pub record IsDocument (text : List ℕ) (tree : Members) : Type 0 where
  pub utf8 : IsUtf8 text
  pub parsed : parse_document text ≡ Some tree

-- a set: the tree's sheets by rank, where the tree has no fault; Syntax: there is no tree; any other
-- fault but out of memory: the tree's first
abbrev pub ReadsSet : List ℕ → Result TaskSet SetFault → Type 0
ReadsSet text (Ok set) =
    (tree : Members)
    × IsDocument text tree
    × (tree_fault tree ≡ None)
    × IsByRank (tree_sheets tree) set
ReadsSet text (Err fault.OutOfMemory) = Unit {0}
ReadsSet text (Err fault.Syntax) = (tree : Members) → IsDocument text tree → ⊥
ReadsSet text (Err e) = (tree : Members) × IsDocument text tree × (tree_fault tree ≡ Some e)

-- the numbers of a node, where there is one, and the interrupts are within the limits
pub record AreWithinLimits (said : Option Node) (xs : List Interrupt) : Type 0 where
  pub node : IfSome said AreOverheads
  pub interrupts : AreInterrupts xs

-- the bytes are a document with this set, which prefers this, and with this node and these interrupts
abbrev pub SaysDocument : List ℕ → List Task → Option Preference → Option Node → List Interrupt
    → Type 0
SaysDocument text U prefers node interrupts =
    (tree : Members)
    × IsDocument text tree
    × (tree_fault tree ≡ None)
    × IsByRank (tree_sheets tree) U
    × (prefers ≡ tree_prefers tree)
    × (node ≡ tree_node tree)
    × (interrupts ≡ tree_interrupts tree)

-- what a tree without a fault says, of which a document is made
abbrev pub SaysTree : Members → Document → Type 0
SaysTree tree d =
    (tree_fault tree ≡ None)
    × IsByRank (tree_sheets tree) d.set
    × (d.prefers ≡ tree_prefers tree)
    × (d.node ≡ tree_node tree)
    × (d.interrupts.items ≡ tree_interrupts tree)

-- a document; a refusal is that of reading the set
abbrev pub ReadsDocument : List ℕ → Result Document SetFault → Type 0
ReadsDocument text (Ok d) = SaysDocument text d.set d.prefers d.node d.interrupts.items
ReadsDocument text (Err e) = ReadsSet text (Err e)
