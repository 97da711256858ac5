-- What a kernel keeps of its tasks.
use Rattle.std.specs.Prelude.{◌≡◌, ℕ, ◌+◌, ◌<◌, Bool, ◌&&◌, nat_lt, List, [], ◌∷◌, length, slice_index_or}
use Rattle.task_sheet.specs.Sheet.{CriticalSection, task_at}
use Rattle.ceiling_kernel.specs.declared.tasks.NodeSection.{NodeSection}
use Rattle.ceiling_kernel.specs.declared.tasks.NodeTask.{NodeTask}
use Rattle.ceiling_kernel.specs.Tick.{Node, level_in_order, top_ceiling}

-- what is kept of a section
pub record IsSectionOf (node : Node) (x : CriticalSection) (s : NodeSection) : Type 0 where
  pub at : s.at ≡ x.at
  pub stop : s.stop ≡ x.at + x.len
  pub top : s.top ≡ top_ceiling node x.locks

-- a job is inside a section, as it is kept, after e ticks
abbrev pub is_within : NodeSection → ℕ → Bool
is_within s e = nat_lt s.at e && nat_lt e s.stop

-- what is kept of sections, in their order
abbrev pub AreSectionsOf : Node → List CriticalSection → List NodeSection → Type 0
AreSectionsOf node [] [] = Unit {0}
AreSectionsOf node [] (s ∷ ss) = ⊥
AreSectionsOf node (x ∷ xs) [] = ⊥
AreSectionsOf node (x ∷ xs) (s ∷ ss) = IsSectionOf node x s × AreSectionsOf node xs ss

-- what is kept of the task at an index
pub record IsTaskOf (node : Node) (i : ℕ) (t : NodeTask) : Type 0 where
  pub level : t.level ≡ level_in_order node i
  pub cost : t.cost ≡ (task_at node.tasks i).cost
  pub sections : AreSectionsOf node (task_at node.tasks i).sections t.sections.items

-- what is kept of the first tasks
abbrev pub AreTasksOf : Node → List NodeTask → Type 0
AreTasksOf node ts =
    (i : ℕ) (t : NodeTask) → i < length ts → t ≡ slice_index_or ts i t → IsTaskOf node i t

-- what is kept of all tasks
pub record KeepsTasks (node : Node) (ts : List NodeTask) : Type 0 where
  pub count : length ts ≡ length node.tasks
  pub each : AreTasksOf node ts
