-- How a `Sheet` keeps its data.
use Rattle.task_sheet.specs.Sheet.{OutranksData, Named, AllOthers, Task, IsValidSheet}
use Rattle.task_sheet.specs.declared.outranks.Outranks.{Outranks}
use Rattle.task_sheet.specs.declared.outranks.Outranks.TheVariants as outranks
use Rattle.task_sheet.specs.declared.sheet.Sheet.TheInside.{Inside}

-- what callers see of the tasks above which one must stand
abbrev pub outranks_of : Outranks → OutranksData
outranks_of (outranks.Named names) = Named names.items
outranks_of outranks.AllOthers = AllOthers

-- what callers see of a sheet
abbrev pub sheet_of : Inside → Task
sheet_of a = record {
  name = a.name;
  weight = a.weight;
  period = a.period;
  deadline = a.deadline;
  cost = a.cost;
  sections = a.sections.items;
  jitter = a.jitter;
  outranks = outranks_of a.outranks;
  node = a.node;
  interrupts = a.interrupts.items;
}

-- it is a valid sheet
abbrev pub IsSheetKept : Inside → Type 0
IsSheetKept a = IsValidSheet (sheet_of a)
