-- How a slot keeps its draft.
use Rattle.std.specs.Prelude.{Option, None, Some}
use Rattle.desk_core.specs.World.{Live, opened}
use Rattle.desk_core.specs.declared.slot.SlotContents.{SlotContents}
use Rattle.desk_core.specs.declared.slot.SlotContents.TheVariants.{Nothing, Opened, Grown}
use Rattle.desk_core.specs.declared.slot.Slot.TheInside.{Inside}

-- the draft that is kept, if it hasn't ended
abbrev pub slot_of : SlotContents → Option Live
slot_of Nothing = None
slot_of (Opened team base) = Some (opened team base.value)
slot_of (Grown live) = Some live.value

-- what callers see of a slot
abbrev pub kept_in : Inside → Option Live
kept_in a = slot_of a.kept

-- a draft that is kept can be asked
abbrev pub IsGrown : SlotContents → Type 0
IsGrown Nothing = Unit {0}
IsGrown (Opened team base) = ⊥
IsGrown (Grown live) = Unit {0}
