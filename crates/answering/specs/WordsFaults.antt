-- Where the text of refused words goes, and with which status the program then ends.
use Rattle.std.specs.Prelude.{◌≡◌, Bool, true, false}
use Rattle.clap.specs.Words.{kind_of}
use Rattle.clap.specs.declared.error.kind.ErrorKind.{ErrorKind}
use Rattle.clap.specs.declared.error.kind.ErrorKind.TheVariants as kind
use Rattle.command_line.specs.declared.words.WordsFault.{WordsFault}
use Rattle.command_line.specs.declared.words.WordsFault.TheVariants as fault
use Rattle.answering.specs.declared.status.Status.{Status}
use Rattle.answering.specs.declared.status.Status.TheVariants as status

-- help is no mistake
abbrev pub kind_status : ErrorKind → Status
kind_status kind.OutOfMemory = status.OutOfMemory
kind_status kind.DisplayHelp = status.Done
kind_status kind.DisplayVersion = status.Done
kind_status _ = status.BadArguments

-- the exit status of refused words
abbrev pub fault_status : WordsFault → Status
fault_status (fault.Clap error) = kind_status (kind_of error)
fault_status fault.NoSuchPreference = status.BadArguments
fault_status fault.NoSuchSort = status.BadArguments
fault_status fault.InputTwice = status.BadArguments

-- help, and out of memory, are answered on the output; any mistake is answered on the errors
abbrev pub kind_goes_out : ErrorKind → Bool
kind_goes_out kind.OutOfMemory = true
kind_goes_out kind.DisplayHelp = true
kind_goes_out kind.DisplayVersion = true
kind_goes_out _ = false

-- the text of the fault goes to the output, and not to the errors
abbrev pub goes_out : WordsFault → Bool
goes_out (fault.Clap error) = kind_goes_out (kind_of error)
goes_out fault.NoSuchPreference = false
goes_out fault.NoSuchSort = false
goes_out fault.InputTwice = false

-- memory ran out
abbrev pub IsMemory : WordsFault → Type 0
IsMemory (fault.Clap error) = kind_of error ≡ kind.OutOfMemory
IsMemory fault.NoSuchPreference = ⊥
IsMemory fault.NoSuchSort = ⊥
IsMemory fault.InputTwice = ⊥
