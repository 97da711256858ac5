-- The view that the words of `desk draw` choose.
use Rattle.std.specs.Prelude.{◌≡◌, ⊤, ℕ, Bool, true, false, ◌==◌, List, [], ◌∷◌, ◌++◌, bytes_eq, codes, map, Option, Some, None, Result, Ok, Err, option_map, string_bytes}
use Rattle.std.specs.List.{find, slice_split}
use Rattle.std.specs.Option.{unwrap_or}
use Rattle.task_sheet.specs.Sheet.{Task}
use Rattle.lines.specs.Words.{name_in}
use Rattle.command_line.specs.declared.calls.Options.{Options}
use Rattle.frames.specs.View.{is_empty, paper_width}
use Rattle.frames.specs.declared.view.View.{View}
use Rattle.answering.specs.Asked.{asked_task}
use Rattle.answering.specs.declared.refusal.CommandRefusal.{CommandRefusal}
use Rattle.answering.specs.declared.refusal.CommandRefusal.TheVariants as refusal
use Rattle.two_input_commands.specs.declared.view.Sets.{Sets}
use Rattle.two_input_commands.specs.declared.simulate.Simulated.{Simulated}
use Rattle.two_input_commands.specs.declared.simulate.Simulated.TheVariants.{Infeasible, Ran}

-- ---- the rows
-- the tasks of a set and of the one that it becomes, if there is one
abbrev pub tasks_with : List Task → Option (List Task) → List Task
tasks_with U None = U
tasks_with U (Some V) = U ++ V

-- the same of sets
abbrev pub tasks_in : Sets → List Task
tasks_in sets = tasks_with sets.old.now (option_map (λ set. set.now) sets.new)

-- the parts of a word between its commas
abbrev pub parts_of : List ℕ → List (List ℕ)
parts_of word = slice_split (λ b. b == 44) word

-- a word, where it names a task that was found
abbrev pub known_as : Option ℕ → List ℕ → Option (List ℕ)
known_as None word = None
known_as (Some task) word = Some word

-- a word, where it names a task of a set
abbrev pub known_name : List Task → List ℕ → Option (List ℕ)
known_name U word = known_as (asked_task U word) word

-- the name of one more task is noted, or there is none of the name
abbrev pub Notes : List Task → List ℕ → (old new : List (List ℕ)) → Result ⊤ CommandRefusal → Type 0
Notes U part old new (Ok _) = (known_name U part ≡ Some part) × (new ≡ old ++ part ∷ [])
Notes U part old new (Err (refusal.NoSuchTask name)) = (known_name U part ≡ None) × (name ≡ name_in part)
Notes U part old new (Err refusal.OutOfMemory) = Unit {0}
Notes U part old new (Err _) = ⊥

-- there is no name
abbrev pub is_nameless : Option (List ℕ) → Bool
is_nameless None = true
is_nameless (Some name) = false

-- the first of some words that names none
abbrev pub first_unknown : List Task → List (List ℕ) → Option (List ℕ)
first_unknown U words = find (λ word. is_nameless (known_name U word)) words

-- the word for all tasks
abbrev pub is_all : List ℕ → Bool
is_all word = bytes_eq word (codes "all")

-- the names of a set's tasks
abbrev pub names_of : List Task → List (List ℕ)
names_of U = map (λ (t : Task). t.name) U

-- the tasks that a word names: all, or those of its parts
abbrev pub AreRowsIn : List Task → (all : Bool) → List ℕ → List (List ℕ) → Type 0
AreRowsIn U true word names = names ≡ names_of U
AreRowsIn U false word names =
    (first_unknown U (parts_of word) ≡ None) × (names ≡ parts_of word)

-- the tasks that are named, where there is a word
abbrev pub AreRowsOf : List Task → Option (List ℕ) → List (List ℕ) → Type 0
AreRowsOf U None names = names ≡ []
AreRowsOf U (Some word) names = AreRowsIn U (is_all word) word names

-- there is none of a name: the first part that names none
abbrev pub IsNoRow : List Task → Option (List ℕ) → Option (List ℕ) → Type 0
IsNoRow U None name = ⊥
IsNoRow U (Some word) name =
    (is_all word ≡ false)
    × ((part : List ℕ) × (first_unknown U (parts_of word) ≡ Some part) × (name ≡ name_in part))

-- the tasks that have rows, or that there is none of a name
abbrev pub AsksRows : List Task → Option (List ℕ) → Result (List (List ℕ)) CommandRefusal → Type 0
AsksRows U word (Ok names) = AreRowsOf U word names
AsksRows U word (Err (refusal.NoSuchTask name)) = IsNoRow U word name
AsksRows U word (Err refusal.OutOfMemory) = Unit {0}
AsksRows U word (Err _) = ⊥

-- the word that names them
abbrev pub rows_word : Options → Option (List ℕ)
rows_word options = option_map (λ word. word.now) options.rows

-- ---- the view
-- what stands before the verdict, where something is said
abbrev pub title_word : Options → List ℕ
title_word options = unwrap_or (option_map (λ word. word.now) options.title) []

-- how wide it is: as words say, else on paper of an A size so wide that its type can be read
abbrev pub width_said : (width print : Option ℕ) → Option ℕ
width_said (Some width) print = Some width
width_said None print = option_map paper_width print

-- a view is what words choose of a set
pub record IsViewOf (U : List Task) (options : Options) (v : View) : Type 0 where
  pub from : v.from ≡ unwrap_or options.from 0
  pub to : v.to ≡ options.to
  pub width : v.width ≡ width_said options.width options.print
  pub paper : v.paper ≡ options.print
  pub title : string_bytes v.title ≡ title_word options
  pub rows : AsksRows U (rows_word options) (Ok v.tasks.items)

-- nothing of what came of a set and a list lies in the window of a view
abbrev pub is_unseen : View → Simulated → Bool
is_unseen v (Ran run) = is_empty v run.until
is_unseen v (Infeasible left) = false
