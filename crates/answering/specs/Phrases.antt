-- A name and what stands behind it, as a line says them.
use Rattle.std.specs.Prelude.{ℕ, List, Option, Some, None, ◌≡◌, ◌++◌, codes}
use Rattle.std.specs.Fmt.{decimal}
use Rattle.task_sheet.specs.declared.sheet.SheetCause.{SheetCause}
use Rattle.answering.specs.Refusals.{at_section, at_task, cause_words, chain_words, doubt_words, lone_cause_words, run_words, settings_words, teams_words, words_of}
use Rattle.answering.specs.declared.phrase.Field.{Field}
use Rattle.answering.specs.declared.phrase.Field.TheVariants as field
use Rattle.answering.specs.declared.phrase.Front.{Front}
use Rattle.answering.specs.declared.phrase.Front.TheVariants as front
use Rattle.answering.specs.declared.phrase.Phrase.{Phrase}
use Rattle.answering.specs.declared.phrase.Phrase.TheVariants as phrase
use Rattle.answering.specs.declared.refusal.CommandRefusal.{CommandRefusal}
use Rattle.answering.specs.declared.refusal.CommandRefusal.TheVariants as refusal

-- what stands behind a name
abbrev pub field_words : Field → List ℕ
field_words (field.Place place) = decimal place
field_words (field.Number number) = decimal number
field_words (field.Word word) = word.now
field_words (field.Named name) = name

-- behind a space
abbrev pub behind : Field → List ℕ
behind f = codes " " ++ field_words f

-- a name and all that stands behind it
abbrev pub phrase_words : Phrase → List ℕ
phrase_words (phrase.Alone name) = name.now
phrase_words (phrase.One name a) = name.now ++ behind a
phrase_words (phrase.Two name a b) = name.now ++ behind a ++ behind b
phrase_words (phrase.Three name a b c) = name.now ++ behind a ++ behind b ++ behind c
phrase_words (phrase.Four name a b c d) = name.now ++ behind a ++ behind b ++ behind c ++ behind d

-- behind what stands in front of it
abbrev pub part_words : Front → List ℕ → List ℕ
part_words front.Nothing words = words
part_words front.Node words = codes "node " ++ words
part_words (front.Team team) words = codes "team " ++ team ++ codes " " ++ words
part_words (front.Task team task) words =
    codes "team " ++ team ++ codes " task " ++ task ++ codes " " ++ words
part_words (front.Line line) words = codes "line " ++ decimal line ++ codes " " ++ words

-- the name of a sheet's fault, and the place of the section where it is of one
abbrev pub AreParts : SheetCause → List ℕ → Option ℕ → Type 0
AreParts cause name None =
    ((task : ℕ) → cause_words task cause ≡ at_task name task) × (lone_cause_words cause ≡ name)
AreParts cause name (Some section) =
    ((task : ℕ) → cause_words task cause ≡ at_section name task section)
    × (lone_cause_words cause ≡ at_task name section)

-- what no task or no chain is called; none where the word is no name
abbrev pub unknown_words : List ℕ → Option (List ℕ) → List ℕ
unknown_words what (Some name) = what ++ codes " " ++ name
unknown_words what None = what

-- what a refusal says, as of the first set
abbrev pub first_words : CommandRefusal → List ℕ
first_words (refusal.New fault) = teams_words fault
first_words (refusal.NewDoubtful doubt) = doubt_words doubt
first_words (refusal.NewChain fault) = chain_words fault
first_words (refusal.NewRun fault) = run_words fault
first_words (refusal.NewSettings fault) = settings_words fault
first_words r = words_of r
