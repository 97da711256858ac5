-- The commands that `clap` hands out.
use Rattle.std.proofs.Common.{◌≡◌, ◌≢◌, ◌∙◌, ap, List, [], ◌∷◌, ◌++◌, map, Option, Some, None}
use Rattle.std.proofs.Common.{is_some, Bool, not, ◌&&◌, true, false, ◌||◌, cond, if◌then◌else◌}
use Rattle.std.proofs.Common.{refl, sym, subst, codes, option_map, Result, Ok, Err, IfOk}
use Rattle.std.specs.Str.{bytes_eq}
use Rattle.std.proofs.lemmas.Slice.Eq.{bytes_eq-Decides}
use Rattle.clap.specs.Words.{FailsBy, Shape, Text, built, fault_of, subcommand_of}
use Rattle.clap.specs.Words.{subcommand_rows_of}
use Rattle.clap.specs.declared.parser.matches.ArgMatches.{ArgMatches}
use Rattle.clap.specs.declared.error.Error.{Error}
use Rattle.clap.specs.Walk.{Held, Names, Rule, answers_to, finished, nothing_held, Row, settled}
use Rattle.clap.specs.Walk.{stop_after, walk, walk_from}
use Rattle.clap.specs.Simple.{App, built_leaf, entered, help_shape, inherited, label_of}
use Rattle.clap.specs.Simple.{marked_built, names_of, rows_at, with_filled_rules, with_help_flag}
use Rattle.clap.specs.Simple.{with_leaf_noted, with_rule, with_version_flag}
use Rattle.std.specs.Option.{option_map_or}
use Rattle.std.specs.List.{find, list_all, list_any}
use Rattle.clap.specs.Facts.{explicit_source}
use Rattle.clap.specs.Takes.{is_given}
use Rattle.clap.specs.Kinds.{Kinds, check_kinds, or_else}
use Rattle.clap.specs.Faults.{check_fault, defaults_fault, entered_fault, level_fault, settle_fault}
use Rattle.clap.specs.Faults.{other_fault, walk_fault}
use Rattle.clap.specs.declared.error.kind.ErrorKind.TheVariants as kind
use Rattle.std.specs.Prelude.{IfSome}
use Rattle.clap.proofs.OnLiterals.{clap_on_literals}
use Rattle.std.proofs.lemmas.Bool.{and_parts}
use Rattle.command_line.specs.App.{choice_rule, command_app, desk_app, verb_app, with_choices}
use Rattle.command_line.specs.declared.calls.Choice.{Choice}
use Rattle.command_line.specs.Calls.{IsCommand, SayChoices, SaysNumber}
use Rattle.command_line.specs.Commands.{commands, verb_of}
use Rattle.command_line.specs.declared.calls.Verb.{Verb}
use Rattle.command_line.specs.declared.calls.Verb.TheVariants.{One, Two, Number}
use Rattle.command_line.proofs.Walks.{Keeps, first_empty, second_empty, walk_keeps}
use Rattle.command_line.proofs.Taken.{all_fit, all_taken, row_fits, shape}

or_false : (b : Bool) → (b || false) ≡ b
or_false true = refl
or_false false = refl

answered : (word name : Text) → answers_to word (name, []) ≡ true → word ≡ name
answered word name h =
    sym ((bytes_eq-Decides name word).0 (sym (or_false (bytes_eq name word)) ∙ h))

built_label : (s : Shape) → label_of (built_leaf s) ≡ label_of s
built_label s = go s.is_built
  where
    go : (b : Bool) → label_of (if b then s else with_filled_rules
        (with_version_flag (with_help_flag (with_leaf_noted (marked_built s))))) ≡ label_of s
    go true = refl
    go false = refl

choices_label : (a : App) (options : List Choice)
    → label_of (with_choices a options).top ≡ label_of a.top
choices_label a [] = refl
choices_label a (c ∷ more) = choices_label (with_rule a (choice_rule c)) more

verb_label : (word : Text) (v : Verb) → label_of (verb_app word v).top ≡ (word, [])
verb_label word (One c) = refl
verb_label word (Two c) = refl
verb_label word (Number c) = refl

-- a command answers to its word alone
label_is : (row : Text × Verb × List Choice) → label_of (shape row) ≡ (row.0, [])
label_is row =
    built_label (inherited (with_leaf_noted (marked_built desk_app.top))
    (command_app row.0 row.1 row.2).top)
    ∙ choices_label (verb_app row.0 row.1) row.2 ∙ verb_label row.0 row.1

module _ (p : Text × List Text) where
  -- the command of a list that has the word
  abbrev named_in : List (Text × Verb × List Choice) → Option Verb
  named_in cs = option_map (λ c. c.1) (find (λ c. bytes_eq c.0 p.0) cs)

  -- the command that has the word is found
  abbrev IsFound : Option Verb → Option (Text × List Row) → Type 0
  IsFound named None = ⊥
  IsFound named (Some found) =
      (found.0 ≡ p.0) × (v : Verb) × (named ≡ Some v) × SaysNumber v found.1 × SayChoices found.1

  abbrev fault : Option Shape → Kinds
  fault found = option_map_or (λ s. level_fault s [] nothing_held p.1 false []) found []

  abbrev rows : Option Shape → Option (Text × List Row)
  rows found = option_map (λ s. rows_at s p.1) found

  -- where a shape is found, it is the one of the command that has the word
  abbrev Finds : Option Verb → Option Shape → Type 0
  Finds named found = fault found ≡ [] → is_some (rows found) ≡ true → IsFound named (rows found)

  first_found : p.0 ≢ codes "help" → (cs : List (Text × Verb × List Choice))
      → list_all row_fits cs ≡ true
      → Finds (named_in cs)
      (find (λ s. answers_to p.0 (label_of s)) (map shape cs ++ built_leaf help_shape ∷ []))
  first_found other [] fit = go (answers_to p.0 (codes "help", [])) refl
    where
      go : (b : Bool) → answers_to p.0 (codes "help", []) ≡ b
          → Finds None (cond b (Some (built_leaf help_shape)) None)
      go true is fine some = absurd (other (answered p.0 (codes "help") is))
      go false is fine some = cc
  first_found other (c ∷ cs) fit =
      let later =
      find (λ s. answers_to p.0 (label_of s)) (map shape cs ++ built_leaf help_shape ∷ []) in
      subst (λ b. Finds (named_in (c ∷ cs)) (cond b (Some (shape c)) later))
      (sym (ap (answers_to p.0) (label_is c) ∙ or_false (bytes_eq c.0 p.0)))
      (go later (first_found other cs (and_parts _ _ fit).1) (bytes_eq c.0 p.0) refl)
    where
      go : (later : Option Shape) → Finds (named_in cs) later → (b : Bool) → bytes_eq c.0 p.0 ≡ b
          → Finds (option_map (λ c. c.1) (cond b (Some c) (find (λ c. bytes_eq c.0 p.0) cs)))
          (cond b (Some (shape c)) later)
      go later rest true is fine some =
          let taken = all_taken c (and_parts _ _ fit).0 p.1 fine in (
            ap (λ l. l.0) (label_is c)
                ∙ (bytes_eq-Decides c.0 p.0).0 is,
            c.1,
            refl,
            taken.0,
            taken.1,
          )
      go later rest false is fine some = rest fine some

  found_command : (found : Option (Text × List Row)) → IsFound (verb_of p.0) found → IsCommand found
  found_command None is = absurd is
  found_command (Some found) is = (is.1, ap verb_of is.0 ∙ is.2, is.3, is.4)

-- a word that passes names no command `help`
passes : (s : Shape) → s.disable_help_subcommand ≡ false → (name word : Text) (h : Held)
    → other_fault s (Some name) word h ≡ [] → name ≢ codes "help"
passes s allowed name word h passed is =
    let refused : other_fault s (Some name) word h ≡ kind.DisplayHelp ∷ kind.InvalidSubcommand
    ∷ [] = rw (is, allowed) refl in
    cc

keeps_nothing : (again : Bool) (found : Option Rule) → IfSome found (Keeps again (λ rows. Unit {0}))
keeps_nothing again None = tt
keeps_nothing again (Some a) = λ values rows fine kept. tt

entered_is : (stop : Option (Text × List Text)) → IfSome stop (λ p. p.0 ≢ codes "help")
    → entered_fault (built desk_app) stop ≡ []
    → is_some (entered (built desk_app) stop) ≡ true → IsCommand (entered (built desk_app) stop)
unfolding clap_on_literals verb_of
entered_is None n fine some = cc
entered_is (Some p) n fine some = found_command p _ (first_found p n commands all_fit fine some)

last_empty : (a b c d e : Kinds) → or_else a (or_else b (or_else c (or_else d e))) ≡ [] → e ≡ []
last_empty a b c d e none =
    second_empty d e (second_empty c _ (second_empty b _ (second_empty a _ none)))

is_wanted : (help argument wanted has : Bool) → wanted ≡ true
    → check_kinds help (not has && wanted) argument ≡ [] → has ≡ true
is_wanted help argument wanted true w none = refl
is_wanted true argument wanted false w none = cc
is_wanted false argument true false w none = cc
is_wanted false argument false false w none = cc

-- a level that wants a command and has no fault has one
level_wants : (s : Shape) (names : Names) (h : Held) (words : List Text) (has : Bool)
    (below : Kinds) → s.subcommand_required ≡ true
    → level_fault s names h words has below ≡ [] → has ≡ true
level_wants s names h words has below wanted none =
    let end = (walk s.rules names h words).held in
    let rows = finished s.rules end in
    is_wanted (not has
    && (s.arg_required_else_help && not (list_any (λ r. explicit_source r.source) rows)))
    (not (s.subcommand_negates_reqs && has)
    && list_any (λ a. a.required && not (is_given a.id rows)) s.rules)
    s.subcommand_required has wanted
    (last_empty (walk_fault s names (walk_from h) words) below
    (settle_fault s.rules s.args_override_self end)
    (defaults_fault (settled s.rules end).rows s.rules) (check_fault s rows has) none)

-- where `clap` takes the words, they name a command of the program
pub named_commands : (words : List Text) → fault_of desk_app words ≡ []
    → IsCommand (subcommand_of desk_app words)
named_commands words taken =
    let top = (built desk_app).top in
    let names = names_of (built desk_app) in
    let stop = stop_after top.rules names words in
    entered_is stop
    (walk_keeps top (λ rows. Unit {0}) (λ name. name ≢ codes "help")
    (λ p. keeps_nothing top.args_override_self (find p top.rules)) (passes top refl) names words
    (walk_from nothing_held) (first_empty _ _ taken) (tt, tt)).1
    (first_empty (entered_fault (built desk_app) stop) _
    (second_empty (walk_fault top names (walk_from nothing_held) words) _ taken))
    (level_wants top names nothing_held words (is_some (entered (built desk_app) stop))
    (entered_fault (built desk_app) stop) refl taken)

pub command_of : (words : List Text) (r : Result ArgMatches Error)
    → IfOk r (λ m. subcommand_rows_of m ≡ subcommand_of desk_app words)
    → FailsBy (fault_of desk_app words) r → IfOk r (λ m. IsCommand (subcommand_rows_of m))
command_of words (Ok m) same none = subst IsCommand (sym same) (named_commands words none)
command_of words (Err e) same none = tt
