-- Where `clap` takes the words of a command, those under the name of a number say one that is taken there.
use Rattle.std.proofs.Common.{◌≡◌, ◌⊎◌, ◌∙◌, ap, ap₂, refl, sym, subst, List, [], ◌∷◌, ◌++◌, length}
use Rattle.std.proofs.Common.{None, Some, Bool, cond, inl, inr, true, false, ◌&&◌, ◌||◌, ◌==◌, not}
use Rattle.std.proofs.Common.{if◌then◌else◌, ℕ, suc, Option, arith}
use Rattle.std.specs.List.{find, fold, list_all, list_any}
use Rattle.std.specs.Option.{option_map_or}
use Rattle.std.specs.Prelude.{IfSome, option_and_then, slice_get}
use Rattle.std.specs.Str.{bytes_eq}
use Rattle.std.proofs.lemmas.Bool.{and_parts, eqb-true}
use Rattle.std.proofs.lemmas.Slice.Eq.{bytes_eq-Decides}
use Rattle.clap.specs.Facts.{explicit_source, parser_of_value, unwrap_or_range}
use Rattle.clap.specs.Kinds.{check_kinds, range_kinds, value_kinds}
use Rattle.clap.specs.Faults.{action_fault, check_fault, defaults_fault, level_fault, repeat_fault}
use Rattle.clap.specs.Faults.{set_fault, settle_fault, walk_fault}
use Rattle.clap.specs.Simple.{Shape}
use Rattle.clap.specs.Takes.{is_given}
use Rattle.clap.specs.ValueTests.{accepts}
use Rattle.clap.specs.Walk.{Row, Rule, Text, action_of, at_row, default_rows, has_row, is_empty}
use Rattle.clap.specs.Walk.{more_values, most_values, nothing_held, reading_by, row_text}
use Rattle.clap.specs.Walk.{rows_after, settled, used_as, values_or_missing, walk, walk_from}
use Rattle.clap.specs.Walk.{with_default, with_values, without}
use Rattle.clap.specs.Values.{reading_of}
use Rattle.clap.specs.Words.{IsUnsignedIn}
use Rattle.clap.specs.declared.builder.action.ArgAction.{ArgAction}
use Rattle.clap.specs.declared.builder.action.ArgAction.TheVariants as action
use Rattle.clap.specs.declared.builder.value_parser.Reading.{Reading}
use Rattle.clap.specs.declared.builder.value_parser.Reading.TheVariants.{AsWritten}
use Rattle.clap.specs.declared.builder.value_parser.ValueParser.{ValueParser}
use Rattle.clap.specs.declared.builder.value_parser.ValueParser.TheVariants as vp
use Rattle.clap.specs.declared.error.kind.ErrorKind.{ErrorKind}
use Rattle.clap.specs.declared.error.kind.ErrorKind.TheVariants as kind
use Rattle.clap.specs.declared.parser.matches.ValueSource.{ValueSource}
use Rattle.clap.specs.declared.parser.matches.ValueSource.TheVariants.{CommandLine, DefaultValue}
use Rattle.clap.proofs.ValueTestLemmas.{accepts-Accepts}
use Rattle.command_line.specs.Calls.{MaySayWithin, SaysWithin}
use Rattle.command_line.proofs.Walks.{Keeps, first_empty, second_empty, settled_keeps, walk_keeps}

no_fault : (k : ErrorKind) → k ∷ [] ≡ [] → ⊥
no_fault k e = cc

no_end : (n : ℕ) → suc n ≡ 0 → ⊥
no_end n e = omega (arith, e)

is_accepted : (b : Bool) (k : ErrorKind) → (if b then [] else k ∷ []) ≡ [] → b ≡ true
is_accepted true k e = refl
is_accepted false k e = cc

-- the argument sets its value, or is a flag or help
abbrev is_plain : ArgAction → Bool
is_plain action.Set = true
is_plain action.SetTrue = true
is_plain action.Help = true
is_plain _ = false

abbrev is_set : ArgAction → Bool
is_set action.Set = true
is_set _ = false

set_of : (a : ArgAction) → is_set a ≡ true → a ≡ action.Set
set_of action.Set e = refl
set_of _ e = cc

-- ---- rows

-- the first value is a number from the least to the most, read as it was written
record Says (least most : ℕ) (values : List Text) (how : Reading) : Type 0 where
  first : Text
  more : List Text
  are : values ≡ first ∷ more
  number : IsUnsignedIn least most first
  written : how ≡ AsWritten

module _ (id : Text) (least most : ℕ) where
  -- a row of the number says it
  abbrev SaysIf : Row → Type 0
  SaysIf r = bytes_eq r.id id ≡ true → Says least most r.values r.reading

  abbrev AllSay : List Row → Type 0
  AllSay [] = Unit {0}
  AllSay (r ∷ rs) = SaysIf r × AllSay rs

  joined : (xs ys : List Row) → AllSay xs → AllSay ys → AllSay (xs ++ ys)
  joined [] ys a b = b
  joined (x ∷ xs) ys a b = (a.0, joined xs ys a.1 b)

  at_row_says : (name : Text) (change : Row → List Row) (missing : List Row)
      → ((r : Row) → SaysIf r → AllSay (change r))
      → AllSay missing → (rows : List Row) → AllSay rows → AllSay (at_row name change missing rows)
  at_row_says name change missing changed missed [] all = missed
  at_row_says name change missing changed missed (r ∷ rs) all =
      go (at_row_says name change missing changed missed rs all.1) (bytes_eq r.id name)
    where
      go : AllSay (at_row name change missing rs) → (b : Bool)
          → AllSay (if b then change r ++ rs else r ∷ at_row name change missing rs)
      go later true = joined (change r) rs (changed r all.0) all.1
      go later false = (all.0, later)

  -- more values leave the first
  more_say : (source : ValueSource) (values : List Text) (r : Row) → SaysIf r
      → AllSay (more_values source values r)
  more_say source values r says = (
    (λ same. let old = says same in
        record {
          first = old.first;
          more = old.more ++ values;
          are =
              ap (λ vs. vs ++ values) old.are;
          number = old.number;
          written = old.written;
        }),
    tt,
  )

  values_say : (name : Text) (how : Reading) (source : ValueSource) (values : List Text)
      → (bytes_eq name id ≡ true → Says least most values how)
      → (rows : List Row) → AllSay rows → AllSay (with_values name how source values rows)
  values_say name how source values says rows all =
      at_row_says name (more_values source values) _ (more_say source values) (says, tt) rows all

  set_says : (name : Text) (how : Reading) (values : List Text)
      → (bytes_eq name id ≡ true → Says least most values how)
      → (rows : List Row) → AllSay rows
      → AllSay (with_values name how CommandLine values (without name rows))
  set_says name how values says rows all =
      values_say name how CommandLine values says (without name rows)
      (at_row_says name (λ _. []) [] (λ r h. tt) tt rows all)

  given_says : (rows : List Row) → AllSay rows → is_given id rows ≡ true
      → SaysWithin id least most rows
  given_says [] all given = cc
  given_says (r ∷ rs) all given = go (given_says rs all.1) (bytes_eq r.id id) all.0 given
    where
      go : (is_given id rs ≡ true → SaysWithin id least most rs) → (b : Bool)
          → (b ≡ true → Says least most r.values r.reading)
          → option_map_or (λ r. explicit_source r.source)
          (cond b (Some r) (find (λ r. bytes_eq r.id id) rs)) false ≡ true
          → (text : Text) × (option_and_then (λ r. slice_get r.values 0)
          (cond b (Some r) (find (λ r. bytes_eq r.id id) rs)) ≡ Some text)
          × (option_and_then row_text (cond b (Some r) (find (λ r. bytes_eq r.id id) rs))
          ≡ Some text)
          × IsUnsignedIn least most text
      go later true says there =
          let s = says refl in
          (s.first, rw s.are refl, rw (s.are, s.written) refl, s.number)
      go later false says there = later there

  -- what a row that was found says, or that none was
  abbrev MayBeSaid : Option Row → Type 0
  MayBeSaid found =
      ((option_and_then (λ r. slice_get r.values 0) found ≡ None)
      × (option_and_then row_text found ≡ None))
      ⊎ ((text : Text) × (option_and_then (λ r. slice_get r.values 0) found ≡ Some text)
      × (option_and_then row_text found ≡ Some text) × IsUnsignedIn least most text)

  may_say : (rows : List Row) → AllSay rows → MaySayWithin id least most rows
  may_say [] all = inl (refl, refl)
  may_say (r ∷ rs) all = go (may_say rs all.1) (bytes_eq r.id id) all.0
    where
      go : MaySayWithin id least most rs → (b : Bool)
          → (b ≡ true → Says least most r.values r.reading)
          → MayBeSaid (cond b (Some r) (find (λ r. bytes_eq r.id id) rs))
      go later true says =
          let s = says refl in
          inr (s.first, rw s.are refl, rw (s.are, s.written) refl, s.number)
      go later false says = later

  -- ---- rules

  abbrev parses : ValueParser → Bool
  parses (vp.Unsigned low high) = (low == least) && (high == most)
  parses _ = false

  parsed_of : (p : ValueParser) → parses p ≡ true → p ≡ vp.Unsigned least most
  parsed_of (vp.Unsigned low high) e =
      let each = and_parts _ _ e in
      ap₂ (λ l m. vp.Unsigned l m) (eqb-true low least each.0) (eqb-true high most each.1)
  parsed_of _ e = cc

  -- the rule takes one value, a number from the least to the most
  abbrev is_number : Rule → Bool
  is_number a =
      ((unwrap_or_range a.range).start_inclusive == 1)
      && ((most_values a == 1)
      && (is_set (action_of a) && (parses (parser_of_value a.parser) && is_empty a.defaults)))

  -- the rule has another name; or it is the number's
  abbrev pub fits : Rule → Bool
  fits a = if bytes_eq a.id id then is_number a else is_plain (action_of a)

  used_says : (a : ArgAction) (name : Text) (how : Reading) (values : List Text) → is_plain a ≡ true
      → bytes_eq name id ≡ false
      → (rows : List Row) → AllSay rows → AllSay (used_as a name how values rows)
  used_says action.Set name how values plain other rows all =
      set_says name how values (λ same. cc) rows all
  used_says action.SetTrue name how values plain other rows all =
      set_says name how values (λ same. cc) rows all
  used_says action.Help name how values plain other rows all = all
  used_says _ name how values plain other rows all = cc

  module _ (again : Bool) where
    number_keeps : (a : Rule) → is_number a ≡ true → Keeps again AllSay a
    number_keeps a is [] rows fine all =
        let one = and_parts _ _ is in
        let few = and_parts _ _ one.1 in
        let least = (unwrap_or_range a.range).start_inclusive in
        let none = first_empty (range_kinds least (most_values a) 0)
        (action_fault (action_of a) again a (values_or_missing a []) rows) fine in
        let start : range_kinds 1 (most_values a) 0 ≡ [] =
        subst (λ (k : ℕ). range_kinds k (most_values a) 0 ≡ []) (eqb-true least 1 one.0) none in
        let bad : range_kinds 1 1 0 ≡ [] =
        subst (λ (k : ℕ). range_kinds 1 k 0 ≡ []) (eqb-true (most_values a) 1 few.0) start in
        absurd (no_fault kind.InvalidValue bad)
    number_keeps a is (v ∷ vs) rows fine all =
        let one = and_parts _ _ is in
        let few = and_parts _ _ one.1 in
        let rest = and_parts _ _ few.1 in
        let set = set_of _ rest.0 in
        let parser = parsed_of _ (and_parts _ _ rest.1).0 in
        let used = second_empty (range_kinds (unwrap_or_range a.range).start_inclusive (most_values
        a) (length (v ∷ vs))) (action_fault (action_of a) again a (v ∷ vs) rows) fine in
        let taken : set_fault again a (v ∷ vs) rows ≡ [] =
        subst (λ (x : ArgAction). action_fault x again a (v ∷ vs) rows ≡ []) set used in
        let passed = second_empty (repeat_fault again a.id rows) _ taken in
        let first = first_empty (value_kinds a.ignore_case (parser_of_value a.parser) v) _ passed in
        let here : value_kinds a.ignore_case (vp.Unsigned least most) v ≡ [] =
        subst (λ (p : ValueParser). value_kinds a.ignore_case p v ≡ []) parser first in
        let accepted = is_accepted (accepts a.ignore_case (vp.Unsigned least most) v) _ here in
        subst (λ (x : ArgAction). AllSay (used_as x a.id (reading_by a) (v ∷ vs) rows)) (sym set)
        (set_says a.id (reading_by a) (v ∷ vs)
        (λ same. record {
          first = v;
          more = vs;
          are = refl;
          number = accepts-Accepts a.ignore_case
              (vp.Unsigned least most) v accepted;
          written = ap reading_of parser;
        })
        rows all)

    fits_keeps : (a : Rule) → fits a ≡ true → Keeps again AllSay a
    fits_keeps a fit = go (bytes_eq a.id id) refl fit
      where
        go : (b : Bool) → bytes_eq a.id id ≡ b
            → (if b then is_number a else is_plain (action_of a)) ≡ true → Keeps again AllSay a
        go true same is = number_keeps a is
        go false other plain = λ values rows fine all. used_says (action_of a) a.id (reading_by a)
            (values_or_missing a values) plain other rows all

    found_keeps : (p : Rule → Bool) (rules : List Rule) → list_all fits rules ≡ true
        → IfSome (find p rules) (Keeps again AllSay)
    found_keeps p [] all = tt
    found_keeps p (a ∷ rules) all =
        let each = and_parts _ _ all in
        go (found_keeps p rules each.1) (fits_keeps a each.0) (p a)
      where
        go : IfSome (find p rules) (Keeps again AllSay) → Keeps again AllSay a → (b : Bool)
            → IfSome (cond b (Some a) (find p rules)) (Keeps again AllSay)
        go later keeps true = keeps
        go later keeps false = later

  no_default : (a : Rule) (values : List Text) → is_empty values ≡ true → (rows : List Row)
      → AllSay rows → AllSay (default_rows a.id (reading_by a) values rows)
  no_default a [] none rows all = all
  no_default a (v ∷ vs) none rows all =
      absurd (no_end (length vs) (eqb-true (length (v ∷ vs)) 0 none))

  has_no_default : (a : Rule) → is_number a ≡ true → is_empty a.defaults ≡ true
  has_no_default a is =
      let none = is_empty a.defaults in
      let read = parses (parser_of_value a.parser) && none in
      let sets = is_set (action_of a) && read in
      let few = (most_values a == 1) && sets in
      let later = (and_parts ((unwrap_or_range a.range).start_inclusive == 1) few is).1 in
      let last =
      (and_parts (is_set (action_of a)) read (and_parts (most_values a == 1) sets later).1).1 in
      (and_parts (parses (parser_of_value a.parser)) none last).1

  other_default : (a : Rule) (values : List Text) → bytes_eq a.id id ≡ false → (rows : List Row)
      → AllSay rows → AllSay (default_rows a.id (reading_by a) values rows)
  other_default a [] other rows all = all
  other_default a (v ∷ vs) other rows all =
      values_say a.id (reading_by a) DefaultValue (v ∷ vs) (λ same. cc) rows all

  default_says : (a : Rule) → fits a ≡ true → (rows : List Row) → AllSay rows
      → AllSay (with_default rows a)
  default_says a fit rows all = go (has_row a.id rows) (bytes_eq a.id id) refl fit
    where
      go : (has b : Bool) → bytes_eq a.id id ≡ b
          → (if b then is_number a else is_plain (action_of a)) ≡ true
          → AllSay (if has then rows else default_rows a.id (reading_by a) a.defaults rows)
      go true b same is = all
      go false true same is = no_default a a.defaults (has_no_default a is) rows all
      go false false other plain = other_default a a.defaults other rows all

  defaults_say : (rules : List Rule) → list_all fits rules ≡ true → (rows : List Row) → AllSay rows
      → AllSay (fold with_default rows rules)
  defaults_say [] fit rows all = all
  defaults_say (a ∷ rules) fit rows all =
      let each = and_parts _ _ fit in
      defaults_say rules each.1 (with_default rows a) (default_says a each.0 rows all)

  -- ---- the words of the command

  -- where a level has no fault, its rows say the number
  level_says : (s : Shape) → list_all fits s.rules ≡ true → (words : List Text)
      → level_fault s [] nothing_held words false [] ≡ []
      → AllSay (rows_after s.rules [] words)
  level_says s fit words fine =
      let again = s.args_override_self in
      let end = (walk s.rules [] nothing_held words).held in
      let walked = first_empty (walk_fault s [] (walk_from nothing_held) words) _ fine in
      let ends = second_empty (walk_fault s [] (walk_from nothing_held) words) _ fine in
      let settles = first_empty (settle_fault s.rules again end) _ ends in
      let each : (p : Rule → Bool) → IfSome (find p s.rules) (Keeps again AllSay) =
      λ p. found_keeps again p s.rules fit in
      let any : Text → Type 0 = λ name. Unit {0} in
      let held = walk_keeps s AllSay any each (λ name word h fine. tt) [] words
      (walk_from nothing_held) walked (tt, tt) in
      defaults_say s.rules fit _
      (settled_keeps s AllSay any each (λ name word h fine. tt) end settles held.0)

  -- so they say it or nothing
  pub level_may_say : (s : Shape) → list_all fits s.rules ≡ true → (words : List Text)
      → level_fault s [] nothing_held words false [] ≡ []
      → MaySayWithin id least most (rows_after s.rules [] words)
  level_may_say s fit words fine = may_say _ (level_says s fit words fine)

  -- a rule of this name has to be used
  abbrev pub is_wanted : Rule → Bool
  is_wanted a = a.required && bytes_eq a.id id

  nothing_wanted : (help command argument : Bool) → check_kinds help command argument ≡ []
      → argument ≡ false
  nothing_wanted true command argument none = cc
  nothing_wanted false true argument none = cc
  nothing_wanted false false true none = cc
  nothing_wanted false false false none = refl

  none_open : (negates some : Bool) → (not (negates && false) && some) ≡ false → some ≡ false
  none_open true some none = none
  none_open false some none = none

  same_given : (name : Text) (rows : List Row) → bytes_eq name id ≡ true
      → is_given name rows ≡ is_given id rows
  same_given name rows same = ap (λ n. is_given n rows) ((bytes_eq-Decides name id).0 same)

  wanted_given : (rows : List Row) (rules : List Rule) → list_any is_wanted rules ≡ true
      → list_any (λ a. a.required && not (is_given a.id rows)) rules ≡ false
      → is_given id rows ≡ true
  wanted_given rows [] wanted left = cc
  wanted_given rows (a ∷ rules) wanted left =
      go (wanted_given rows rules) a.required (bytes_eq a.id id) refl (is_given a.id rows) refl
      wanted left
    where
      go : (list_any is_wanted rules ≡ true → list_any (λ a. a.required && not (is_given a.id rows))
          rules ≡ false → is_given id rows ≡ true)
          → (required same : Bool) → bytes_eq a.id id ≡ same → (given : Bool)
          → is_given a.id rows ≡ given
          → ((required && same) || list_any is_wanted rules) ≡ true
          → ((required && not given) || list_any (λ a. a.required && not (is_given a.id rows))
          rules) ≡ false → is_given id rows ≡ true
      go later true true same true given wanted left = sym (same_given a.id rows same) ∙ given
      go later true true same false given wanted left = cc
      go later true false same true given wanted left = later wanted left
      go later true false same false given wanted left = cc
      go later false same is given e wanted left = later wanted left

  -- where the level wants the number, they say it
  pub level_has_said : (s : Shape) → list_all fits s.rules ≡ true
      → list_any is_wanted s.rules ≡ true → (words : List Text)
      → level_fault s [] nothing_held words false [] ≡ []
      → SaysWithin id least most (rows_after s.rules [] words)
  level_has_said s fit wanted words fine =
      let again = s.args_override_self in
      let end = (walk s.rules [] nothing_held words).held in
      let rows = rows_after s.rules [] words in
      let ends = second_empty (walk_fault s [] (walk_from nothing_held) words) _ fine in
      let after = second_empty (settle_fault s.rules again end) _ ends in
      let checked = second_empty (defaults_fault (settled s.rules end).rows s.rules)
      (check_fault s rows false) after in
      let left = none_open s.subcommand_negates_reqs _ (nothing_wanted _ _ _ checked) in
      given_says rows (level_says s fit words fine) (wanted_given rows s.rules wanted left)
