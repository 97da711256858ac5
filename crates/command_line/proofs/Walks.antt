-- Where a level has no fault, its uses are faultless; so what each faultless use keeps of the rows holds at
-- its end, and what holds of each name of a command that passes holds of the one that it stops at.
use Rattle.std.proofs.Common.{◌≡◌, ℕ, zero, suc, List, [], ◌∷◌, Option, Some, None, is_some, Bool}
use Rattle.std.proofs.Common.{true, false, ◌&&◌, if◌then◌else◌, length, drop, refl}
use Rattle.std.specs.List.{find, fold}
use Rattle.std.specs.Option.{option_map_or}
use Rattle.std.specs.Prelude.{IfSome, encode_utf8, slice_get}
use Rattle.std.specs.Str.{bytes_eq, chars}
use Rattle.clap.specs.Lexer.{long_of, short_of}
use Rattle.clap.specs.Simple.{Shape}
use Rattle.clap.specs.Walk.{Held, Names, Outcome, Row, Rule, Step, Text, Waiting, Walk, after_flag}
use Rattle.clap.specs.Walk.{after_step, arg_by_id, arg_by_index, arg_by_long, arg_by_short}
use Rattle.clap.specs.Walk.{attached_value, bundle, bundle_met, bundle_step, flag_met, is_pending}
use Rattle.clap.specs.Walk.{long_met, long_or_other, option_met, option_word, plain_word}
use Rattle.clap.specs.Walk.{positional_held, reacted, settled, settled_rows, short_met}
use Rattle.clap.specs.Walk.{short_or_plain, subcommand_met, subcommand_or_other, takes_several}
use Rattle.clap.specs.Walk.{takes_values, to_positional, used, used_by_id, walked, walked_from}
use Rattle.clap.specs.Walk.{word_met, done, waits, plain, refused, next, trailing, subcommand}
use Rattle.clap.specs.Walk.{value, idle, option, positional}
use Rattle.clap.specs.Kinds.{Kinds, or_else}
use Rattle.clap.specs.Faults.{bundle_step_fault, flag_word_fault, flags_fault, long_fault}
use Rattle.clap.specs.Faults.{option_fault, other_fault, positional_fault, react_fault}
use Rattle.clap.specs.Faults.{settle_fault, short_fault, step_fault, stray_fault, turn_fault}
use Rattle.clap.specs.Faults.{use_fault, walk_fault, word_fault}
use Rattle.clap.specs.declared.error.kind.ErrorKind.TheVariants as kind

pub first_empty : (a b : Kinds) → or_else a b ≡ [] → a ≡ []
first_empty [] b e = refl
first_empty (k ∷ ks) b e = e

pub second_empty : (a b : Kinds) → or_else a b ≡ [] → b ≡ []
second_empty [] b e = e
second_empty (k ∷ ks) b e = cc

-- a faultless use of the argument keeps a fact of the rows
abbrev pub Keeps : Bool → (List Row → Type 0) → Rule → Type 0
Keeps again P a = (values : List Text) (rows : List Row) → use_fault again a values rows ≡ []
    → P rows → P (used a values rows)

module _ (s : Shape) (P : List Row → Type 0) (Q : Text → Type 0)
    (each : (p : Rule → Bool) → IfSome (find p s.rules) (Keeps s.args_override_self P))
    (passes : (name word : Text) (h : Held) → other_fault s (Some name) word h ≡ [] → Q name) where
  -- no command follows, or one whose name passes
  abbrev pub Passes : Step → Type 0
  Passes (subcommand name) = Q name
  Passes _ = Unit {0}

  abbrev pub Kept : Walk → Type 0
  Kept w = P w.held.rows × IfSome w.stopped (λ p. Q p.0)

  by_id : (found : Option Rule) → IfSome found (Keeps s.args_override_self P)
      → (values : List Text) (rows : List Row)
      → option_map_or (λ a. use_fault s.args_override_self a values rows) found [] ≡ [] → P rows
      → P (used_by_id found values rows)
  by_id None keeps values rows fine kept = kept
  by_id (Some a) keeps values rows fine kept = keeps values rows fine kept

  rows_settled : (pending : Option (Text × List Text)) (rows : List Row)
      → option_map_or (λ p. option_map_or (λ a. use_fault s.args_override_self a p.1 rows)
      (arg_by_id s.rules p.0) []) pending [] ≡ [] → P rows
      → P (settled_rows s.rules pending rows)
  rows_settled None rows fine kept = kept
  rows_settled (Some p) rows fine kept =
      by_id (arg_by_id s.rules p.0) (each (λ a. bytes_eq a.id p.0)) p.1 rows fine kept

  pub settled_keeps : (h : Held) → settle_fault s.rules s.args_override_self h ≡ [] → P h.rows
      → P (settled s.rules h).rows
  settled_keeps h fine kept = rows_settled h.pending h.rows fine kept

  reacted_keeps : (a : Rule) → Keeps s.args_override_self P a → (values : List Text) (h : Held)
      → react_fault s.rules s.args_override_self a values h ≡ []
      → P h.rows → P (reacted s.rules a values h).rows
  reacted_keeps a keeps values h fine kept =
      keeps values (settled s.rules h).rows
      (second_empty (settle_fault s.rules s.args_override_self h) _ fine)
      (settled_keeps h (first_empty (settle_fault s.rules s.args_override_self h) _ fine) kept)

  option_keeps : (a : Rule) → Keeps s.args_override_self P a → (v : Option Text) (h : Held)
      → option_fault s.rules s.args_override_self a v h ≡ []
      → P h.rows → P (option_met s.rules a v h).0.rows
  option_keeps a keeps (Some v) h fine kept = reacted_keeps a keeps (v ∷ []) h fine kept
  option_keeps a keeps None h fine kept = settled_keeps h fine kept

  long_keeps : (found : Option Rule) → IfSome found (Keeps s.args_override_self P)
      → (v : Option Text) (h : Held)
      → long_fault s.rules s.args_override_self found v h ≡ [] → P h.rows
      → P (long_met s.rules found v h).0.rows
  long_keeps None keeps v h fine kept = kept
  long_keeps (Some a) keeps v h fine kept = go (takes_values a) v fine
    where
      go : (b : Bool) (v : Option Text)
          → (if b then option_fault s.rules s.args_override_self a v h
          else (if is_some v then kind.TooManyValues
          ∷ [] else react_fault s.rules s.args_override_self a [] h)) ≡ []
          → P (if b then option_met s.rules a v h else flag_met s.rules a v h).0.rows
      go true v fine = option_keeps a keeps v h fine kept
      go false (Some v) fine = kept
      go false None fine = reacted_keeps a keeps [] h fine kept

  short_keeps : (found : Option Rule) → IfSome found (Keeps s.args_override_self P)
      → (rest : Text) (h : Held)
      → (further : Held → Held × Outcome) (later : Held → Kinds)
      → ((k : Held) → later k ≡ [] → P k.rows → P (further k).0.rows)
      → short_fault s.rules s.args_override_self found rest h later ≡ [] → P h.rows
      → P (short_met s.rules found rest h further).0.rows
  short_keeps None keeps rest h further later on fine kept = kept
  short_keeps (Some a) keeps rest h further later on fine kept = go (takes_values a) fine
    where
      go : (b : Bool)
          → (if b then option_fault s.rules s.args_override_self a (attached_value rest) h
          else or_else (react_fault s.rules s.args_override_self a [] h)
          (later (reacted s.rules a [] h))) ≡ []
          → P (if b then option_met s.rules a (attached_value rest) h else further
          (reacted s.rules a [] h)).0.rows
      go true fine = option_keeps a keeps (attached_value rest) h fine kept
      go false fine =
          on (reacted s.rules a [] h)
          (second_empty (react_fault s.rules s.args_override_self a [] h) _ fine)
          (reacted_keeps a keeps [] h
          (first_empty (react_fault s.rules s.args_override_self a [] h) _ fine) kept)

  flags_keep : (k : ℕ) (flags : Text) (skip : ℕ) (so_far : Outcome) (h : Held)
      → flags_fault s.rules s.args_override_self k flags skip h ≡ [] → P h.rows
      → P (bundle_met s.rules k flags skip so_far h).0.rows
  unfolding bundle_met flags_fault
  flags_keep zero flags skip so_far h fine kept = kept
  flags_keep (suc k) flags skip so_far h fine kept =
      go (flags_keep k) (slice_get (chars flags) 0) skip fine
    where
      go : ((flags : Text) (skip : ℕ) (so_far : Outcome) (h : Held)
          → flags_fault s.rules s.args_override_self k flags skip h ≡ [] → P h.rows
          → P (bundle_met s.rules k flags skip so_far h).0.rows) → (c : Option ℕ) (skip : ℕ)
          → bundle_step_fault s.rules s.args_override_self c flags skip h
          (flags_fault s.rules s.args_override_self k) ≡ []
          → P (bundle_step s.rules c flags skip so_far h (bundle_met s.rules k)).0.rows
      go later None skip fine = kept
      go later (Some x) zero fine =
          let rest = drop (length (encode_utf8 x)) flags in
          short_keeps (arg_by_short s.rules x) (each _) rest h (bundle_met s.rules k rest 0 done)
          (flags_fault s.rules s.args_override_self k rest 0)
          (later rest 0 done) fine kept
      go later (Some x) (suc skip) fine =
          later (drop (length (encode_utf8 x)) flags) skip so_far h fine kept

  plain_keeps : (waiting : Waiting) (word : Text) (h : Held) → P h.rows
      → (let met = plain_word s.rules waiting word h in P met.0.rows × Passes met.1)
  plain_keeps idle word h kept = (kept, tt)
  plain_keeps (option id) word h kept = (go (arg_by_id s.rules id), tt)
    where
      go : (found : Option Rule) → P (option_word found id word h).0.rows
      go None = kept
      go (Some a) = kept
  plain_keeps positional word h kept = (kept, tt)

  flag_keeps : (waiting : Waiting) (word : Text) (h : Held) (o : Outcome) → P h.rows
      → (let met = after_flag s.rules waiting word h o in P met.0.rows × Passes met.1)
  flag_keeps waiting word h done kept = (kept, tt)
  flag_keeps waiting word h (waits id) kept = (kept, tt)
  flag_keeps waiting word h plain kept = plain_keeps waiting word h kept
  flag_keeps waiting word h refused kept = plain_keeps waiting word h kept

  short_word_keeps : (waiting : Waiting) (word : Text) (flags : Option Text) (h : Held)
      → option_map_or (λ f. flags_fault s.rules s.args_override_self (length f) f h.skip
      (record h { skip = 0 })) flags [] ≡ [] → P h.rows
      → (let met = short_or_plain s.rules waiting word flags h in P met.0.rows × Passes met.1)
  short_word_keeps waiting word None h fine kept = plain_keeps waiting word h kept
  short_word_keeps waiting word (Some flags) h fine kept =
      flag_keeps waiting word (bundle s.rules flags h).0 (bundle s.rules flags h).1
      (flags_keep (length flags) flags h.skip plain (record h { skip = 0 }) fine kept)

  other_keeps : (waiting : Waiting) (word : Text) (flag : Option (Text × Option Text)) (h : Held)
      → flag_word_fault s.rules s.args_override_self flag word h ≡ [] → P h.rows
      → (let met = long_or_other s.rules waiting word flag h in P met.0.rows × Passes met.1)
  other_keeps waiting word (Some p) h fine kept =
      let met = long_met s.rules (arg_by_long s.rules p.0) p.1 h in
      flag_keeps waiting word met.0 met.1
      (long_keeps (arg_by_long s.rules p.0) (each _) p.1 h fine kept)
  other_keeps waiting word None h fine kept =
      short_word_keeps waiting word (short_of word) h fine kept

  named_keeps : (named : Option Text) (waiting : Waiting) (position : ℕ) (word : Text) (h : Held)
      → other_fault s named word h ≡ [] → P h.rows
      → (let met = subcommand_or_other s.rules named waiting position word h in
      P met.0.rows × Passes met.1)
  named_keeps (Some name) waiting position word h fine kept = (kept, passes name word h fine)
  named_keeps None waiting position word h fine kept = go (bytes_eq word (45 ∷ 45 ∷ [])) fine
    where
      go : (b : Bool) → (if b then [] else flag_word_fault s.rules s.args_override_self
          (long_of word) word h) ≡ []
          → (let met : Held × Step = if b then (h, trailing position) else long_or_other s.rules
          waiting word (long_of word) h in P met.0.rows × Passes met.1)
      go true fine = (kept, tt)
      go false fine = other_keeps waiting word (long_of word) h fine kept

  word_keeps : (names : Names) (is_trailing : Bool) (waiting : Waiting) (position : ℕ) (word : Text)
      (h : Held) → word_fault s names is_trailing waiting word h ≡ [] → P h.rows
      → (let met = word_met s.rules names is_trailing waiting position word h in
      P met.0.rows × Passes met.1)
  word_keeps names true waiting position word h fine kept = (kept, tt)
  word_keeps names false waiting position word h fine kept =
      named_keeps (subcommand_met names waiting word) waiting position word h fine kept

  positional_keeps : (a : Rule) (word : Text) (h : Held)
      → positional_fault s.rules s.args_override_self a h ≡ [] → P h.rows
      → P (positional_held s.rules a word h).rows
  positional_keeps a word h fine kept = go (is_pending a h.pending && takes_several a) fine
    where
      go : (b : Bool) → (if b then [] else settle_fault s.rules s.args_override_self h) ≡ []
          → P (if b then h else settled s.rules h).rows
      go true fine = kept
      go false fine = settled_keeps h fine kept

  to_positional_keeps : (found : Option Rule) (word : Text) (w : Walk) (h : Held)
      → option_map_or (λ a. positional_fault s.rules s.args_override_self a h) found (stray_fault s)
      ≡ [] → P h.rows → IfSome w.stopped (λ p. Q p.0) → Kept (to_positional s.rules found word w h)
  to_positional_keeps None word w h fine kept stops = (kept, stops)
  to_positional_keeps (Some a) word w h fine kept stops = (positional_keeps a word h fine kept, tt)

  step_keeps : (word : Text) (w : Walk) (h : Held) (step : Step)
      → step_fault s w.position h step ≡ [] → P h.rows × Passes step
      → IfSome w.stopped (λ p. Q p.0) → Kept (after_step s.rules word w h step)
  step_keeps word w h (next waiting) fine met stops = (met.0, stops)
  step_keeps word w h (trailing position) fine met stops = (met.0, stops)
  step_keeps word w h (subcommand name) fine met stops = met
  step_keeps word w h value fine met stops =
      to_positional_keeps (arg_by_index s.rules w.position) word w h fine met.0 stops

  turn_keeps : (names : Names) (w : Walk) (word : Text) (stopped : Option (Text × List Text))
      → (let met = word_met s.rules names w.is_trailing w.waiting w.position word w.held in
      (if is_some stopped then [] else or_else (word_fault s names w.is_trailing w.waiting word
      w.held) (step_fault s w.position met.0 met.1)) ≡ [])
      → IfSome stopped (λ p. Q p.0) → Kept w → Kept (walked_from s.rules names stopped w word)
  turn_keeps names w word (Some p) fine stops kept = (kept.0, stops)
  turn_keeps names w word None fine stops kept =
      let met = word_met s.rules names w.is_trailing w.waiting w.position word w.held in
      let said = word_fault s names w.is_trailing w.waiting word w.held in
      step_keeps word w met.0 met.1 (second_empty said _ fine)
      (word_keeps names w.is_trailing w.waiting w.position word w.held
      (first_empty said _ fine) kept.0) kept.1

  pub walk_keeps : (names : Names) (words : List Text) (w : Walk) → walk_fault s names w words ≡ []
      → Kept w → Kept (fold (walked s.rules names) w words)
  unfolding walk_fault walked
  walk_keeps names [] w fine kept = kept
  walk_keeps names (word ∷ words) w fine kept =
      walk_keeps names words (walked s.rules names w word)
      (second_empty (turn_fault s names w word) _ fine)
      (turn_keeps names w word w.stopped (first_empty (turn_fault s names w word) _ fine) kept.1
      kept)
