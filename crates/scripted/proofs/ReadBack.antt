-- The script of a set says the set.
use Rattle.std.proofs.Common.{◌≡◌, ◌∙◌, ◌==◌, ◌+◌, ◌<◌, ◌≤◌, ◌^◌, ℕ, zero, suc, Bool, true, false}
use Rattle.std.proofs.Common.{List, [], ◌∷◌, ◌++◌, map, length, codes, bytes_eq, Option, Some, None}
use Rattle.std.proofs.Common.{All, Ok, if◌then◌else◌, refl, sym, ap, subst, arith, append_assoc}
use Rattle.std.specs.List.{slice_split, join_with_byte, AllByRecursion}
use Rattle.std.specs.Char.{is_ascii_digit}
use Rattle.std.specs.Fmt.{decimal}
use Rattle.std.proofs.lemmas.Bool.{le-leb, lt-ltb}
use Rattle.std.proofs.lemmas.Bool.Decides.{nat_tests}
use Rattle.std.proofs.Math.Dec.{eqb-suc-zero}
use Rattle.std.proofs.lemmas.Fmt.{decimal_digit}
use Rattle.std.proofs.lemmas.Slice.Eq.{bytes_eq-Decides}
use Rattle.std.proofs.lemmas.List.{append-nil}
use Rattle.std.proofs.lemmas.List.Elements.{recursion_from_All}
use Rattle.task_sheet.specs.Name.{IsName, is_name_byte}
use Rattle.task_sheet.specs.declared.node.Node.{Node}
use Rattle.task_sheet.specs.declared.node.Interrupt.{Interrupt}
use Rattle.task_sheet.specs.Sheet.{CriticalSection, OutranksData, Named, AllOthers, Task}
use Rattle.task_sheet.specs.Sheet.{MayOutrank, AreOverheads, AreSections, IsInterrupt, IsValidSheet}
use Rattle.task_sheet.specs.Sheet.{names_said, no_overhead, same_node, task_of, with_jitter}
use Rattle.task_sheet.specs.TaskSet.{IsTaskSet}
use Rattle.task_sheet.proofs.SheetLaws.{sheet_valid, outranks_valid}
use Rattle.lines.specs.TextLines.{kept_from, lines_of}
use Rattle.lines.specs.Steps.{◌>>=◌, each_in}
use Rattle.lines.specs.Words.{number_in, words}
use Rattle.lines.proofs.NumberLaws.{number_again}
use Rattle.lines.proofs.Lacks.{Lacks, cut_at, joined_again, joined_lacks, lacks_append, name_lacks}
use Rattle.lines.proofs.Lacks.{number_lacks, one_more, uncut}
use Rattle.drafts.specs.declared.team.TheConstants.{TEAM_LIMIT}
use Rattle.scripts.specs.ScriptWords.{made_in, all_sign, interrupt_in, interrupts_or_none, node_of}
use Rattle.scripts.specs.ScriptWords.{node_or_none, over_in, over_or_none, next_draft, next_field}
use Rattle.scripts.specs.ScriptWords.{next_name, next_number, only_draft, open_in, or_bad, put_in, row_in}
use Rattle.scripts.specs.ScriptWords.{section_in, sections_in, sheet_in, sheet_with_jitter, up_to}
use Rattle.scripts.specs.ScriptWords.{value_or_zero, word_names}
use Rattle.scripts.specs.Script.{script_from, script_in}
use Rattle.scripts.proofs.Nodes.{overheads_tested, interrupts_tested}
use Rattle.scripts.specs.declared.line.Row.TheVariants.{Open, Put, Commit}
use Rattle.scripts.specs.declared.line.Line.{Line}
use Rattle.scripted.specs.Scripted.{commit_line, delay_words, draft_of, drafts_from, interrupt_word}
use Rattle.scripted.specs.Scripted.{interrupt_words, lines_from, lines_of_draft, lines_of_drafts}
use Rattle.scripted.specs.Scripted.{lines_of_set, lines_of_teams, node_numbers, node_words}
use Rattle.scripted.specs.Scripted.{number_behind, over_words, plus_names, put_line, put_lines}
use Rattle.scripted.specs.Scripted.{script_of, script_of_teams, section_word, section_words}
use Rattle.scripted.specs.Scripted.{spaced, value_words}

-- ---- first words
number_next : (n : ℕ) (ws : List (List ℕ)) → n < 10 ^ 10 → next_number (decimal n ∷ ws) ≡ Ok (n, ws)
unfolding next_number
number_next n ws short = ap (λ (o : Option ℕ). or_bad o >>= λ k. Ok (k, ws)) (number_again n short)

name_next : (name : List ℕ) (ws : List (List ℕ)) → IsName name
    → next_name (name ∷ ws) ≡ Ok (name, ws)
unfolding next_name
name_next name ws is = rw is refl

draft_next : (opened draft : ℕ) (ws : List (List ℕ)) → 1 ≤ draft → draft ≤ opened → draft < 10 ^ 10
    → next_draft opened (decimal draft ∷ ws) ≡ Ok (draft, ws)
unfolding next_draft
draft_next opened draft ws from to short =
    rw (number_again draft short, le-leb 1 draft from, le-leb draft opened to) refl

-- ---- names
names_each : (names : List (List ℕ)) → AllByRecursion IsName names → word_names names ≡ Ok names
names_each [] each = refl
names_each (n ∷ ns) each = rw (each.0, names_each ns each.1) refl

each_lacks : (c : ℕ) (names : List (List ℕ)) → is_name_byte c ≡ false → AllByRecursion IsName names
    → AllByRecursion (λ w. Lacks c w) names
each_lacks c [] other each = tt
each_lacks c (n ∷ ns) other each = (name_lacks c n other each.0, each_lacks c ns other each.1)

-- as they are joined
joined : (n : List ℕ) (ns : List (List ℕ)) → plus_names (n ∷ ns) ≡ join_with_byte 43 (n ∷ ns)
joined n [] = append-nil n
joined n (m ∷ ns) = ap (λ l. n ++ 43 ∷ l) (joined m ns)

pluses_lack : (c : ℕ) (ws : List (List ℕ)) → (43 == c) ≡ false → AllByRecursion (λ w. Lacks c w) ws
    → Lacks c (plus_names ws)
pluses_lack c [] other each = record { none = tt }
pluses_lack c (w ∷ ws) other each = subst (λ (l : List ℕ). Lacks c l) (sym (joined w ws))
    (joined_lacks 43 c (w ∷ ws) other each)

pluses_cut : (w : List ℕ) (ws : List (List ℕ)) → AllByRecursion (λ v. Lacks 43 v) (w ∷ ws)
    → slice_split (λ b. b == 43) (plus_names (w ∷ ws)) ≡ w ∷ ws
pluses_cut w ws each = ap (λ (l : List ℕ). slice_split (λ b. b == 43) l) (joined w ws)
    ∙ joined_again 43 w ws each.0 each.1

plus_again : (n : List ℕ) (ns : List (List ℕ)) → AllByRecursion IsName (n ∷ ns)
    → word_names (slice_split (λ b. b == 43) (plus_names (n ∷ ns))) ≡ Ok (n ∷ ns)
plus_again n ns each = ap word_names (pluses_cut n ns (each_lacks 43 (n ∷ ns) refl each))
    ∙ names_each (n ∷ ns) each

plus_lacks : (c : ℕ) (names : List (List ℕ)) → (43 == c) ≡ false → is_name_byte c ≡ false
    → AllByRecursion IsName names → Lacks c (plus_names names)
plus_lacks c names other letter each = pluses_lack c names other (each_lacks c names letter each)

-- ---- sections
-- a section with names and numbers that can be spelled
record IsSpelled (s : CriticalSection) : Type 0 where
  named : AllByRecursion IsName s.locks
  some : 0 < length s.locks
  at : s.at < 10 ^ 10
  len : s.len < 10 ^ 10

section_shape : (s : CriticalSection)
    → section_word s ≡ plus_names s.locks ++ 64 ∷ (decimal s.at ++ 58 ∷ decimal s.len)
section_shape s = simp append_assoc

-- a byte that no section has
record IsApart (c : ℕ) : Type 0 where
  name : is_name_byte c ≡ false
  digit : is_ascii_digit c ≡ false
  plus : (43 == c) ≡ false
  sign : (64 == c) ≡ false
  colon : (58 == c) ≡ false
  star : (42 == c) ≡ false

section_lacks : (c : ℕ) (s : CriticalSection) → IsApart c → IsSpelled s → Lacks c (section_word s)
section_lacks c s apart is =
    let len : Lacks c (decimal s.len) = number_lacks c s.len apart.digit (omega (arith, is.len)) in
    let back : Lacks c (58 ∷ decimal s.len) = record { none = (apart.colon, len.none) } in
    let span = lacks_append c (decimal s.at) (58 ∷ decimal s.len)
    (number_lacks c s.at apart.digit (omega (arith, is.at))) back in
    let side : Lacks c (64 ∷ (decimal s.at ++ 58 ∷ decimal s.len)) =
    record { none = (apart.sign, span.none) } in
    subst (λ (w : List ℕ). Lacks c w) (sym (section_shape s))
    (lacks_append c (plus_names s.locks) (64 ∷ (decimal s.at ++ 58 ∷ decimal s.len))
    (plus_lacks c s.locks apart.plus apart.name is.named) side)

locks_again : (locks : List (List ℕ)) → AllByRecursion IsName locks → 0 < length locks
    → word_names (slice_split (λ b. b == 43) (plus_names locks)) ≡ Ok locks
locks_again [] named some = absurd (omega arith)
locks_again (n ∷ ns) named some = plus_again n ns named

section_again : (s : CriticalSection) → IsSpelled s → section_in (section_word s) ≡ Ok s
unfolding section_in
section_again s is =
    let span : List ℕ = decimal s.at ++ 58 ∷ decimal s.len in
    let back = number_lacks 64 s.len refl (omega (arith, is.len)) in
    let sign = lacks_append 64 (decimal s.at) (58 ∷ decimal s.len)
    (number_lacks 64 s.at refl (omega (arith, is.at))) (record { none = (refl, back.none) }) in
    rw (
      section_shape s,
      cut_at 64 (plus_names s.locks) span (plus_lacks 64 s.locks refl refl is.named),
      uncut 64 span sign,
      cut_at 58 (decimal s.at) (decimal s.len) (number_lacks 58 s.at refl (omega (arith, is.at))),
      uncut 58 (decimal s.len) (number_lacks 58 s.len refl (omega (arith, is.len))),
      number_again s.at is.at,
      number_again s.len is.len,
      locks_again s.locks is.named is.some,
    ) refl

sections_again : (ss : List CriticalSection) → AllByRecursion IsSpelled ss
    → sections_in (map section_word ss) ≡ Ok ss
sections_again [] each = refl
sections_again (s ∷ ss) each = rw (section_again s each.0, sections_again ss each.1) refl

spelled_sections : (from cost : ℕ) (ss : List CriticalSection) → cost < 10 ^ 10
    → AreSections from cost ss → AllByRecursion IsSpelled ss
spelled_sections from cost [] short are = tt
spelled_sections from cost (s ∷ ss) short are =
    let is = are.0 in (
      record {
        named = recursion_from_All IsName s.locks is.named;
        some = is.some;
        at = omega (arith, is.within, short);
        len = omega (arith, is.within, short);
      },
      spelled_sections (s.at + s.len) cost ss short are.1,
    )

-- ---- fields that may be left out
-- a word without the sign `=` is no such field
no_field : (key w : List ℕ) (ws : List (List ℕ)) → Lacks 61 w
    → next_field key (w ∷ ws) ≡ (None, w ∷ ws)
unfolding next_field
no_field key w ws lacks = rw (uncut 61 w lacks) refl

no_words : (key : List ℕ) → next_field key [] ≡ (None, [])
unfolding next_field
no_words key = refl

-- a field of this key, where it has a value
abbrev field_words : List ℕ → Option (List ℕ) → List (List ℕ)
field_words key None = []
field_words key (Some value) = (key ++ 61 ∷ value) ∷ []

-- the value, where there is one, lacks a byte
abbrev NoneHas : ℕ → Option (List ℕ) → Type 0
NoneHas c None = Unit {0}
NoneHas c (Some value) = Lacks c value

-- the words begin with no field of this key
record NoSuch (key : List ℕ) (ws : List (List ℕ)) : Type 0 where
  none : next_field key ws ≡ (None, ws)

-- a field is cut at its sign
field_cut : (key value : List ℕ) → IsName key → Lacks 61 value
    → slice_split (λ b. b == 61) (key ++ 61 ∷ value) ≡ key ∷ value ∷ []
field_cut key value named lacks = cut_at 61 key value (name_lacks 61 key refl named)
    ∙ ap (λ (l : List (List ℕ)). key ∷ l) (uncut 61 value lacks)

other_field : (key front : List ℕ) (value : Option (List ℕ)) (ws : List (List ℕ)) → IsName front
    → NoneHas 61 value → bytes_eq front key ≡ false → NoSuch key ws
    → NoSuch key (field_words front value ++ ws)
unfolding next_field
other_field key front None ws named lacks other after = after
other_field key front (Some value) ws named lacks other after =
    record { none = rw (field_cut front value named lacks, other) refl }

this_field : (key : List ℕ) (value : Option (List ℕ)) (ws : List (List ℕ)) → IsName key
    → NoneHas 61 value → NoSuch key ws → next_field key (field_words key value ++ ws) ≡ (value, ws)
unfolding next_field
this_field key None ws named lacks after = after.none
this_field key (Some value) ws named lacks after =
    rw (field_cut key value named lacks, (bytes_eq-Decides key key).1 refl) refl

equals_apart : IsApart 61
equals_apart =
    record { name = refl; digit = refl; plus = refl; sign = refl; colon = refl; star = refl }

-- the sign of all others
sign_lacks : (c : ℕ) → (42 == c) ≡ false → Lacks c all_sign
sign_lacks c other = record { none = (other, tt) }

-- sections are no field
sections_no_field : (key : List ℕ) (ss : List CriticalSection) → AllByRecursion IsSpelled ss
    → NoSuch key (map section_word ss)
sections_no_field key [] each = record { none = no_words key }
sections_no_field key (s ∷ ss) each = record {
  none =
      no_field key (section_word s) (map section_word ss) (section_lacks 61 s equals_apart each.0);
}

-- ---- the value of `j`
delay_value : ℕ → Option (List ℕ)
delay_value zero = None
delay_value (suc k) = Some (decimal (suc k))

delay_shape : (jitter : ℕ) → delay_words jitter ≡ field_words (codes "j") (delay_value jitter)
unfolding delay_value
delay_shape zero = refl
delay_shape (suc k) = rw (eqb-suc-zero k) refl

delay_lacks : (c jitter : ℕ) → IsApart c → jitter < 10 ^ 10 → NoneHas c (delay_value jitter)
unfolding delay_value
delay_lacks c zero apart short = tt
delay_lacks c (suc k) apart short = number_lacks c (suc k) apart.digit (omega (arith, short))

delay_again : (jitter : ℕ) → jitter < 10 ^ 10 → value_or_zero (delay_value jitter) ≡ Ok jitter
unfolding delay_value
delay_again zero short = refl
delay_again (suc k) short = ap or_bad (number_again (suc k) short)

-- ---- the value of `over`
over_value : OutranksData → Option (List ℕ)
over_value (Named []) = None
over_value (Named (n ∷ ns)) = Some (plus_names (n ∷ ns))
over_value AllOthers = Some all_sign

over_shape : (said : OutranksData) → over_words said ≡ field_words (codes "over") (over_value said)
unfolding over_value
over_shape (Named []) = refl
over_shape (Named (n ∷ ns)) = refl
over_shape AllOthers = refl

over_lacks : (c : ℕ) (said : OutranksData) → IsApart c → AllByRecursion IsName (names_said said)
    → NoneHas c (over_value said)
unfolding over_value
over_lacks c (Named []) apart named = tt
over_lacks c (Named (n ∷ ns)) apart named = plus_lacks c (n ∷ ns) apart.plus apart.name named
over_lacks c AllOthers apart named = sign_lacks c apart.star

-- names are not the sign of all others
not_all : (w : List ℕ) → Lacks 42 w → bytes_eq w all_sign ≡ false
not_all [] lacks = refl
not_all (b ∷ w) lacks = rw lacks.none.0 refl

over_again : (said : OutranksData) → AllByRecursion IsName (names_said said)
    → over_or_none (over_value said) ≡ Ok said
unfolding over_value over_in
over_again (Named []) named = refl
over_again (Named (n ∷ ns)) named = rw (
  not_all (plus_names (n ∷ ns))
      (plus_lacks 42 (n ∷ ns) refl refl named),
  plus_again n ns named,
) refl
over_again AllOthers named = refl

-- ---- the value of `node`
node_value : Node → Option (List ℕ)
node_value node = if same_node node no_overhead then None else Some (plus_names (node_numbers node))

same_none : (node : Node) → same_node node no_overhead ≡ true → node ≡ no_overhead
same_none node same =
    let job : node.job ≡ 0 = grind (arith, nat_tests) in
    let lock : node.lock ≡ 0 = grind (arith, nat_tests) in
    let late : node.late ≡ 0 = grind (arith, nat_tests) in
    let release : node.release ≡ 0 = grind (arith, nat_tests) in
    rw (job, lock, late, release) refl

node_shape : (node : Node) → node_words node ≡ field_words (codes "node") (node_value node)
unfolding node_value
node_shape node = by (same_node node no_overhead) refl
  where
    by : (b : Bool) → same_node node no_overhead ≡ b
        → node_words node ≡ field_words (codes "node") (node_value node)
    by true same = rw same refl
    by false same = rw same refl

numbers_lack : (c : ℕ) (node : Node) → is_ascii_digit c ≡ false → AreOverheads node
    → AllByRecursion (λ w. Lacks c w) (node_numbers node)
numbers_lack c node digit short = (
  number_lacks c node.job digit (omega (arith, short.job)),
  (
    number_lacks c node.lock digit
        (omega (arith, short.lock)),
    (
      number_lacks c node.release digit (omega (
        arith,
        short.release,
      )),
      (number_lacks c node.late digit (omega (arith, short.late)), tt),
    ),
  ),
)

node_lacks : (c : ℕ) (node : Node) → IsApart c → AreOverheads node → NoneHas c (node_value node)
unfolding node_value
node_lacks c node apart short = by (same_node node no_overhead)
  where
    by : (b : Bool) → NoneHas c (if b then None else Some (plus_names (node_numbers node)))
    by true = tt
    by false = pluses_lack c (node_numbers node) apart.plus (numbers_lack c node apart.digit short)

numbers_again : (node : Node) → AreOverheads node → node_of (node_numbers node) ≡ Ok node
unfolding node_of
numbers_again node short = rw (
  number_again node.job (omega (arith, short.job)),
  number_again node.lock (omega (arith, short.lock)),
  number_again node.release (omega (arith, short.release)),
  number_again node.late (omega (arith, short.late)),
) refl

node_again : (node : Node) → AreOverheads node → node_or_none (node_value node) ≡ Ok node
unfolding node_value
node_again node short = by (same_node node no_overhead) refl
  where
    by : (b : Bool) → same_node node no_overhead ≡ b
        → node_or_none (if b then None else Some (plus_names (node_numbers node))) ≡ Ok node
    by true same = ap (λ (n : Node). Ok n) (sym (same_none node same))
    by false same = ap node_of (pluses_cut (decimal node.job) (decimal node.lock
        ∷ decimal node.release ∷ decimal node.late ∷ []) (numbers_lack 43 node refl short))
        ∙ numbers_again node short

-- ---- the value of `irq`
interrupt_value : List Interrupt → Option (List ℕ)
interrupt_value [] = None
interrupt_value (x ∷ xs) = Some (plus_names (map interrupt_word (x ∷ xs)))

interrupt_shape : (xs : List Interrupt)
    → interrupt_words xs ≡ field_words (codes "irq") (interrupt_value xs)
unfolding interrupt_value
interrupt_shape [] = refl
interrupt_shape (x ∷ xs) = refl

interrupt_parts : (x : Interrupt) → interrupt_word x ≡ decimal x.period ++ 58 ∷ decimal x.cost
interrupt_parts x = simp append_assoc

interrupt_lacks : (c : ℕ) (x : Interrupt) → (58 == c) ≡ false → is_ascii_digit c ≡ false
    → IsInterrupt x → Lacks c (interrupt_word x)
interrupt_lacks c x colon digit short =
    let cost : Lacks c (decimal x.cost) =
    number_lacks c x.cost digit (omega (arith, short.cost, short.period_to)) in
    let back : Lacks c (58 ∷ decimal x.cost) = record { none = (colon, cost.none) } in
    subst (λ (w : List ℕ). Lacks c w) (sym (interrupt_parts x)) (lacks_append c (decimal x.period)
    (58 ∷ decimal x.cost) (number_lacks c x.period digit (omega (arith, short.period_to))) back)

each_lacking : (c : ℕ) (xs : List Interrupt) → (58 == c) ≡ false → is_ascii_digit c ≡ false
    → AllByRecursion IsInterrupt xs → AllByRecursion (λ w. Lacks c w) (map interrupt_word xs)
each_lacking c [] colon digit each = tt
each_lacking c (x ∷ xs) colon digit each =
    (interrupt_lacks c x colon digit each.0, each_lacking c xs colon digit each.1)

interrupts_lack : (c : ℕ) (xs : List Interrupt) → IsApart c → AllByRecursion IsInterrupt xs
    → NoneHas c (interrupt_value xs)
unfolding interrupt_value
interrupts_lack c [] apart each = tt
interrupts_lack c (x ∷ xs) apart each = pluses_lack c (map interrupt_word (x ∷ xs)) apart.plus
    (each_lacking c (x ∷ xs) apart.colon apart.digit each)

interrupt_again : (x : Interrupt) → IsInterrupt x → interrupt_in (interrupt_word x) ≡ Ok x
unfolding interrupt_in
interrupt_again x short = rw (
  interrupt_parts x,
  cut_at 58 (decimal x.period) (decimal x.cost)
      (number_lacks 58 x.period refl (omega (arith, short.period_to))),
  uncut 58 (decimal x.cost)
      (number_lacks 58 x.cost refl (omega (arith, short.cost, short.period_to))),
  number_again x.period (omega (arith, short.period_to)),
  number_again x.cost (omega (arith, short.cost, short.period_to)),
) refl

each_again : (xs : List Interrupt) → AllByRecursion IsInterrupt xs
    → each_in interrupt_in (map interrupt_word xs) ≡ Ok xs
each_again [] each = refl
each_again (x ∷ xs) each = rw (interrupt_again x each.0, each_again xs each.1) refl

interrupts_again : (xs : List Interrupt) → AllByRecursion IsInterrupt xs
    → interrupts_or_none (interrupt_value xs) ≡ Ok xs
unfolding interrupt_value
interrupts_again [] each = refl
interrupts_again (x ∷ xs) each = ap (each_in interrupt_in) (pluses_cut (interrupt_word x)
    (map interrupt_word xs) (each_lacking 43 (x ∷ xs) refl refl each)) ∙ each_again (x ∷ xs) each

-- ---- a sheet
names_valid : (own : List ℕ) (said : OutranksData) → MayOutrank own said
    → AllByRecursion IsName (names_said said)
names_valid own (Named names) may = recursion_from_All IsName names may.named
names_valid own AllOthers may = tt

-- what is spelled of a sheet
record IsShort (t : Task) : Type 0 where
  weight : t.weight < 10 ^ 10
  period : t.period < 10 ^ 10
  deadline : t.deadline < 10 ^ 10
  cost : t.cost < 10 ^ 10
  jitter : t.jitter < 10 ^ 10
  names : AllByRecursion IsName (names_said t.outranks)
  node : AreOverheads t.node
  interrupts : AllByRecursion IsInterrupt t.interrupts
  sections : AllByRecursion IsSpelled t.sections

short_sheet : (t : Task) → IsValidSheet t → IsShort t
short_sheet t is =
    let cost : t.cost < 10 ^ 10 = omega (arith, is.cost_to, is.period_to) in
    record {
      weight = omega (arith, is.weight);
      period = omega (arith, is.period_to);
      deadline = omega (arith, is.deadline_to, is.period_to);
      cost = cost;
      jitter = omega (arith, is.jitter, is.deadline_to, is.period_to);
      names = names_valid t.name t.outranks is.outranked;
      node = is.overheads;
      interrupts = recursion_from_All IsInterrupt t.interrupts is.interrupts.valid;
      sections = spelled_sections 0 t.cost t.sections cost is.sections;
    }

made_again : (t : Task) → IsValidSheet t
    → made_in t.name t.weight t.period t.deadline t.cost (map section_word t.sections)
    ≡ Ok (task_of t.name t.weight t.period t.deadline t.cost t.sections)
unfolding made_in
made_again t is = rw (sections_again t.sections (short_sheet t is).sections, sheet_valid t is) refl

late_again : (t : Task) → IsValidSheet t
    → sheet_with_jitter t.jitter (task_of t.name t.weight t.period t.deadline t.cost t.sections)
    ≡ Ok (with_jitter (task_of t.name t.weight t.period t.deadline t.cost t.sections) t.jitter)
late_again t is = rw (lt-ltb t.jitter t.deadline is.jitter) refl

-- what may be left out, each with what stands behind it
abbrev interrupt_rest : Task → List (List ℕ)
interrupt_rest t =
    field_words (codes "irq") (interrupt_value t.interrupts) ++ map section_word t.sections

abbrev node_rest : Task → List (List ℕ)
node_rest t = field_words (codes "node") (node_value t.node) ++ interrupt_rest t

abbrev over_rest : Task → List (List ℕ)
over_rest t = field_words (codes "over") (over_value t.outranks) ++ node_rest t

abbrev more_words : Task → List (List ℕ)
more_words t = field_words (codes "j") (delay_value t.jitter) ++ over_rest t

-- the words behind `put`
abbrev put_words : ℕ → Task → List (List ℕ)
put_words draft t = decimal draft ∷ t.name ∷ decimal t.weight ∷ decimal t.period ∷ decimal t.deadline
    ∷ decimal t.cost ∷ more_words t

spaced_append : (vs ws : List (List ℕ)) → spaced (vs ++ ws) ≡ spaced vs ++ spaced ws
spaced_append [] ws = refl
spaced_append (v ∷ vs) ws = ap (λ (l : List ℕ). (codes " " ++ v) ++ l) (spaced_append vs ws)
    ∙ sym (append_assoc (codes " " ++ v) (spaced vs) (spaced ws))

-- the same words, one after the other
more_spaced : (t : Task) → spaced (more_words t) ≡ spaced (delay_words t.jitter)
    ++ (spaced (over_words t.outranks) ++ (spaced (node_words t.node)
    ++ (spaced (interrupt_words t.interrupts) ++ spaced (section_words t.sections))))
more_spaced t =
    let D : List (List ℕ) = field_words (codes "j") (delay_value t.jitter) in
    let O : List (List ℕ) = field_words (codes "over") (over_value t.outranks) in
    let N : List (List ℕ) = field_words (codes "node") (node_value t.node) in
    let I : List (List ℕ) = field_words (codes "irq") (interrupt_value t.interrupts) in
    rw (
      delay_shape t.jitter,
      over_shape t.outranks,
      node_shape t.node,
      interrupt_shape t.interrupts,
      spaced_append D (over_rest t),
      spaced_append O (node_rest t),
      spaced_append N (interrupt_rest t),
      spaced_append I (section_words t.sections),
    ) refl

spaced_joined : (w : List ℕ) (ws : List (List ℕ)) → w ++ spaced ws ≡ join_with_byte 32 (w ∷ ws)
spaced_joined w [] = append-nil w
spaced_joined w (v ∷ ws) = ap (λ (l : List ℕ). w ++ 32 ∷ l) (spaced_joined v ws)

put_shape : (draft : ℕ) (t : Task) → put_line draft t ≡ join_with_byte 32 (codes "put" ∷ put_words draft t)
put_shape draft t =
    let V : List (List ℕ) = value_words draft t in
    regroup (codes "put") (spaced V) (spaced (delay_words t.jitter))
    (spaced (over_words t.outranks)) (spaced (node_words t.node))
    (spaced (interrupt_words t.interrupts)) (spaced (section_words t.sections))
    ∙ ap (λ (l : List ℕ). codes "put" ++ l)
    (sym (spaced_append V (more_words t) ∙ ap (λ (l : List ℕ). spaced V ++ l) (more_spaced t)))
    ∙ spaced_joined (codes "put") (put_words draft t)
  where
    regroup : (p v d o n i s : List ℕ)
        → ((p ++ v) ++ (((d ++ o) ++ n) ++ i)) ++ s ≡ p ++ (v ++ (d ++ (o ++ (n ++ (i ++ s)))))
    regroup p v d o n i s = simp append_assoc

-- no field stands where another one is wanted
module _ (t : Task) (short : IsShort t) where
  interrupt_none : (key : List ℕ) → bytes_eq (codes "irq") key ≡ false
      → NoSuch key (interrupt_rest t)
  interrupt_none key other =
      other_field key (codes "irq") (interrupt_value t.interrupts) (map section_word t.sections)
      refl (interrupts_lack 61 t.interrupts equals_apart short.interrupts) other
      (sections_no_field key t.sections short.sections)

  node_none : (key : List ℕ) → bytes_eq (codes "node") key ≡ false
      → bytes_eq (codes "irq") key ≡ false → NoSuch key (node_rest t)
  node_none key other irq = other_field key (codes "node") (node_value t.node) (interrupt_rest t)
      refl (node_lacks 61 t.node equals_apart short.node) other (interrupt_none key irq)

  over_none : NoSuch (codes "j") (over_rest t)
  over_none = other_field (codes "j") (codes "over") (over_value t.outranks) (node_rest t) refl
      (over_lacks 61 t.outranks equals_apart short.names) refl (node_none (codes "j") refl refl)

  delay_next : next_field (codes "j") (more_words t) ≡ (delay_value t.jitter, over_rest t)
  delay_next = this_field (codes "j") (delay_value t.jitter) (over_rest t) refl
      (delay_lacks 61 t.jitter equals_apart short.jitter) over_none

  over_next : next_field (codes "over") (over_rest t) ≡ (over_value t.outranks, node_rest t)
  over_next = this_field (codes "over") (over_value t.outranks) (node_rest t) refl
      (over_lacks 61 t.outranks equals_apart short.names) (node_none (codes "over") refl refl)

  node_next : next_field (codes "node") (node_rest t) ≡ (node_value t.node, interrupt_rest t)
  node_next = this_field (codes "node") (node_value t.node) (interrupt_rest t) refl
      (node_lacks 61 t.node equals_apart short.node) (interrupt_none (codes "node") refl)

  interrupt_next : next_field (codes "irq") (interrupt_rest t)
      ≡ (interrupt_value t.interrupts, map section_word t.sections)
  interrupt_next = this_field (codes "irq") (interrupt_value t.interrupts) (map section_word
      t.sections) refl (interrupts_lack 61 t.interrupts equals_apart short.interrupts)
      (sections_no_field (codes "irq") t.sections short.sections)

sheet_again : (t : Task) → IsValidSheet t → sheet_in (t.name ∷ decimal t.weight ∷ decimal t.period
    ∷ decimal t.deadline ∷ decimal t.cost ∷ more_words t) ≡ Ok t
unfolding sheet_in
sheet_again t is =
    let short = short_sheet t is in
    rw (
      name_next t.name (decimal t.weight ∷ decimal t.period ∷ decimal t.deadline ∷ decimal t.cost
          ∷ more_words t) is.named,
      number_next t.weight (decimal t.period ∷ decimal t.deadline ∷ decimal t.cost ∷ more_words t)
          short.weight,
      number_next t.period (decimal t.deadline ∷ decimal t.cost ∷ more_words t) short.period,
      number_next t.deadline (decimal t.cost ∷ more_words t) short.deadline,
      number_next t.cost (more_words t) short.cost,
      delay_next t short,
      delay_again t.jitter short.jitter,
      over_next t short,
      over_again t.outranks short.names,
      node_next t short,
      node_again t.node short.node,
      interrupt_next t short,
      interrupts_again t.interrupts short.interrupts,
      made_again t is,
      late_again t is,
      outranks_valid t.name t.outranks is.outranked,
      overheads_tested t.node is.overheads,
      interrupts_tested t.interrupts is.interrupts,
    ) refl

-- ---- a line
all_append : (c : ℕ) (vs ws : List (List ℕ)) → AllByRecursion (λ v. Lacks c v) vs
    → AllByRecursion (λ v. Lacks c v) ws → AllByRecursion (λ v. Lacks c v) (vs ++ ws)
all_append c [] ws a b = b
all_append c (v ∷ vs) ws a b = (a.0, all_append c vs ws a.1 b)

-- no word has the byte
module _ (c : ℕ) (apart : IsApart c) (equals : (61 == c) ≡ false) where
  number_apart : (n : ℕ) → n < 10 ^ 10 → Lacks c (decimal n)
  number_apart n short = number_lacks c n apart.digit (omega (arith, short))

  sections_apart : (ss : List CriticalSection) → AllByRecursion IsSpelled ss
      → AllByRecursion (λ v. Lacks c v) (map section_word ss)
  sections_apart [] each = tt
  sections_apart (s ∷ ss) each = (section_lacks c s apart each.0, sections_apart ss each.1)

  field_apart : (key : List ℕ) (value : Option (List ℕ)) (ws : List (List ℕ)) → Lacks c key
      → NoneHas c value → AllByRecursion (λ v. Lacks c v) ws
      → AllByRecursion (λ v. Lacks c v) (field_words key value ++ ws)
  field_apart key None ws lacks none each = each
  field_apart key (Some value) ws lacks none each =
      (lacks_append c key (61 ∷ value) lacks (record { none = (equals, none.none) }), each)

  put_apart : (draft : ℕ) (t : Task) → draft < 10 ^ 10 → IsValidSheet t
      → AllByRecursion (λ v. Lacks c v) (put_words draft t)
  put_apart draft t few is =
      let short = short_sheet t is in
      let key = λ (key : List ℕ) (named : IsName key). name_lacks c key apart.name named in
      let irq = field_apart (codes "irq") (interrupt_value t.interrupts)
      (map section_word t.sections) (key (codes "irq") refl) (interrupts_lack c t.interrupts apart
      short.interrupts) (sections_apart t.sections short.sections) in
      let node = field_apart (codes "node") (node_value t.node) (interrupt_rest t)
      (key (codes "node") refl) (node_lacks c t.node apart short.node) irq in
      let over = field_apart (codes "over") (over_value t.outranks) (node_rest t)
      (key (codes "over") refl) (over_lacks c t.outranks apart short.names) node in
      let more = field_apart (codes "j") (delay_value t.jitter) (over_rest t)
      (key (codes "j") refl) (delay_lacks c t.jitter apart short.jitter) over in (
        number_apart draft few,
        (
          name_lacks c t.name apart.name is.named,
          (
            number_apart t.weight short.weight,
            (
              number_apart t.period short.period,
              (number_apart t.deadline short.deadline, (number_apart t.cost short.cost, more)),
            ),
          ),
        ),
      )

space_apart : IsApart 32
space_apart =
    record { name = refl; digit = refl; plus = refl; sign = refl; colon = refl; star = refl }

end_apart : IsApart 10
end_apart =
    record { name = refl; digit = refl; plus = refl; sign = refl; colon = refl; star = refl }

-- a line of a draft, of which so many were opened
record IsOpen (opened draft : ℕ) : Type 0 where
  from : 1 ≤ draft
  to : draft ≤ opened
  few : draft < 10 ^ 10

module _ (opened draft : ℕ) (held : IsOpen opened draft) where
  put_again : (ws : List (List ℕ)) (t : Task) → sheet_in ws ≡ Ok t
      → row_in opened (codes "put" ∷ decimal draft ∷ ws) ≡ Ok (Put draft t)
  unfolding row_in put_in
  put_again ws t is = rw (draft_next opened draft ws held.from held.to held.few, is) refl

  line_again : (t : Task) → IsValidSheet t
      → row_in opened (words (put_line draft t)) ≡ Ok (Put draft t)
  line_again t is =
      ap (λ (l : List ℕ). row_in opened (words l)) (put_shape draft t)
      ∙ ap (row_in opened) (joined_again 32 (codes "put") (put_words draft t)
      (name_lacks 32 (codes "put") refl refl) (put_apart 32 space_apart refl draft t held.few is))
      ∙ put_again _ t (sheet_again t is)

  put_ends : (t : Task) → IsValidSheet t → Lacks 10 (put_line draft t)
  put_ends t is = subst (λ (l : List ℕ). Lacks 10 l) (sym (put_shape draft t))
      (joined_lacks 32 10 (codes "put" ∷ put_words draft t) refl
      (name_lacks 10 (codes "put") refl refl, put_apart 10 end_apart refl draft t held.few is))

  commit_row : row_in opened (codes "commit" ∷ decimal draft ∷ []) ≡ Ok (Commit draft)
  unfolding row_in only_draft
  commit_row = rw (draft_next opened draft [] held.from held.to held.few) refl

  commit_again : row_in opened (words (commit_line draft)) ≡ Ok (Commit draft)
  commit_again =
      ap (row_in opened) (joined_again 32 (codes "commit") (decimal draft ∷ [])
      (name_lacks 32 (codes "commit") refl refl) (number_lacks 32 draft refl (omega (arith, held.few)), tt))
      ∙ commit_row

  commit_ends : Lacks 10 (commit_line draft)
  commit_ends = joined_lacks 32 10 (codes "commit" ∷ decimal draft ∷ []) refl
      (name_lacks 10 (codes "commit") refl refl, (number_lacks 10 draft refl (omega (arith, held.few)), tt))

  -- ---- all lines of a draft
  put_texts : List Task → List (List ℕ)
  put_texts [] = commit_line draft ∷ []
  put_texts (t ∷ U) = put_line draft t ∷ put_texts U

  texts_again : (U : List Task) (rest : List ℕ) → AllByRecursion IsValidSheet U
      → lines_of (put_lines draft U ++ (commit_line draft ++ 10 ∷ rest)) ≡ put_texts U ++ lines_of rest
  unfolding put_texts
  texts_again [] rest each = one_more (commit_line draft) rest commit_ends
  texts_again (t ∷ U) rest each =
      ap lines_of (regroup (put_line draft t) (codes "\n") (put_lines draft U) (commit_line draft ++ 10 ∷ rest))
      ∙ one_more (put_line draft t) (put_lines draft U ++ (commit_line draft ++ 10 ∷ rest)) (put_ends t each.0)
      ∙ ap (λ (l : List (List ℕ)). put_line draft t ∷ l) (texts_again U rest each.1)
    where
      regroup : (line end more last : List ℕ)
          → ((line ++ end) ++ more) ++ last ≡ line ++ (end ++ (more ++ last))
      regroup line end more last = simp append_assoc

  rows_again : (U : List Task) (number : ℕ) (more : List (List ℕ)) (ls : List Line)
      → AllByRecursion IsValidSheet U
      → script_from opened (kept_from (number_behind number U) more) ≡ Ok ls
      → script_from opened (kept_from number (put_texts U ++ more)) ≡ Ok (lines_from number draft U ++ ls)
  unfolding script_from put_texts
  rows_again [] number more ls each behind = rw (commit_again, behind) refl
  rows_again (t ∷ U) number more ls each behind =
      rw (line_again t each.0, rows_again U (number + 1) more ls each.1 behind) refl

open_again : (opened team : ℕ) → 1 ≤ team → team ≤ TEAM_LIMIT
    → row_in opened (codes "open" ∷ decimal team ∷ []) ≡ Ok (Open team)
unfolding row_in open_in
open_again opened team from to =
    rw (number_again team (omega (arith, to)), le-leb 1 team from, le-leb team TEAM_LIMIT to) refl

-- a team's draft, and what stands behind it
draft_again : (opened team number : ℕ) (U : List Task) (rest : List ℕ) (ls : List Line) → 1 ≤ team
    → team ≤ TEAM_LIMIT → opened < TEAM_LIMIT → AllByRecursion IsValidSheet U
    → script_from (opened + 1) (kept_from (number_behind (number + 1) U) (lines_of rest)) ≡ Ok ls
    → script_from opened (kept_from number (lines_of (draft_of (opened + 1) team U ++ rest)))
    ≡ Ok (lines_of_draft number (opened + 1) team U ++ ls)
unfolding script_from
draft_again opened team number U rest ls from to few each behind =
    let draft : ℕ = opened + 1 in
    let held : IsOpen (opened + 1) draft =
    record { from = omega arith; to = omega arith; few = omega (arith, few) } in
    let first : List ℕ = join_with_byte 32 (codes "open" ∷ decimal team ∷ []) in
    let last : List ℕ = put_lines draft U ++ (commit_line draft ++ 10 ∷ rest) in
    let shape : draft_of draft team U ++ rest ≡ first ++ 10 ∷ last =
    regroup (codes "open ") (decimal team) (put_lines draft U) (commit_line draft) rest in
    let line = joined_lacks 32 10 (codes "open" ∷ decimal team ∷ []) refl
    (name_lacks 10 (codes "open") refl refl, (number_lacks 10 team refl (omega (arith, to)), tt)) in
    let texts = ap lines_of shape ∙ one_more first last line
    ∙ ap (λ (l : List (List ℕ)). first ∷ l) (texts_again draft draft held U rest each) in
    let row = ap (row_in opened) (joined_again 32 (codes "open") (decimal team ∷ [])
    (name_lacks 32 (codes "open") refl refl) (number_lacks 32 team refl (omega (arith, to)), tt))
    ∙ open_again opened team from to in
    ap (λ (ls : List (List ℕ)). script_from opened (kept_from number ls)) texts
    ∙ rw (row, rows_again draft draft held U (number + 1) (lines_of rest) ls each behind) refl
  where
    regroup : (o team puts commit rest : List ℕ)
        → (((((o ++ team) ++ codes "\n") ++ puts) ++ commit) ++ codes "\n") ++ rest
        ≡ (o ++ team) ++ (codes "\n" ++ (puts ++ (commit ++ (codes "\n" ++ rest))))
    regroup o team puts commit rest = simp append_assoc

pub script_again : (team : ℕ) (U : List Task) → 1 ≤ team → team ≤ TEAM_LIMIT → IsTaskSet U
    → script_in (script_of team U) ≡ Ok (lines_of_set team U)
unfolding script_from
script_again team U from to set =
    let each : AllByRecursion IsValidSheet U = recursion_from_All IsValidSheet U set.valid in
    ap script_in (sym (append-nil (script_of team U)))
    ∙ draft_again 0 team 1 U [] [] from to (omega arith) each refl
    ∙ ap Ok (append-nil (lines_of_set team U))

drafts_again : (opened number : ℕ) (parts : List (List Task)) → opened + length parts ≤ TEAM_LIMIT
    → AllByRecursion (λ U. All IsValidSheet U) parts
    → script_from opened (kept_from number (lines_of (drafts_from (opened + 1) parts)))
    ≡ Ok (lines_of_drafts number (opened + 1) parts)
unfolding script_from
drafts_again opened number [] few all = refl
drafts_again opened number (U ∷ parts) few all =
    draft_again opened (opened + 1) number U (drafts_from (opened + 1 + 1) parts)
    (lines_of_drafts (number_behind (number + 1) U) (opened + 1 + 1) parts) (omega arith)
    (omega (arith, few)) (omega (arith, few)) (recursion_from_All IsValidSheet U all.0)
    (drafts_again (opened + 1) (number_behind (number + 1) U) parts (omega (arith, few)) all.1)

pub teams_again : (parts : List (List Task)) → length parts ≤ TEAM_LIMIT
    → AllByRecursion (λ U. All IsValidSheet U) parts
    → script_in (script_of_teams parts) ≡ Ok (lines_of_teams parts)
teams_again parts few all = drafts_again 0 1 parts (omega (arith, few)) all
