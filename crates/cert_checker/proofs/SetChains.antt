-- The chains that a set's text says are chains of its tasks.
use Rattle.std.proofs.Common.{◌≡◌, ℕ, ◌+◌, ◌<◌, ◌≤◌, Bool, true, false, nat_lt, cond, List, [], ◌∷◌, ◌++◌}
use Rattle.std.proofs.Common.{length, map, Option, Some, None, Result, Ok, refl}
use Rattle.std.proofs.Common.{arith, inl, inr}
use Rattle.std.specs.Prelude.{is_some}
use Rattle.std.specs.List.{AllByRecursion, position_or_len}
use Rattle.std.proofs.lemmas.Bool.{and_parts, cases_Bool, leb-true, ltb-true}
use Rattle.std.proofs.lemmas.List.{length-map}
use Rattle.std.proofs.lemmas.Option.{same_Some}
use Rattle.toml.specs.Data.{Members}
use Rattle.task_sheet.specs.Name.{IsName}
use Rattle.task_sheet.specs.Sheet.{Task, same_bytes}
use Rattle.teams.specs.ReadsText.{is_gathered}
use Rattle.teams.specs.declared.reading.Part.{Part}
use Rattle.chain_tables.specs.Chains.{ChainData, HasChains, chain_of, clock_fault, clocks_fault, index_of}
use Rattle.ceiling_kernel.specs.Releases.{task_named}
use Rattle.chain_tables.specs.Chains.{steps_in, strange, strange_in}
use Rattle.chains.specs.Walks.{starts_of}
use Rattle.chain_tables.specs.Documents.{Answers, AreAll, ReadsIf, ReadsParts, ReadsTeams, ReadsThen, Says}
use Rattle.chain_tables.specs.Tables.{WrittenData, chain_at, table_fault, tables_fault, tables_of, unless}
use Rattle.chain_tables.specs.declared.fault.ChainCause.{ChainCause}
use Rattle.chain_tables.specs.declared.fault.ChainFault.{ChainFault}
use Rattle.chain_tables.specs.declared.fault.ChainFault.TheVariants.{TooManyArrivals}
use Rattle.chain_tables.specs.declared.fault.Whose.{Whose}
use Rattle.chain_tables.specs.declared.fault.Whose.TheVariants.{Alone, Node, Team}
use Rattle.cert_checker.specs.Numbers.{IsChainOf}
use Rattle.cert_checker.proofs.LesserLaws.{none-or}

-- ---- a table without a fault
-- its name is one, and its tasks aren't too many
record IsPlain (w : WrittenData) : Type 0 where
  named : IsName w.name
  few : length w.tasks ≤ 8

met : (ok : Bool) (f : ChainCause) → unless ok f ≡ None → ok ≡ true
met true f e = refl
met false f e = absurd cc

table-plain : (whose : Whose) (place : ℕ) (ms : Members) → table_fault place ms ≡ None
    → IsPlain (chain_at whose ms)
table-plain whose place ms e =
    let keys = none-or _ _ e in
    let kinds = none-or _ _ keys.1 in
    let names = none-or _ _ kinds.1 in
    let lengths = none-or _ _ names.1 in
    record {
      named = (and_parts _ _ (met _ _ names.0)).0;
      few = leb-true _ _ (and_parts _ _ (met _ _ lengths.0)).1;
    }

tables-plain : (whose : Whose) (place : ℕ) (tables : List Members) → tables_fault place tables ≡ None
    → AllByRecursion IsPlain (map (chain_at whose) tables)
tables-plain whose place [] e = tt
tables-plain whose place (ms ∷ tables) e =
    let both = none-or _ _ e in
    (table-plain whose place ms both.0, tables-plain whose (place + 1) tables both.1)

-- ---- the documents of a text
all-both : (ws vs : List WrittenData) → AllByRecursion IsPlain ws → AllByRecursion IsPlain vs
    → AllByRecursion IsPlain (ws ++ vs)
all-both [] vs first second = second
all-both (w ∷ ws) vs first second = (first.0, all-both ws vs first.1 second)

says-plain : (whose : Whose) (text : List ℕ) (own : List WrittenData) → Says whose text own
    → AllByRecursion IsPlain own
says-plain whose text own (inl said) =
    rw said.3 (tables-plain whose 1 (tables_of said.0) (none-or _ _ said.2).0)
says-plain whose text own (inr none) = rw none.1 tt

-- what is answered of plain chains is plain
abbrev KeepsPlain : Answers → Type 0
KeepsPlain next = (before ws : List WrittenData) → AllByRecursion IsPlain before
    → next before (Ok ws) → AllByRecursion IsPlain ws

ok_is : (ws vs : List WrittenData) (answer : Result (List WrittenData) ChainFault)
    → answer ≡ Ok ws → answer ≡ Ok vs → vs ≡ ws
ok_is ws vs answer first second = cc

all-plain : KeepsPlain AreAll
all-plain before ws plain e = let same : before ≡ ws = ok_is ws before (Ok ws) refl e in rw same at plain

then-plain : (whose : Whose) (text : List ℕ) (next : Answers) → KeepsPlain next
    → KeepsPlain (ReadsThen whose text next)
then-plain whose text next keeps before ws plain (inl said) =
    keeps (before ++ said.0) ws (all-both before said.0 plain (says-plain whose text said.0 said.1)) said.2
then-plain whose text next keeps before ws plain (inr failed) = absurd cc

parts-plain : (ps : List Part) (text : List ℕ) → KeepsPlain (ReadsParts ps text)
parts-plain [] text before ws plain all = all-plain before ws plain all.1
parts-plain (p ∷ ps) text before ws plain read =
    then-plain (Team p.team) p.text.now (ReadsParts ps read.0) (parts-plain ps read.0) before ws plain
    read.2

teams-plain : (text : List ℕ) → KeepsPlain (ReadsTeams text)
teams-plain text before ws plain read = parts-plain read.0 text before ws plain read.1

if-plain : (b : Bool) (text : List ℕ) (ws : List WrittenData) → ReadsIf b text (Ok ws)
    → AllByRecursion IsPlain ws
if-plain true text ws (inl read) =
    then-plain Node read.0 (ReadsTeams read.1) (teams-plain read.1) [] ws tt read.3
if-plain true text ws (inr read) = teams-plain text [] ws tt read.1
if-plain false text ws read = then-plain Alone text AreAll all-plain [] ws tt read

-- ---- their tasks
module _ (U : List Task) where
  index-within : (n : List ℕ) → is_some (task_named U n) ≡ true → index_of U n < length U
  index-within n some = by (task_named U n) refl
    where
      by : (o : Option ℕ) → task_named U n ≡ o → index_of U n < length U
      by None is = let none : false ≡ true = rw is at some in absurd cc
      by (Some k) is = rw is (found _ (position_or_len (λ (t : Task). same_bytes t.name n) U) k refl is)
        where
          found : (b : Bool) (m k : ℕ) → nat_lt m (length U) ≡ b → cond b (Some m) None ≡ Some k
              → k < length U
          found true m k lt is = let same = same_Some m k is in rw same at (ltb-true m (length U) lt)
          found false m k lt is = absurd cc

  tasks-known : (chain : List ℕ) (ns : List (List ℕ)) → strange_in U chain ns ≡ None
      → AllByRecursion (λ i. i < length U) (map (index_of U) ns)
  tasks-known chain [] e = tt
  tasks-known chain (n ∷ ns) e = elim (cases_Bool (is_some (task_named U n))) [
    | inl is ↦ (index-within n is, tasks-known chain ns (rw is at e))
    | inr is ↦ (let none = rw is at e in absurd cc)
  ]

  -- walks along a chain without a fault of its clock begin somewhere
  begins : (before : List WrittenData) (w : WrittenData) → clock_fault U before w ≡ None
      → is_some (starts_of (steps_in U w)) ≡ true
  begins before w e = by (is_some (starts_of (steps_in U w))) (none-or _ _ e).1
    where
      by : (b : Bool) → cond b None (Some (TooManyArrivals w.name)) ≡ None → b ≡ true
      by true is = refl
      by false is = absurd cc

  chains-known : (before ws : List WrittenData) → AllByRecursion IsPlain ws → strange U ws ≡ None
      → clocks_fault U before ws ≡ None → AllByRecursion (IsChainOf U) (map (chain_of U) ws)
  chains-known before [] plain e clocks = tt
  chains-known before (w ∷ ws) plain e clocks =
      let both = none-or _ _ e in
      let own = none-or _ _ clocks in (
        record {
          named = plain.0.named;
          few = omega (arith, plain.0.few, length-map w.tasks (index_of U));
          known = tasks-known w.name w.tasks both.0;
          begins = begins before w own.0;
        },
        chains-known (before ++ w ∷ []) ws plain.1 both.1 own.1,
      )

pub set-chains : (text : List ℕ) (U : List Task) (chains : List ChainData) → HasChains text U chains
    → AllByRecursion (IsChainOf U) chains
set-chains text U chains has =
    let plain = if-plain (is_gathered text) text has.0 has.1 in
    let others = none-or _ _ has.2 in
    let rest = none-or _ _ others.1 in
    let tasks = none-or _ _ rest.1 in
    rw has.3 (chains-known U [] has.0 plain tasks.0 tasks.1)
