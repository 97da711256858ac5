-- What a document says of its node and of interrupts is within the limits.
use Rattle.std.proofs.Common.{◌≡◌, ℕ, ◌+◌, ◌≤◌, min, Bool, true, false, inl, inr, nat_le, List, []}
use Rattle.std.proofs.Common.{◌∷◌, map, length, Option, Some, None, IfSome, option_map}
use Rattle.std.proofs.Common.{option_and_then, unwrap_or, is_some, refl, arith}
use Rattle.std.proofs.lemmas.Bool.{cases_Bool, and_parts, leb-true}
use Rattle.std.proofs.lemmas.List.{length-map}
use Rattle.std.proofs.lemmas.List.Elements.{All-from_recursion}
use Rattle.std.specs.List.{AllByRecursion}
use Rattle.std.specs.Option.{option_or}
use Rattle.toml.specs.Data.{Data, Members, as_table}
use Rattle.task_sheet.specs.Sheet.{Task, IsInterrupt, AreInterrupts, AreOverheads}
use Rattle.task_sheet.specs.Tree.{value_at, number_at, tables_at, only_keys, root_keys}
use Rattle.task_sheet.specs.Tree.{interrupt_keys, node_at, tree_node, interrupt_at, tree_interrupts}
use Rattle.task_sheet.specs.TreeFault.{unless, node_kinds_fault, numbers_fault, table_fault}
use Rattle.task_sheet.specs.TreeFault.{overheads_fault, is_interrupt, says_interrupt, bad_interrupt}
use Rattle.task_sheet.specs.TreeFault.{interrupts_fault, prefer_fault, tree_fault}
use Rattle.task_sheet.specs.ReadsSet.{AreWithinLimits, SaysDocument}
use Rattle.task_sheet.specs.declared.keys.Key.TheVariants as key
use Rattle.task_sheet.specs.declared.node.Node.{Node}
use Rattle.task_sheet.specs.declared.node.Interrupt.{Interrupt}
use Rattle.task_sheet.specs.declared.prefer.Preference.{Preference}
use Rattle.task_sheet.specs.declared.read.SetFault.{SetFault}
use Rattle.task_sheet.specs.declared.read.SetFault.TheVariants as fault

neither : (o p : Option SetFault) → option_or o p ≡ None → (o ≡ None) × (p ≡ None)
neither None p e = (refl, e)
neither (Some f) p e = cc

holds : (b : Bool) (e : SetFault) → unless b e ≡ None → b ≡ true
holds true e none = refl
holds false e none = cc

-- a test that has no fault, and those behind it
passed : (b : Bool) (e : SetFault) (rest : Option SetFault) → option_or (unless b e) rest ≡ None
    → (b ≡ true) × (rest ≡ None)
passed b e rest none =
    let both = neither (unless b e) rest none in
    (holds b e both.0, both.1)

-- ---- the node
numbers_within : (n : Node) → numbers_fault n ≡ None → AreOverheads n
numbers_within n none =
    let job = passed _ _ _ none in
    let lock = passed _ _ _ job.1 in
    let release = passed _ _ _ lock.1 in
    let late = passed _ _ _ release.1 in
    let least : n.release ≤ min 1000 n.job = leb-true _ _ release.0 in
    record {
      job = leb-true _ _ job.0;
      lock = leb-true _ _ lock.0;
      late = leb-true _ _ late.0;
      release = omega (arith, least);
    }

table_within : (o : Option Members) → table_fault o ≡ None
    → IfSome (option_map node_at o) AreOverheads
table_within None none = tt
table_within (Some ms) none =
    numbers_within (node_at ms) (neither (node_kinds_fault ms) (numbers_fault (node_at ms)) none).1

pub overheads_within : (o : Option Data) → overheads_fault o ≡ None
    → IfSome (option_map node_at (option_and_then as_table o)) AreOverheads
overheads_within None none = tt
overheads_within (Some d) none = table_within (as_table d) none

-- ---- interrupts
interrupt_said : (ms : Members) → says_interrupt ms ≡ true → IsInterrupt (interrupt_at ms)
interrupt_said ms says =
    let keys = and_parts (only_keys interrupt_keys ms) _ says in
    let period = and_parts (is_some (number_at key.Period ms)) _ keys.1 in
    let cost = and_parts (is_some (number_at key.Cost ms)) (is_interrupt (interrupt_at ms))
    period.1 in
    let some = and_parts _ _ cost.1 in
    let both = and_parts _ _ some.1 in
    record {
      period_from = leb-true _ _ some.0;
      period_to = leb-true _ _ both.0;
      cost = leb-true _ _ both.1;
    }

each_within : (place : ℕ) (mss : List Members) → bad_interrupt place mss ≡ None
    → AllByRecursion IsInterrupt (map interrupt_at mss)
each_within place [] none = tt
each_within place (ms ∷ more) none = elim (cases_Bool (says_interrupt ms)) [
  | inl says ↦ (interrupt_said ms says, each_within (place + 1) more (rw says at none))
  | inr never ↦ let some : Some place ≡ None = (rw never at none) in absurd (cc)
]

none_bad : (o : Option ℕ) → option_map fault.BadInterrupt o ≡ None → o ≡ None
none_bad None none = refl
none_bad (Some place) none = cc

pub tables_within : (o : Option (List Members)) → interrupts_fault o ≡ None
    → AreInterrupts (map interrupt_at (unwrap_or o []))
tables_within None none = cc
tables_within (Some mss) none =
    let both = neither (option_map fault.BadInterrupt (bad_interrupt 1 mss))
    (unless (nat_le (length mss) 8) fault.TooManyInterrupts) none in
    record {
      valid = All-from_recursion IsInterrupt (map interrupt_at mss)
          (each_within 1 mss (none_bad (bad_interrupt 1 mss) both.0));
      few = omega (
        arith,
        leb-true _ _ (holds (nat_le (length mss) 8) fault.TooManyInterrupts
            both.1),
        length-map mss interrupt_at,
      );
    }

-- ---- the document
pub tree_within : (ms : Members) → tree_fault ms ≡ None
    → AreWithinLimits (tree_node ms) (tree_interrupts ms)
tree_within ms none =
    let known = passed (only_keys root_keys ms) (fault.UnknownKey 0 0) _ none in
    let tables =
    passed (is_some (tables_at key.Task ms)) (fault.WrongKind 0 0 key.Task) _ known.1 in
    let behind = neither (prefer_fault (value_at key.Prefer ms)) _ tables.1 in
    let said = neither (overheads_fault (value_at key.Node ms)) _ behind.1 in
    let rest = neither (interrupts_fault (tables_at key.Interrupt ms)) _ said.1 in
    record {
      node = overheads_within (value_at key.Node ms) said.0;
      interrupts = tables_within (tables_at key.Interrupt ms) rest.0;
    }

pub says_within : (text : List ℕ) (U : List Task) (prefers : Option Preference) (said : Option Node)
    (xs : List Interrupt) → SaysDocument text U prefers said xs → AreWithinLimits said xs
says_within text U prefers said xs says =
    let within = tree_within says.0 says.2 in
    rw (says.5, says.6) within
