-- What a node takes as four words, and overheads and interrupts within the limits.
use Rattle.std.proofs.Common.{◌≡◌, ℕ, Bool, true, false, ◌&&◌, List, [], ◌∷◌, Option, Some, None}
use Rattle.std.proofs.Common.{Err, refl, ap, arith, ◌<◌, ◌==◌, length}
use Rattle.std.specs.List.{list_all, AllByRecursion, slice_split}
use Rattle.std.proofs.lemmas.Bool.Decides.{nat_tests}
use Rattle.std.proofs.lemmas.List.Elements.{All-from_recursion, recursion_from_All}
use Rattle.task_sheet.specs.declared.node.Node.{Node}
use Rattle.task_sheet.specs.declared.node.Interrupt.{Interrupt}
use Rattle.task_sheet.specs.Sheet.{AreOverheads, IsInterrupt, AreInterrupts}
use Rattle.scripts.specs.declared.line.RowFault.TheVariants.{Bad}
use Rattle.task_sheet.specs.TreeFault.{is_interrupt}
use Rattle.scripts.specs.ScriptWords.{are_interrupts, are_overheads, node_of, pair_of}
use Rattle.std.proofs.lemmas.List.Splits.{length-slice_split}

-- ---- four words
pub one_word : (job : List ℕ) → node_of (job ∷ []) ≡ Err Bad
unfolding node_of
one_word job = refl

pub two_words : (job lock : List ℕ) → node_of (job ∷ lock ∷ []) ≡ Err Bad
unfolding node_of
two_words job lock = refl

pub no_four : (job lock : List ℕ) (rest : List (List ℕ)) → pair_of rest ≡ None
    → node_of (job ∷ lock ∷ rest) ≡ Err Bad
unfolding node_of
no_four job lock [] is = refl
no_four job lock (a ∷ []) is = refl
no_four job lock (a ∷ b ∷ []) is = absurd (cc)
no_four job lock (a ∷ b ∷ c ∷ more) is = refl

abbrev front_of : Option (List ℕ × List ℕ) → List ℕ
front_of None = []
front_of (Some sides) = sides.0

abbrev back_of : Option (List ℕ × List ℕ) → List ℕ
back_of None = []
back_of (Some sides) = sides.1

pub last_two : (release late : List ℕ) (rest : List (List ℕ)) → pair_of rest ≡ Some (release, late)
    → rest ≡ release ∷ late ∷ []
last_two release late [] is = absurd (cc)
last_two release late (a ∷ []) is = absurd (cc)
last_two release late (a ∷ b ∷ []) is =
    let one : a ≡ release = ap front_of is in
    let two : b ≡ late = ap back_of is in
    rw (one, two) refl
last_two release late (a ∷ b ∷ c ∷ more) is = absurd (cc)

-- a text of four words, or of fewer or more
pub ruleset four_words = (one_word, two_words, no_four, last_two)

-- ---- within the limits
pub overheads_tested : (node : Node) → AreOverheads node → are_overheads node ≡ true
overheads_tested node are = grind (arith, nat_tests, are.job, are.lock, are.late, are.release)

interrupt_valid : (x : Interrupt) → is_interrupt x ≡ true → IsInterrupt x
interrupt_valid x is = record {
  period_from = grind (arith, nat_tests);
  period_to = grind (arith, nat_tests);
  cost = grind (arith, nat_tests);
}

interrupt_tested : (x : Interrupt) → IsInterrupt x → is_interrupt x ≡ true
interrupt_tested x is = grind (arith, nat_tests, is.period_from, is.period_to, is.cost)

both : (b d : Bool) → (b && d) ≡ true → (b ≡ true) × (d ≡ true)
both true d e = (refl, e)
both false d e = absurd (cc)

each_valid : (xs : List Interrupt) → list_all is_interrupt xs ≡ true → AllByRecursion IsInterrupt xs
each_valid [] all = tt
each_valid (x ∷ xs) all =
    let (here, rest) = both (is_interrupt x) (list_all is_interrupt xs) all in
    (interrupt_valid x here, each_valid xs rest)

each_tested : (xs : List Interrupt) → AllByRecursion IsInterrupt xs
    → list_all is_interrupt xs ≡ true
each_tested [] each = refl
each_tested (x ∷ xs) each = rw (interrupt_tested x each.0, each_tested xs each.1) refl

pub interrupts_valid : (xs : List Interrupt) → are_interrupts xs ≡ true → AreInterrupts xs
interrupts_valid xs are =
    let (few, each) = both _ (list_all is_interrupt xs) are in
    record {
      valid = All-from_recursion IsInterrupt xs (each_valid xs each);
      few =
          grind (arith, nat_tests);
    }

pub interrupts_tested : (xs : List Interrupt) → AreInterrupts xs → are_interrupts xs ≡ true
interrupts_tested xs are =
    let each = each_tested xs (recursion_from_All IsInterrupt xs are.valid) in
    grind (arith, nat_tests, are.few, each)

too_many : (front middle : List ℕ) (rest : List (List ℕ)) → 0 < length rest
    → pair_of (front ∷ middle ∷ rest) ≡ None
too_many front middle [] some = absurd (omega arith)
too_many front middle (r ∷ rest) some = refl

pub cut_twice : (byte : ℕ) (front middle more : List ℕ)
    → pair_of (front ∷ middle ∷ slice_split (λ b. b == byte) more) ≡ None
cut_twice byte front middle more = too_many front middle (slice_split (λ b. b == byte) more)
    (omega (arith, length-slice_split {X = ℕ} (λ b. b == byte) more))
