-- What the settings of an order print whose threads have numbers of their own gives the order back; what is said of those that
-- moved is skipped.
use Rattle.std.proofs.Common.{◌≡◌, ◌∙◌, ℕ, zero, suc, ◌+◌, ◌-◌, ◌<◌, ◌≤◌, ◌==◌, ◌&&◌, ◌||◌, inl, inr}
use Rattle.std.proofs.Common.{List, [], ◌∷◌, ◌++◌, length, replicate, All}
use Rattle.std.proofs.Common.{Ok, option_map, refl, sym, ap, append_assoc, append-nil, arith}
use Rattle.std.specs.Prelude.{codes, slice_index, nat_le}
use Rattle.std.specs.Fmt.{decimal}
use Rattle.std.specs.List.{list_all, AllByRecursion}
use Rattle.std.proofs.lemmas.Bool.{cases_Bool, leb-true, leb-false, and_parts}
use Rattle.std.proofs.lemmas.List.{length-replicate}
use Rattle.std.proofs.lemmas.List.Elements.{recursion_from_All}
use Rattle.task_sheet.proofs.Common.{Task, IsName, IsTaskSet, IsOrder, ceiling_of, task_at}
use Rattle.task_sheet.proofs.TaskLaws.{valid_at}
use Rattle.ceilings.specs.IsTableOf.{locks_of}
use Rattle.lines.specs.TextLines.{kept_from, lines_of}
use Rattle.lines.proofs.Lacks.{Lacks, joined_lacks, lacks_in, name_lacks, number_lacks, one_more}
use Rattle.settings.specs.Numbering.{Rise, top_of}
use Rattle.settings.specs.Settings.{moved_lines, mutex_line, mutex_lines_at, number_at}
use Rattle.settings.specs.Settings.{numbers_from, settings_anew, settings_at, settings_kept}
use Rattle.settings.specs.Settings.{thread_line, thread_lines_at}
use Rattle.settings.proofs.NumberingLaws.{numbers_keep}
use Rattle.judge.specs.SettingLines.{rows_from}
use Rattle.judge.specs.Node.{IsNodeOrder}
use Rattle.judge.specs.declared.rows.TheConstants.{NUMBER_LIMIT}
use Rattle.judge.proofs.SettingsLaws.{AreRising, comes_back_by, mutexes_then, threads_then}
use Rattle.judge.proofs.TaskLaws.{in_set}

-- ---- numbers that rise
rise_within : (least most : ℕ) (numbers : List ℕ) (p : ℕ) → p < length numbers
    → Rise least most numbers → (least ≤ slice_index numbers p) × (slice_index numbers p ≤ most)
rise_within least most [] p lt rise = absurd (omega arith)
rise_within least most (n ∷ numbers) zero lt rise = (rise.0, rise.1)
rise_within least most (n ∷ numbers) (suc p) lt rise =
    let at = rise_within (n + 1) most numbers p (omega arith) rise.2 in
    (omega (arith, at.0, rise.0), at.1)

rise_at : (least most : ℕ) (numbers : List ℕ) (p q : ℕ) → p < q → q < length numbers
    → Rise least most numbers → slice_index numbers p < slice_index numbers q
rise_at least most [] p q lt here rise = absurd (omega arith)
rise_at least most (n ∷ numbers) p zero lt here rise = absurd (omega arith)
rise_at least most (n ∷ numbers) zero (suc q) lt here rise =
    omega (arith, (rise_within (n + 1) most numbers q (omega arith) rise.2).0)
rise_at least most (n ∷ numbers) (suc p) (suc q) lt here rise =
    rise_at (n + 1) most numbers p q (omega arith) (omega arith) rise.2

past : (numbers : List ℕ) (q : ℕ) → length numbers ≤ q → slice_index numbers q ≡ 0
past [] q le = refl
past (n ∷ numbers) zero le = absurd (omega arith)
past (n ∷ numbers) (suc q) le = past numbers q (omega arith)

are_rising : (least most : ℕ) (numbers : List ℕ) → 1 ≤ least → most ≤ NUMBER_LIMIT
    → Rise least most numbers
    → AreRising (slice_index numbers) (number_at numbers) 0 (length numbers)
are_rising least most numbers some few rise = record {
  some = λ p lt.
      let e : 0 + p ≡ p = omega arith in
      rw e (omega (arith, (rise_within least most numbers p lt rise).0, some));
  within = λ p lt.
      let e : 0 + p ≡ p = omega arith in
      rw e (omega (arith, (rise_within least most numbers p lt rise).1, few));
  rise = λ p q lt here.
      let e : 0 + p ≡ p = omega arith in
      let e' : 0 + q ≡ q = omega arith in
      rw (e, e') (rise_at least most numbers p q lt here rise);
  apart = λ p q here lt same.
      let e : 0 + p ≡ p = omega arith in
      let e' : 0 + q ≡ q = omega arith in
      differ p q here lt (rw (e, e') at same);
  level = λ p.
      let e : p + 1 - 1 ≡ 0 + p = omega arith in
      ap (λ (k : ℕ). slice_index numbers k) e;
}
  where
    differ : (p q : ℕ) → p < length numbers → p < q
        → slice_index numbers p ≡ slice_index numbers q → ⊥
    differ p q here lt same =
        let low = (rise_within least most numbers p here rise).0 in
        elim (cases_Bool (nat_le (q + 1) (length numbers))) [
          | inl inside ↦
              omega (
                arith,
                same,
                rise_at least most numbers p q lt
                    (omega (arith, leb-true (q + 1) _ inside)) rise,
              )
          | inr outside ↦
              omega (arith, same, low, some, past numbers q (omega (arith, leb-false (q + 1) _ outside)))
        ]

-- ---- a comment
whole : (front name space a b end rest : List ℕ)
    → (front ++ name ++ space ++ a ++ space ++ b ++ end) ++ rest
    ≡ front ++ (name ++ (space ++ (a ++ (space ++ (b ++ (end ++ rest))))))
whole front name space a b end rest = simp append_assoc

joined : (word name a b rest : List ℕ)
    → (word ++ 32 ∷ (name ++ 32 ∷ (a ++ 32 ∷ b))) ++ 10 ∷ rest
    ≡ word ++ 32 ∷ (name ++ 32 ∷ (a ++ 32 ∷ (b ++ 10 ∷ rest)))
joined word name a b rest = simp append_assoc

comment_skipped : (line : ℕ) (name : List ℕ) (old number : ℕ) (rest : List ℕ) → IsName name
    → old ≤ NUMBER_LIMIT → number ≤ NUMBER_LIMIT
    → kept_from line (lines_of ((codes "# moved " ++ name ++ codes " " ++ decimal old ++ codes " "
    ++ decimal number ++ codes "\n") ++ rest))
    ≡ kept_from (line + 1) (lines_of rest)
comment_skipped line name old number rest named few few' =
    let front = codes "# moved" in
    let text = front ++ 32 ∷ (name ++ 32 ∷ (decimal old ++ 32 ∷ decimal number)) in
    let lacks : Lacks 10 text =
    joined_lacks 32 10 (front ∷ name ∷ decimal old ∷ decimal number ∷ []) refl (
      lacks_in 10 front refl,
      (
        name_lacks 10 name refl named,
        (
          number_lacks 10 old refl (omega (arith, few)),
          (number_lacks 10 number refl (omega (arith, few')), tt),
        ),
      ),
    ) in
    let printed = whole (codes "# moved ") name (codes " ") (decimal old) (decimal number)
    (codes "\n") rest ∙ sym (joined front name (decimal old) (decimal number) rest) in
    ap (λ t. kept_from line (lines_of t)) printed ∙ ap (λ ls. kept_from line ls) (one_more text rest lacks)

module _ (U : List Task) (kept : IsTaskSet U) (old numbers : List ℕ)
    (few : (p : ℕ) → slice_index old p ≤ NUMBER_LIMIT)
    (few' : (p : ℕ) → slice_index numbers p ≤ NUMBER_LIMIT) where
  moved_skipped : (line place : ℕ) (is : List ℕ) → AllByRecursion (λ i. i < length U) is
      → rows_from (kept_from line (lines_of (moved_lines U old numbers place is))) ≡ Ok []
  moved_skipped line place [] within = refl
  moved_skipped line place (i ∷ is) within =
      let o = slice_index old place in
      let n = slice_index numbers place in
      elim (cases_Bool (o == 0 || o == n)) [
        | inl stays ↦ rw stays (moved_skipped line (place + 1) is within.1)
        | inr moves ↦
            rw moves (ap rows_from (comment_skipped line (task_at U i).name o n
            (moved_lines U old numbers (place + 1) is) (valid_at U i kept within.0).named
            (few place) (few' place))
            ∙ moved_skipped (line + 1) (place + 1) is within.1)
      ]

-- ---- the text
module _ (U : List Task) (numbers order tail : List ℕ) where
  mutexes_at : (locks : List (List ℕ)) → mutex_lines_at U numbers order locks ++ tail
      ≡ mutexes_then U (slice_index numbers) (number_at numbers) order tail locks
  mutexes_at [] = refl
  mutexes_at (lock ∷ locks) =
      let line = mutex_line lock (option_map (number_at numbers) (ceiling_of U order lock)) in
      append_assoc line (mutex_lines_at U numbers order locks) tail
      ∙ ap (λ t. line ++ t) (mutexes_at locks)

  threads_at : (place : ℕ) (is : List ℕ)
      → (thread_lines_at U numbers place is ++ mutex_lines_at U numbers order (locks_of U)) ++ tail
      ≡ threads_then U (slice_index numbers) (number_at numbers) order tail place is
  threads_at place [] = mutexes_at (locks_of U)
  threads_at place (i ∷ is) =
      let line = thread_line U (slice_index numbers place) i in
      let more = thread_lines_at U numbers (place + 1) is in
      let mutexes = mutex_lines_at U numbers order (locks_of U) in
      ap (λ t. t ++ tail) (append_assoc line more mutexes)
      ∙ append_assoc line (more ++ mutexes) tail
      ∙ ap (λ t. line ++ t) (threads_at (place + 1) is)

  numbered_back : (least most : ℕ) → IsTaskSet U → IsOrder U order → 1 ≤ least
      → most ≤ NUMBER_LIMIT → Rise least most numbers → length numbers ≡ length order
      → ((line : ℕ) → rows_from (kept_from line (lines_of tail)) ≡ Ok [])
      → IsNodeOrder U (settings_at U numbers order ++ tail) order
  numbered_back least most kept each some few rise count ends =
      let are : AreRising (slice_index numbers) (number_at numbers) 0 (length order) =
      rw count at (are_rising least most numbers some few rise) in
      rw (threads_at 0 order) (comes_back_by U (slice_index numbers) (number_at numbers) order tail
      kept each 0 are ends)

-- ---- the numbers that are given
top_fits : (base : ℕ) (old : List ℕ) → base + length old ≤ NUMBER_LIMIT + 1
    → (base + length old ≤ top_of base old + 1) × (top_of base old ≤ NUMBER_LIMIT)
top_fits base old fits =
    elim (cases_Bool (nat_le (base + length old) 100 && list_all (λ n. nat_le n 99) old)) [
      | inl low ↦ rw low (leb-true (base + length old) 100 (and_parts _ _ low).0, omega arith)
      | inr high ↦ rw high (fits, omega arith)
    ]

bounded : (least most : ℕ) (numbers : List ℕ) → most ≤ NUMBER_LIMIT → Rise least most numbers
    → (p : ℕ) → slice_index numbers p ≤ NUMBER_LIMIT
bounded least most numbers few rise p = elim (cases_Bool (nat_le (p + 1) (length numbers))) [
  | inl inside ↦
      omega (
        arith,
        few,
        (rise_within least most numbers p
            (omega (arith, leb-true (p + 1) _ inside)) rise).1,
      )
  | inr outside ↦ omega (arith, past numbers p (omega (arith, leb-false (p + 1) _ outside)))
]

each_few : (old : List ℕ) → All (λ n. n ≤ NUMBER_LIMIT) old → (p : ℕ)
    → slice_index old p ≤ NUMBER_LIMIT
each_few old each p = elim (cases_Bool (nat_le (p + 1) (length old))) [
  | inl inside ↦ each p 0 (omega (arith, leb-true (p + 1) _ inside))
  | inr outside ↦ omega (arith, past old p (omega (arith, leb-false (p + 1) _ outside)))
]

pub kept_back : (U : List Task) (base room : ℕ) (old order : List ℕ) → IsTaskSet U
    → IsOrder U order → length old ≡ length order → All (λ n. n ≤ NUMBER_LIMIT) old → 1 ≤ base
    → base + length order ≤ NUMBER_LIMIT + 1
    → IsNodeOrder U (settings_kept U base room old order) order
kept_back U base room old order kept each count high some fits =
    let most = top_of base old in
    let numbers = numbers_from base room old in
    let top = top_fits base old (rw count fits) in
    let keeps = numbers_keep room base most old some top.0 in
    numbered_back U numbers order (moved_lines U old numbers 0 order) base most kept each some top.1
    keeps.rise (keeps.each ∙ count)
    (λ line. moved_skipped U kept old numbers (each_few old high)
    (bounded base most numbers top.1 keeps.rise) line 0 order
    (recursion_from_All (λ i. i < length U) order (in_set U order each)))

pub anew_back : (U : List Task) (base room : ℕ) (order : List ℕ) → IsTaskSet U → IsOrder U order
    → 1 ≤ base → base + length order ≤ NUMBER_LIMIT + 1
    → IsNodeOrder U (settings_anew U base room order) order
anew_back U base room order kept each some fits =
    let old = replicate (length order) 0 in
    let count : length old ≡ length order = length-replicate (length order) 0 in
    let most = top_of base old in
    let numbers = numbers_from base room old in
    let top = top_fits base old (rw count fits) in
    let keeps = numbers_keep room base most old some top.0 in
    rw (← append-nil (settings_at U numbers order)) (numbered_back U numbers order [] base most kept
    each some top.1 keeps.rise (keeps.each ∙ count) (λ line. refl))
