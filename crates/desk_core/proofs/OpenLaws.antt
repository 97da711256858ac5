-- How many findings a test can still take.
use Rattle.std.proofs.Common.{◌≡◌, ◌∙◌, ℕ, zero, suc, ◌+◌, ◌-◌, ◌*◌, ◌<◌, ◌≤◌, ◌⊎◌, ◌&&◌, inl, inr}
use Rattle.std.proofs.Common.{Bool, true, false, List, [], ◌∷◌, ◌++◌, length, Option, None, Some}
use Rattle.std.proofs.Common.{refl, sym, ap, subst, arith, append-nil, append_assoc}
use Rattle.std.proofs.Math.Nat.{mul-suc, suc-mul}
use Rattle.std.specs.Ordering.{nat_cmp}
use Rattle.std.specs.Cmp.{nat_cmp_total}
use Rattle.std.specs.FinSet as members
use Rattle.std.proofs.lemmas.Bool.{cases_Bool, cases_eq, and_parts}
use Rattle.task_sheet.proofs.Common.{Task, Indexes, indexes_of, without_index, all_below}
use Rattle.task_sheet.proofs.Common.{does_stand, level_at}
use Rattle.task_sheet.specs.Choices.{or_last, least_below, chosen_of}
use Rattle.task_sheet.proofs.MembersEdits.{len-set_of, set_of-zero}
use Rattle.task_sheet.proofs.MembersIndexes.{len-of_member, len-remove_member}
use Rattle.assignment.specs.Questions.{QuestionData}
use Rattle.assignment.specs.Levels.{LevelState}
use Rattle.desk_core.specs.Findings.{Asked, asked_of, is_on, level_of, missing_after, IsPresent}
use Rattle.desk_core.specs.Findings.{IsNews, AreNews}
use Rattle.desk_core.proofs.FindingLaws.{level_of-on, level_of-off, asked-on}

-- ---- the candidate that is chosen is one
or_last-some : (o : Option ℕ) (n : ℕ) (b : Bool) (i : ℕ) → or_last o n b ≡ Some i → (o ≡ Some i)
    ⊎ ((b ≡ true) × (n ≡ i))
or_last-some (Some j) n b i is = inl is
or_last-some None n true i is = inr (refl, cc)
or_last-some None n false i is = absurd cc

least_below-some : (n : ℕ) (p : ℕ → Bool) (i : ℕ) → least_below n p ≡ Some i → p i ≡ true
least_below-some zero p i is = absurd cc
least_below-some (suc n) p i is = elim (or_last-some (least_below n p) n (p n) i is) [
  | inl before ↦ least_below-some n p i before
  | inr last ↦ ap p (sym last.1) ∙ last.0
]

chosen-member : (U : List Task) (L : Indexes) (i : ℕ) → chosen_of U L ≡ Some i → L i ≡ true
unfolding chosen_of
chosen-member U L i is =
    (and_parts (L i) (does_stand U i (without_index L i))
    (least_below-some (length U) (λ j. L j && does_stand U j (without_index L j)) i is)).0

-- ---- a level has one candidate less than the one before it, or it stays for ever
len-all : (n : ℕ) → members.len (all_below n) ≤ n
len-all zero = omega (arith, set_of-zero (λ _. true))
len-all (suc n) =
    let next : suc n ≡ n + 1 = omega arith in
    let one : members.len (all_below (suc n)) ≡ members.len (all_below n) + 1 =
    ap (λ k. members.len (all_below k)) next ∙ len-set_of (λ _. true) n in
    omega (arith, len-all n, one)

-- so narrow is level k, or it is a level before it at which none is chosen
abbrev IsNarrow : List Task → ℕ → Type 0
IsNarrow U k =
    (members.len (level_at U k) + k ≤ length U)
    ⊎ ((j : ℕ) × (j < k) × (level_at U k ≡ level_at U j)
    × (chosen_of U (indexes_of (level_at U j)) ≡ None))

next-narrow : (U : List Task) (k : ℕ) (o : Option ℕ) → chosen_of U (indexes_of (level_at U k)) ≡ o
    → members.len (level_at U k) + k ≤ length U → IsNarrow U (suc k)
unfolding level_at
next-narrow U k None is le = inr (k, omega arith, rw is refl, is)
next-narrow U k (Some i) is le =
    let fewer =
    len-remove_member (level_at U k) i (chosen-member U (indexes_of (level_at U k)) i is) in
    inl (rw is (omega (arith, fewer, le)))

narrow : (U : List Task) (k : ℕ) → IsNarrow U k
unfolding level_at
narrow U zero = inl (omega (arith, len-all (length U)))
narrow U (suc k) = elim (narrow U k) [
  | inl le ↦ next-narrow U k (chosen_of U (indexes_of (level_at U k))) refl le
  | inr stuck ↦ inr (stuck.0, omega (arith, stuck.1), rw (stuck.2, stuck.3) refl, stuck.3)
]

present-narrow : (U : List Task) (found : List Asked) (k : ℕ) → IsPresent U found k
    → members.len (level_at U k) + k ≤ length U
present-narrow U found k present = elim (narrow U k) [
  | inl le ↦ le
  | inr stuck ↦ absurd (present.undecided (rw stuck.2 (present.before stuck.0 stuck.1)))
]

-- ---- what a level misses
-- of the candidates that miss a finding, so many as level k may have
miss : List Task → List Asked → ℕ → ℕ
miss U found k =
    let n = members.len (level_of U found k).missing in
    n - (n - (length U - k))

remove-fewer : (m : members.FinSet nat_cmp) (i : ℕ)
    → members.len (members.remove m i) ≤ members.len m
remove-fewer m i = elim (cases_Bool (members.contains m i)) [
  | inl member ↦ omega (arith, len-remove_member m i member)
  | inr out ↦ rw (members.len-remove nat_cmp_total m i, out) (omega arith)
]

missing-within : (left missing : members.FinSet nat_cmp) (found : List Asked)
    → members.len (missing_after left missing found) ≤ members.len missing
missing-within left missing [] = omega arith
missing-within left missing (a ∷ found) = elim (cases_Bool (is_on left a)) [
  | inl on ↦ rw on (omega (
    arith,
    missing-within left (members.remove missing a.task) found,
    remove-fewer missing a.task,
  ))
  | inr off ↦ rw off (missing-within left missing found)
]

with-on : (U : List Task) (found : List Asked) (k : ℕ) (a : Asked) → is_on (level_at U k) a ≡ true
    → members.len (level_of U (found ++ a ∷ []) k).missing
    ≡ members.len (members.remove (level_of U found k).missing a.task)
with-on U found k a on = ap (λ (l : LevelState). members.len l.missing) (level_of-on U found k a on)

fewer-missing : (U : List Task) (found : List Asked) (a : Asked) (k : ℕ) → members.len
    (level_of U (found ++ a ∷ []) k).missing ≤ members.len (level_of U found k).missing
fewer-missing U found a k = elim (cases_Bool (is_on (level_at U k) a)) [
  | inl on ↦ omega (arith, with-on U found k a on, remove-fewer (level_of U found k).missing a.task)
  | inr off ↦ let same = ap (λ (l : LevelState). members.len l.missing)
      (level_of-off U found k a off) in omega (arith, same)
]

miss-more : (U : List Task) (found : List Asked) (a : Asked) (k : ℕ)
    → miss U (found ++ a ∷ []) k ≤ miss U found k
unfolding miss
miss-more U found a k = omega (arith, fewer-missing U found a k)

miss-news : (U : List Task) (found : List Asked) (q : QuestionData) (k : ℕ) → IsNews U found q k
    → miss U (found ++ asked_of q ∷ []) k < miss U found k
unfolding miss
miss-news U found q k news =
    let left = level_at U k in
    let on = asked-on left q news.asked.candidate news.asked.rest in
    let one : members.len (level_of U (found ++ asked_of q ∷ []) k).missing
    < members.len (level_of U found k).missing =
    omega (
      arith,
      with-on U found k (asked_of q) on,
      len-remove_member (level_of U found k).missing
          q.task news.missing,
    ) in
    let within = missing-within left left found in
    let narrow = present-narrow U found k news.present in
    omega (arith, one, within, narrow)

-- ---- all levels
-- what the levels below a number miss
open_below : List Task → List Asked → ℕ → ℕ
open_below U found zero = 0
open_below U found (suc k) = miss U found k + open_below U found k

below-more : (U : List Task) (found : List Asked) (a : Asked) (m : ℕ)
    → open_below U (found ++ a ∷ []) m ≤ open_below U found m
unfolding open_below
below-more U found a zero = omega arith
below-more U found a (suc m) = omega (arith, below-more U found a m, miss-more U found a m)

below-news : (U : List Task) (found : List Asked) (q : QuestionData) (k m : ℕ) → IsNews U found q k
    → k < m → open_below U (found ++ asked_of q ∷ []) m < open_below U found m
unfolding open_below
below-news U found q k zero news lt = absurd (omega arith)
below-news U found q k (suc m) news lt = elim (cases_eq k m) [
  | inl e ↦
      let here = subst (λ n. miss U (found ++ asked_of q ∷ []) n < miss U found n) e
      (miss-news U found q k news) in
      omega (arith, here, below-more U found (asked_of q) m)
  | inr ne ↦
      omega (arith, below-news U found q k m news (omega arith), miss-more U found (asked_of q) m)
]

-- how many findings a test can still take, at most
pub open_of : List Task → List Asked → ℕ
open_of U found = open_below U found (length U)

pub open-news : (U : List Task) (found : List Asked) (q : QuestionData) (k : ℕ) → IsNews U found q k
    → open_of U (found ++ asked_of q ∷ []) < open_of U found
unfolding open_of
open-news U found q k news =
    let some = len-of_member (level_at U k) q.task news.asked.candidate in
    let within : k < length U = omega (arith, some, present-narrow U found k news.present) in
    below-news U found q k (length U) news within

-- ---- there are few findings
-- at most n (n + 1) / 2 of a set of n tasks
triangle : (e : ℕ) → suc e * (suc e + 1) ≡ e * (e + 1) + 2 * suc e
triangle e =
    let first = suc-mul e (suc e + 1) in
    let next : suc e + 1 ≡ suc (suc e) = omega arith in
    let one : e * (suc e + 1) ≡ e * suc e + e = ap (λ n. e * n) next ∙ mul-suc e (suc e) in
    let here : e + 1 ≡ suc e = omega arith in
    let same : e * (e + 1) ≡ e * suc e = ap (λ n. e * n) here in
    omega (arith, first, one, same)

miss-less : (U : List Task) (found : List Asked) (k : ℕ) → miss U found k ≤ length U - k
unfolding miss
miss-less U found k = omega arith

below-few : (U : List Task) (found : List Asked) (m d : ℕ) → m + d ≡ length U
    → 2 * open_below U found m + d * (d + 1) ≤ length U * (length U + 1)
unfolding open_below
below-few U found zero d same = let e : d ≡ length U = omega arith in
    subst (λ n. 2 * 0 + d * (d + 1) ≤ n * (n + 1)) e (omega arith)
below-few U found (suc m) d same =
    let before = below-few U found m (suc d) (omega arith) in
    let one = miss-less U found m in
    omega (arith, before, one, triangle d)

open-few : (U : List Task) (found : List Asked) → 2 * open_of U found ≤ length U * (length U + 1)
unfolding open_of
open-few U found = omega (arith, below-few U found (length U) 0 (omega arith))

news-open : (U : List Task) (before found : List Asked) → AreNews U before found
    → length found + open_of U (before ++ found) ≤ open_of U before
news-open U before [] are =
    subst (λ xs. 0 + open_of U xs ≤ open_of U before) (sym (append-nil before)) (omega arith)
news-open U before (a ∷ found) are =
    let less = subst (λ x. open_of U (before ++ x ∷ []) < open_of U before) (sym are.0.2)
    (open-news U before are.0.0 are.0.1 are.0.3) in
    let rest = news-open U (before ++ a ∷ []) found are.1 in
    let here = subst (λ xs. length found + open_of U xs ≤ open_of U (before ++ a ∷ []))
    (append_assoc before (a ∷ []) found) rest in
    omega (arith, here, less)

pub news-few : (U : List Task) (found : List Asked) → AreNews U [] found
    → 2 * length found ≤ length U * (length U + 1)
news-few U found are = omega (arith, news-open U [] found are, open-few U [])
