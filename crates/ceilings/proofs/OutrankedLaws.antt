-- The tasks that are named, and those above which each task must stand, gathered by rank.
use Rattle.std.proofs.Common.{◌≡◌, ℕ, ◌+◌, ◌<◌, ◌≤◌, Bool, true, false, ◌&&◌, ◌||◌, ◌==◌, nat_lt}
use Rattle.std.proofs.Common.{List, [], length, replicate, set, get_or, IsTrue, IsFalse, inl, inr}
use Rattle.std.proofs.Common.{◌∙◌, ap, arith}
use Rattle.std.specs.Ordering.{nat_cmp}
use Rattle.std.specs.FinSet as members
use Rattle.std.proofs.lemmas.Bool.{cases_eq, cases_lt}
use Rattle.std.proofs.lemmas.Bool.Decides.{nat_tests}
use Rattle.std.proofs.lemmas.List.{length-set, get_or-set_same, get_or-set_other, get_or-replicate}
use Rattle.std.proofs.lemmas.List.{get_or_past, length-replicate}
use Rattle.task_sheet.proofs.Common.{Named, Task, task_at, indexes_of, must_outrank}
use Rattle.task_sheet.proofs.MembersIndexes.{indexes_of-empty, indexes_of-insert}
use Rattle.ceilings.proofs.WholeTable.{nothing_below}

-- of the indexes below n those that pass, and no other
abbrev pub AreBelow : (ℕ → Bool) → members.FinSet nat_cmp → ℕ → Type 0
AreBelow p found n = (k : ℕ) → indexes_of found k ≡ (nat_lt k n && p k)

one_more : (k n : ℕ) (q : Bool) → (k ≡ n → q ≡ true)
    → ((k == n) || (nat_lt k n && q)) ≡ (nat_lt k (n + 1) && q)
one_more k n q passes = grind (arith, nat_tests)

none_more : (k n : ℕ) (q : Bool) → (k ≡ n → q ≡ false)
    → (nat_lt k n && q) ≡ (nat_lt k (n + 1) && q)
none_more k n q fails = grind (arith, nat_tests)

pub AreBelow-none : (p : ℕ → Bool) → AreBelow p members.empty 0
AreBelow-none p k = ap (λ H. H k) indexes_of-empty ∙ nothing_below k (p k)

pub AreBelow-with : (p : ℕ → Bool) (found : members.FinSet nat_cmp) (n : ℕ) → AreBelow p found n
    → IsTrue (p n) → AreBelow p (members.insert found n) (n + 1)
AreBelow-with p found n so passes k = ap (λ H. H k) (indexes_of-insert found n)
    ∙ ap (λ b. (k == n) || b) (so k) ∙ one_more k n (p k) (λ e. ap p e ∙ passes)

pub AreBelow-skip : (p : ℕ → Bool) (found : members.FinSet nat_cmp) (n : ℕ) → AreBelow p found n
    → IsFalse (p n) → AreBelow p found (n + 1)
AreBelow-skip p found n so fails k = so k ∙ none_more k n (p k) (λ e. ap p e ∙ fails)

-- the rows of the first n tasks, and none for the others
pub record AreRowsOf (U : List Task) (rows : List (members.FinSet nat_cmp)) (n : ℕ) : Type 0 where
  pub count : length rows ≡ 32
  pub done : (i k : ℕ) → i < n → k < length U
      → indexes_of (get_or rows i members.empty) k ≡ must_outrank U i k
  pub rest : (i : ℕ) → n ≤ i → get_or rows i members.empty ≡ members.empty

pub AreRowsOf-none : (U : List Task) (row : members.FinSet nat_cmp) → row ≡ members.empty
    → AreRowsOf U (replicate 32 row) 0
AreRowsOf-none U row none = record {
  count = length-replicate 32 row;
  done = λ i k before within. absurd (omega arith);
  rest = λ i le. elim (cases_lt i 32) [
    | inl lt ↦ get_or-replicate 32 i row members.empty lt ∙ none
    | inr past ↦ get_or_past (replicate 32 row) i members.empty
        (omega (arith, length-replicate 32 row))
  ];
}

pub AreRowsOf-row : (U : List Task) (rows rows' : List (members.FinSet nat_cmp)) (n : ℕ)
    (row : members.FinSet nat_cmp) → AreRowsOf U rows n → n < 32
    → rows' ≡ set rows n row → ((k : ℕ) → k < length U → indexes_of row k ≡ must_outrank U n k)
    → AreRowsOf U rows' (n + 1)
AreRowsOf-row U rows rows' n row so lt is right = record {
  count = ap length is ∙ length-set rows n row ∙ so.count;
  done = λ i k before within. elim (cases_eq i n) [
    | inl e ↦ rw (is, e, get_or-set_same rows n row members.empty (omega (arith, so.count)))
        (right k within)
    | inr ne ↦
        rw (is, get_or-set_other rows n i row members.empty ne) (so.done i k (omega arith) within)
  ];
  rest = λ i le. rw (is, get_or-set_other rows n i row members.empty (λ e. omega arith))
      (so.rest i (omega arith));
}

-- a task that names none
pub AreRowsOf-skip : (U : List Task) (rows : List (members.FinSet nat_cmp)) (n : ℕ)
    → AreRowsOf U rows n → (task_at U n).outranks ≡ Named [] → AreRowsOf U rows (n + 1)
AreRowsOf-skip U rows n so none = record {
  count = so.count;
  done = λ i k before within. elim (cases_eq i n) [
    | inl e ↦
        ap (λ (m : members.FinSet nat_cmp). indexes_of m k) (so.rest i (omega arith))
        ∙ ap (λ H. H k) indexes_of-empty
        ∙ rw (e, none)
    | inr ne ↦ so.done i k (omega arith) within
  ];
  rest = λ i le. so.rest i (omega arith);
}
