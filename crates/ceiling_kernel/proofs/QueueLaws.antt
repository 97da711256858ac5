-- The head of the highest list is the task of the slot that goes first, and each event keeps the lists.
use Rattle.std.proofs.Common.{ℕ, zero, suc, ◌<◌, ◌≤◌, ◌≡◌, ◌≢◌, ◌⊎◌, inl, inr, refl, sym, ap, ◌∙◌}
use Rattle.std.proofs.Common.{subst, arith, List, [], ◌∷◌, ◌++◌, length, drop, Option, Some, None}
use Rattle.std.proofs.Common.{slice_index_or}
use Rattle.std.proofs.lemmas.Option.{none-some}
use Rattle.std.proofs.lemmas.Bool.{cases_eq, cases_lt}
use Rattle.std.proofs.lemmas.List.{get_or_past}
use Rattle.ceiling_kernel.specs.declared.run.Pending.{Pending}
use Rattle.ceiling_kernel.specs.States.{best_slot}
use Rattle.ceiling_kernel.specs.Lists.{list_at, head_of_highest, StandsAt, Queues}
use Rattle.ceiling_kernel.proofs.SlotLaws.{IsBestSlot, slot_some, slot_none, NotFirst}

-- ---- places
pub stands_one : (xs : List ℕ) (n i k : ℕ) → StandsAt xs n i → StandsAt xs n k → i ≡ k
stands_one [] n i k a b = absurd a
stands_one (x ∷ xs) zero i k a b = sym a ∙ b
stands_one (x ∷ xs) (suc n) i k a b = stands_one xs n i k a b

stands_below : (xs : List ℕ) (n i : ℕ) → StandsAt xs n i → n < length xs
stands_below [] n i a = absurd a
stands_below (x ∷ xs) zero i a = omega arith
stands_below (x ∷ xs) (suc n) i a = omega (arith, stands_below xs n i a)

pub head_of : (xs : List ℕ) (n i : ℕ) → StandsAt xs n i → (k : ℕ) × StandsAt xs 0 k
head_of [] n i a = absurd a
head_of (x ∷ xs) n i a = (x, refl)

pub empty_from : (xs : List ℕ) → ((k : ℕ) → StandsAt xs 0 k → ⊥) → xs ≡ []
empty_from [] none = refl
empty_from (x ∷ xs) none = absurd (none x refl)

-- one place further on, with the head still there
from_rest : (xs : List ℕ) (n i : ℕ) → StandsAt (drop 1 xs) n i → StandsAt xs (suc n) i
from_rest [] n i a = absurd a
from_rest (x ∷ xs) n i a = a

to_longer : (xs : List ℕ) (j n i : ℕ) → StandsAt xs n i → StandsAt (xs ++ j ∷ []) n i
to_longer [] j n i a = absurd a
to_longer (x ∷ xs) j zero i a = a
to_longer (x ∷ xs) j (suc n) i a = to_longer xs j n i a

at_tail : (xs : List ℕ) (j : ℕ) → StandsAt (xs ++ j ∷ []) (length xs) j
at_tail [] j = refl
at_tail (x ∷ xs) j = at_tail xs j

from_longer : (xs : List ℕ) (j n i : ℕ) → StandsAt (xs ++ j ∷ []) n i → StandsAt xs n i
    ⊎ ((n ≡ length xs) × (j ≡ i))
from_longer [] j zero i a = inr (refl, a)
from_longer [] j (suc n) i a = absurd a
from_longer (x ∷ xs) j zero i a = inl a
from_longer (x ∷ xs) j (suc n) i a =
    elim (from_longer xs j n i a) [ inl b ↦ inl b | inr b ↦ inr (ap suc b.0, b.1) ]

-- ---- the highest head
abbrev AllEmpty : List (List ℕ) → Type 0
AllEmpty lists = (q : ℕ) → list_at lists q ≡ []

abbrev pub IsTop : List (List ℕ) → ℕ → ℕ → Type 0
IsTop lists p j = StandsAt (list_at lists p) 0 j × ((q : ℕ) → p < q → list_at lists q ≡ [])

highest : (lists : List (List ℕ)) (found : Option ℕ) (j : ℕ) → head_of_highest lists found ≡ Some j
    → ((found ≡ Some j) × AllEmpty lists) ⊎ ((p : ℕ) × IsTop lists p j)
highest [] found j e = inl (e, λ q. refl)
highest ([] ∷ lists) found j e =
    elim (highest lists found j e) [
      | inl none ↦ inl (none.0, all_empty lists none.1)
      | inr top ↦ inr (suc top.0, (top.1.0, above lists top.0 top.1.1))
    ]
  where
    all_empty : (lists : List (List ℕ)) → ((q : ℕ) → list_at lists q ≡ []) → (q : ℕ)
        → list_at ([] ∷ lists) q ≡ []
    all_empty lists h zero = refl
    all_empty lists h (suc q) = h q

    above : (lists : List (List ℕ)) (p : ℕ) → ((q : ℕ) → p < q → list_at lists q ≡ []) → (q : ℕ)
        → suc p < q → list_at ([] ∷ lists) q ≡ []
    above lists p h zero lt = refl
    above lists p h (suc q) lt = h q (omega arith)
highest ((x ∷ xs) ∷ lists) found j e =
    elim (highest lists (Some x) j e) [
      | inl none ↦ inr (0, (cc (none.0), later lists none.1))
      | inr top ↦ inr (suc top.0, (top.1.0, above lists top.0 top.1.1))
    ]
  where
    later : (lists : List (List ℕ)) → ((q : ℕ) → list_at lists q ≡ []) → (q : ℕ) → 0 < q
        → list_at ((x ∷ xs) ∷ lists) q ≡ []
    later lists h zero lt = absurd (omega arith)
    later lists h (suc q) lt = h q

    above : (lists : List (List ℕ)) (p : ℕ) → ((q : ℕ) → p < q → list_at lists q ≡ []) → (q : ℕ)
        → suc p < q → list_at ((x ∷ xs) ∷ lists) q ≡ []
    above lists p h zero lt = absurd (omega arith)
    above lists p h (suc q) lt = h q (omega arith)

pub highest_some : (lists : List (List ℕ)) (j : ℕ) → head_of_highest lists None ≡ Some j → (p : ℕ)
    × IsTop lists p j
highest_some lists j e =
    elim (highest lists None j e) [ inl none ↦ absurd (none-some j none.0) | inr top ↦ top ]

highest_none : (lists : List (List ℕ)) (found : Option ℕ) → head_of_highest lists found ≡ None
    → (found ≡ None) × AllEmpty lists
highest_none [] found e = (e, λ q. refl)
highest_none ([] ∷ lists) found e =
    (let ih : (found ≡ None) × AllEmpty lists = highest_none lists found e in (ih.0, empty ih.1))
  where
    empty : ((q : ℕ) → list_at lists q ≡ []) → (q : ℕ) → list_at ([] ∷ lists) q ≡ []
    empty h zero = refl
    empty h (suc q) = h q
highest_none ((x ∷ xs) ∷ lists) found e = absurd (none-some x
    (sym (highest_none lists (Some x) e).0))

pub stands_empty : (xs : List ℕ) (n i : ℕ) → xs ≡ [] → StandsAt xs n i → ⊥
stands_empty xs n i e a = subst (λ x. StandsAt x n i) e a

-- ---- the pick
module _ (slots : List (Option Pending)) (lists : List (List ℕ))
    (queues : Queues (λ i. slice_index_or slots i None) (list_at lists)) where
  abbrev slot_of : ℕ → Option Pending
  slot_of i = slice_index_or slots i None

  pub head_in_slots : (j : ℕ) → head_of_highest lists None ≡ Some j → j < length slots
  head_in_slots j e =
      let top : (p : ℕ) × IsTop lists p j = highest_some lists j e in
      let s = queues.sound top.0 0 j top.1.0 in
      elim (cases_lt j (length slots)) [
        | inl lt ↦ lt
        | inr past ↦ absurd (none-some s.0 (sym (get_or_past slots j None past) ∙ s.1))
      ]

  -- a slot's job that goes before all others stands first in the highest list
  is_head : (j i : ℕ) (p b : Pending) → StandsAt (list_at lists p.active) 0 j → slot_of j ≡ Some p
      → slot_of i ≡ Some b → NotFirst p b → b.active ≤ p.active → i ≡ j
  is_head j i p b head at_j at_i not_first at_most =
      let place : (n : ℕ) × StandsAt (list_at lists b.active) n i = queues.complete i b at_i in
      elim not_first [
        | inl less ↦ absurd (omega arith)
        | inr tied ↦
            let here = subst (λ x. StandsAt (list_at lists x) place.0 i) (sym tied.0) place.1 in
            elim (cases_eq place.0 0) [
              | inl first ↦ stands_one (list_at lists p.active) 0 i j
                  (subst (λ x. StandsAt (list_at lists p.active) x i) first here) head
              | inr behind ↦
                  let r = queues.rising p.active 0 place.0 j i p b (omega arith) head here at_j
                  at_i in
                  absurd (omega (arith, tied.1))
            ]
      ]

  pub pick_head : (j : ℕ) (x : Option Pending) → head_of_highest lists None ≡ Some j → x ≡ slot_of j
      → x ≡ best_slot slots None
  pick_head j x e read =
      let top : (p : ℕ) × IsTop lists p j = highest_some lists j e in
      let s = queues.sound top.0 0 j top.1.0 in
      let p : Pending = s.0 in
      let head = subst (λ y. StandsAt (list_at lists y) 0 j) (sym s.2) top.1.0 in
      elim (best_slot slots None) as (λ r. best_slot slots None ≡ r → x ≡ r) [
        | None ↦ λ none. absurd (nobody j p s.1 none)
        | Some b ↦ λ found.
            let is : IsBestSlot slots None b = slot_some slots None b found in
            let place : (i : ℕ) × (slot_of i ≡ Some b) =
            elim is.from [ inl no_one ↦ absurd (none-some b no_one) | inr at ↦ at ] in
            let at_b = queues.complete place.0 b place.1 in
            let at_most : b.active ≤ p.active = elim (cases_lt top.0 b.active) [
              | inl above ↦ absurd (stands_empty (list_at lists b.active) at_b.0 place.0
                  (top.1.1 b.active above) at_b.1)
              | inr le ↦ omega (arith, s.2)
            ] in
            let same = is_head j place.0 p b head s.1 place.1 (is.first j p s.1) at_most in
            read ∙ subst (λ y. slot_of y ≡ Some b) same place.1
      ] refl
    where
      nobody : (j : ℕ) (p : Pending) → slot_of j ≡ Some p → best_slot slots None ≡ None → ⊥
      nobody j p at_j none = (slot_none slots None none).1 j p at_j

  pub pick_none : head_of_highest lists None ≡ None → None ≡ best_slot slots None
  pick_none e =
      let empty : AllEmpty lists = (highest_none lists None e).1 in
      elim (best_slot slots None) as (λ r. best_slot slots None ≡ r → None ≡ r) [
        | None ↦ λ none. refl
        | Some b ↦ λ found.
            let place : (i : ℕ) × (slot_of i ≡ Some b) =
            elim (slot_some slots None b found).from [
              | inl no_one ↦ absurd (none-some b no_one)
              | inr at ↦ at
            ] in
            let at_b = queues.complete place.0 b place.1 in
            absurd (stands_empty (list_at lists b.active) at_b.0 place.0 (empty b.active) at_b.1)
      ] refl

-- ---- the events, over what the slots and the lists hold
pub pending_same : (o : Option Pending) (q r : Pending) → o ≡ Some q → o ≡ Some r → q ≡ r
pending_same o q r a b = cc

not_first : (xs : List ℕ) (n k i : ℕ) → StandsAt xs n k → StandsAt xs 0 i → k ≢ i → (m : ℕ)
    × StandsAt (drop 1 xs) m k
not_first [] n k i a b ne = absurd a
not_first (x ∷ xs) zero k i a b ne = absurd (ne (sym a ∙ b))
not_first (x ∷ xs) (suc n) k i a b ne = (n, a)

module _ (g : ℕ → Option Pending) (f : ℕ → List ℕ) (queues : Queues g f) (g' : ℕ → Option Pending)
    (i : ℕ) (others : (k : ℕ) → k ≢ i → g' k ≡ g k) where
  -- the head of list q.active is gone
  pub head_leaves : (f' : ℕ → List ℕ) (q : Pending) → StandsAt (f q.active) 0 i → g i ≡ Some q
      → g' i ≡ None → f' q.active ≡ drop 1 (f q.active) → ((p : ℕ) → p ≢ q.active → f' p ≡ f p)
      → Queues g' f'
  head_leaves f' q head at_i gone rest same_list = record {
    sound = λ p n k st. elim (cases_eq p q.active) [
      | inl e ↦
          let st' = subst (λ x. StandsAt x n k) (ap f' e ∙ rest) st in
          let was : StandsAt (f q.active) (suc n) k = from_rest (f q.active) n k st' in
          let s = queues.sound q.active (suc n) k was in
          let ne : k ≢ i = λ same.
          let one = pending_same (g i) s.0 q (subst (λ x. g x ≡ Some s.0) same s.1) at_i in
          let lv : s.0.level ≡ q.level = ap (λ x. x.level) one in
          let lt = queues.rising q.active 0 (suc n) i k q s.0 (omega arith) head was at_i s.1 in
          omega arith in
          (s.0, others k ne ∙ s.1, s.2 ∙ sym e)
      | inr differ ↦
          let was : StandsAt (f p) n k = subst (λ x. StandsAt x n k) (same_list p differ) st in
          let s : (r : Pending) × (g k ≡ Some r) × (r.active ≡ p) = queues.sound p n k was in
          let ne : k ≢ i = λ same.
          let one = pending_same (g i) s.0 q (subst (λ x. g x ≡ Some s.0) same s.1) at_i in
          differ (sym s.2 ∙ ap (λ x. x.active) one) in
          (s.0, others k ne ∙ s.1, s.2)
    ];
    complete = λ k r e. elim (cases_eq k i) [
      | inl same ↦ absurd (none-some r (sym gone ∙ subst (λ x. g' x ≡ Some r) same e))
      | inr ne ↦
          let place = queues.complete k r (sym (others k ne) ∙ e) in
          elim (cases_eq r.active q.active) [
            | inl same ↦
                let here = subst (λ x. StandsAt (f x) place.0 k) same place.1 in
                let m = not_first (f q.active) place.0 k i here head ne in
                (m.0, subst (λ x. StandsAt x m.0 k) (sym (ap f' same ∙ rest)) m.1)
            | inr differ ↦ (
              place.0,
              subst (λ x. StandsAt x place.0 k)
                  (sym (same_list r.active differ)) place.1,
            )
          ]
    ];
    rising = λ p n m k h r s lt st st' e e'.
        let was : g k ≡ Some r = still k r e gone in
        let was' : g h ≡ Some s = still h s e' gone in
        elim (cases_eq p q.active) [
          | inl same ↦
              let a = from_rest (f q.active) n k (subst (λ x. StandsAt x n k) (ap f' same ∙ rest)
              st) in
              let b = from_rest (f q.active) m h (subst (λ x. StandsAt x m h) (ap f' same ∙ rest)
              st') in
              queues.rising q.active (suc n) (suc m) k h r s (omega arith) a b was was'
          | inr differ ↦
              queues.rising p n m k h r s lt (subst (λ x. StandsAt x n k) (same_list p differ) st)
              (subst (λ x. StandsAt x m h) (same_list p differ) st') was was'
        ];
  }
    where
      still : (k : ℕ) (r : Pending) → g' k ≡ Some r → g' i ≡ None → g k ≡ Some r
      still k r e gone = elim (cases_eq k i) [
        | inl same ↦ absurd (none-some r (sym gone ∙ subst (λ x. g' x ≡ Some r) same e))
        | inr ne ↦ sym (others k ne) ∙ e
      ]

  -- task i comes to the tail of list p.active, where all own levels are lower
  pub tail_joins : (f' : ℕ → List ℕ) (p : Pending) → g i ≡ None → g' i ≡ Some p
      → f' p.active ≡ f p.active ++ i ∷ [] → ((l : ℕ) → l ≢ p.active → f' l ≡ f l)
      → ((n k : ℕ) (r : Pending) → StandsAt (f p.active) n k → g k ≡ Some r → r.level < p.level)
      → Queues g' f'
  tail_joins f' p free at_i longer same_list below = record {
    sound = λ l n k st. elim (cases_eq l p.active) [
      | inl e ↦ elim (from_longer (f p.active) i n k
          (subst (λ x. StandsAt x n k) (ap f' e ∙ longer) st)) [
            | inl was ↦
                let s = queues.sound p.active n k was in
                (s.0, others k (other k s.0 s.1) ∙ s.1, s.2 ∙ sym e)
            | inr last ↦ (p, subst (λ x. g' x ≡ Some p) last.1 at_i, sym e)
          ]
      | inr differ ↦
          let s = queues.sound l n k (subst (λ x. StandsAt x n k) (same_list l differ) st) in
          (s.0, others k (other k s.0 s.1) ∙ s.1, s.2)
    ];
    complete = λ k r e. elim (cases_eq k i) [
      | inl same ↦
          let one : p ≡ r = pending_same (g' i) p r at_i (subst (λ x. g' x ≡ Some r) same e) in
          let last = subst (λ x. StandsAt x (length (f p.active)) i) (sym longer)
          (at_tail (f p.active) i) in (
            length (f p.active),
            subst (λ x. StandsAt (f' x) (length (f p.active)) k)
                (ap (λ x. x.active) one)
                (subst (λ x. StandsAt (f' p.active) (length (f p.active)) x) (sym same) last),
          )
      | inr ne ↦
          let place = queues.complete k r (sym (others k ne) ∙ e) in
          elim (cases_eq r.active p.active) [
            | inl same ↦
                let here = to_longer (f p.active) i place.0 k
                (subst (λ x. StandsAt (f x) place.0 k) same place.1) in
                (place.0, subst (λ x. StandsAt x place.0 k) (sym (ap f' same ∙ longer)) here)
            | inr differ ↦ (
              place.0,
              subst (λ x. StandsAt x place.0 k)
                  (sym (same_list r.active differ)) place.1,
            )
          ]
    ];
    rising = λ l n m k h r s lt st st' e e'. elim (cases_eq l p.active) [
      | inl same ↦ elim (from_longer (f p.active) i n k
          (subst (λ x. StandsAt x n k) (ap f' same ∙ longer) st)) [
            | inl a ↦ elim (from_longer (f p.active) i m h
                (subst (λ x. StandsAt x m h) (ap f' same ∙ longer) st')) [
                  | inl b ↦ queues.rising p.active n m k h r s lt a b (was p.active n k r a e)
                      (was p.active m h s b e')
                  | inr last ↦
                      let one = pending_same (g' i) p s at_i
                      (subst (λ x. g' x ≡ Some s) (sym last.1) e') in
                      omega (arith, ap (λ x. x.level) one, below n k r a (was p.active n k r a e))
                ]
            | inr end ↦ elim (from_longer (f p.active) i m h
                (subst (λ x. StandsAt x m h) (ap f' same ∙ longer) st')) [
                  | inl b ↦ absurd (omega (arith, stands_below (f p.active) m h b, end.0))
                  | inr last ↦ absurd (omega (arith, end.0, last.0))
                ]
          ]
      | inr differ ↦
          let a : StandsAt (f l) n k = subst (λ x. StandsAt x n k) (same_list l differ) st in
          let b : StandsAt (f l) m h = subst (λ x. StandsAt x m h) (same_list l differ) st' in
          queues.rising l n m k h r s lt a b (was l n k r a e) (was l m h s b e')
    ];
  }
    where
      other : (k : ℕ) (r : Pending) → g k ≡ Some r → k ≢ i
      other k r e = λ same. none-some r (sym free ∙ subst (λ x. g x ≡ Some r) same e)

      was : (l n k : ℕ) (r : Pending) → StandsAt (f l) n k → g' k ≡ Some r → g k ≡ Some r
      was l n k r st e = (let s = queues.sound l n k st in sym (others k (other k s.0 s.1)) ∙ e)

  -- task i stays where it is
  pub place_stays : (p q : Pending) → g i ≡ Some p → g' i ≡ Some q → q.active ≡ p.active
      → q.level ≡ p.level → Queues g' f
  place_stays p q at_i at_i' active level = record {
    sound = λ l n k st.
        let s : (r : Pending) × (g k ≡ Some r) × (r.active ≡ l) = queues.sound l n k st in
        elim (cases_eq k i) [
          | inl same ↦
              let one = pending_same (g i) s.0 p (subst (λ x. g x ≡ Some s.0) same s.1) at_i in (
                q,
                subst (λ x. g' x ≡ Some q) (sym same) at_i',
                active
                    ∙ (sym (ap (λ x. x.active) one) ∙ s.2),
              )
          | inr ne ↦ (s.0, others k ne ∙ s.1, s.2)
        ];
    complete = λ k r e.
        let b = before k r e in
        let place : (n : ℕ) × StandsAt (f b.0.active) n k = queues.complete k b.0 b.1 in
        (place.0, subst (λ x. StandsAt (f x) place.0 k) b.2 place.1);
    rising = λ l n m k h r s lt st st' e e'.
        let a = before k r e in
        let b = before h s e' in
        omega (arith, queues.rising l n m k h a.0 b.0 lt st st' a.1 b.1, a.3, b.3);
  }
    where
      before : (k : ℕ) (r : Pending) → g' k ≡ Some r → (s : Pending) × (g k ≡ Some s)
          × (s.active ≡ r.active) × (s.level ≡ r.level)
      before k r e = elim (cases_eq k i) [
        | inl same ↦
            let one : q ≡ r = pending_same (g' i) q r at_i' (subst (λ x. g' x ≡ Some r) same e) in (
              p,
              subst (λ x. g x ≡ Some p) (sym same) at_i,
              sym active
                  ∙ ap (λ x. x.active) one,
              sym level ∙ ap (λ x. x.level) one,
            )
        | inr ne ↦ (r, sym (others k ne) ∙ e, refl, refl)
      ]
