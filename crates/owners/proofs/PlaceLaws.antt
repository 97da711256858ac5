-- No two interrupts are the same team's at the same place.
use Rattle.std.proofs.Common.{◌≡◌, ◌∙◌, ◌+◌, ◌<◌, ℕ, zero, suc, inl, inr, Bool, true, eqb, ltb, subst, List, Option, Some, None, refl, sym, ap, arith}
use Rattle.std.proofs.lemmas.Bool.{cases_Bool, eqb-true, eqb-false, ltb-true, ltb-false}
use Rattle.std.proofs.lemmas.Option.{none-some, same_Some}
use Rattle.std.proofs.lemmas.Slice.Eq.{bytes_eq-Decides}
use Rattle.std.specs.Option.{option_map}
use Rattle.owners.specs.Owners.{interrupt_of, interrupt_team, is_interrupt_of, is_team, number_below, with_place}
use Rattle.task_lines.specs.declared.owner.Owner.{Owner}

-- past one that passes there is one more
counts_on : (test : ℕ → Bool) (n m : ℕ) → n < m → test n ≡ true
    → number_below n test < number_below m test
counts_on test n zero lt is = absurd (omega (arith, lt))
counts_on test n (suc m) lt is =
    elim (cases_Bool (eqb n m)) [
      | inl same ↦ rw (sym (eqb-true n m same), is) (omega arith)
      | inr other ↦ let apart = eqb-false n m other in
          let less : number_below n test < number_below m test = counts_on test n m (omega (arith, lt, apart)) is in
          omega (arith, less)
    ]

-- it is that team's, and stands behind so many of them
own_place : (owners : List Owner) (place : ℕ) (team : Option (List ℕ)) (own : List ℕ × ℕ)
    → interrupt_team owners place ≡ team → option_map (with_place owners place) team ≡ Some own
    → (is_interrupt_of owners own.0 place ≡ true)
    × (own.1 ≡ number_below place (is_interrupt_of owners own.0) + 1)
own_place owners place None own at is = absurd (none-some own is)
own_place owners place (Some team) own at is =
    let both = same_Some (with_place owners place team) own is in
    let same : is_interrupt_of owners team place ≡ true =
    ap (is_team team) at ∙ (bytes_eq-Decides team team).1 refl in
    subst (λ (it : List ℕ × ℕ). (is_interrupt_of owners it.0 place ≡ true)
    × (it.1 ≡ number_below place (is_interrupt_of owners it.0) + 1)) both (same, refl)

not_before : (owners : List Owner) (a b : ℕ) (own : List ℕ × ℕ) → interrupt_of owners a ≡ Some own
    → interrupt_of owners b ≡ Some own → a < b → ⊥
not_before owners a b own first second lt =
    let x = own_place owners a (interrupt_team owners a) own refl first in
    let y = own_place owners b (interrupt_team owners b) own refl second in
    let more = counts_on (is_interrupt_of owners own.0) a b lt x.0 in
    omega (arith, x.1, y.1, more)

pub told_apart : (owners : List Owner) (a b : ℕ) (own : List ℕ × ℕ) → interrupt_of owners a ≡ Some own
    → interrupt_of owners b ≡ Some own → a ≡ b
told_apart owners a b own first second =
    elim (cases_Bool (eqb a b)) [
      | inl same ↦ eqb-true a b same
      | inr other ↦ let apart = eqb-false a b other in
          elim (cases_Bool (ltb a b)) [
            | inl less ↦ absurd (not_before owners a b own first second (ltb-true a b less))
            | inr not_less ↦ let more : b < a = omega (arith, apart, ltb-false a b not_less) in
                absurd (not_before owners b a own second first more)
          ]
    ]
