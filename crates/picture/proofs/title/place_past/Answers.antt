use Rattle.std.proofs.Common.{◌≡◌, ℕ, ◌+◌, ◌<◌, ◌≤◌, List, arith, drop, get_or, inl, inr, length}
use Rattle.std.specs.Prelude.{◌-◌, if◌then◌else◌, nat_lt}
use Rattle.std.proofs.lemmas.Bool.{cases_lt, le-ltb, lt-ltb}
use Rattle.std.proofs.lemmas.List.{at_drop_all, at_drop_more}
use Rattle.picture.specs.Titles.{letters_at, place_past}
use Rattle.picture.proofs.title.place_past.Goals as goal

-- past one byte
past : (bs : List ℕ) (i left letters : ℕ) → i < length bs → letters ≡ letters_at (get_or bs i 0)
    → place_past (drop i bs) left
    ≡ (if nat_lt left letters then 0 else place_past (drop (i + 1) bs) (left - letters) + 1)
past bs i left letters lt is = rw is (at_drop_more (λ l. place_past l left) bs i 0 lt)

-- a byte that takes letters begins a character
begins : (b : ℕ) → 0 < letters_at b → 128 ≤ b → 192 ≤ b
begins b some lo = elim (cases_lt b 192) [
  | inl lt ↦ absurd (omega (arith, rw (le-ltb b 128 lo, lt-ltb b 192 lt) at some))
  | inr ge ↦ ge
]

pub loop-place-preserved : goal.loop-place-preserved
loop-place-preserved c =
    let same = c.as_bytes-bytes.ensures.value in
    let turn = past c.args.title.now c.loop-place.place c.loop-place.left c.letters_at-letters.result
    (rw same at c.loop-place-test.true) (rw same at c.letters_at-letters.ensures) in
    omega (arith, rw (le-ltb _ _ c.if-left-letters.false) at turn, c.loop-place.invariant)

pub returns : goal.returns
returns c =
    let same = rw c.as_bytes-bytes.ensures.value at c.loop-place-test.false in
    let end = at_drop_all (λ l. place_past l c.loop-place.left) c.args.title.now c.loop-place.place same in
    rw c.as_bytes-bytes.ensures.value (record {
      place = omega (arith, end, c.loop-place.invariant, same, rw c.as_bytes-bytes.ensures.value at c.loop-place.auto.place-end);
      within = (omega arith, λ lt lo. absurd (omega (arith, lt)));
    })

pub returns-then-left-letters : goal.returns-then-left-letters
returns-then-left-letters c =
    let same = c.as_bytes-bytes.ensures.value in
    let lt = rw same at c.loop-place-test.true in
    let is = rw same at c.letters_at-letters.ensures in
    let turn = past c.args.title.now c.loop-place.place c.loop-place.left c.letters_at-letters.result lt is in
    record {
      place = omega (arith, rw (lt-ltb _ _ c.if-left-letters.true) at turn, c.loop-place.invariant);
      within = (
        omega (arith, lt),
        λ _ lo. begins (get_or c.args.title.now c.loop-place.place 0)
            (omega (arith, is, c.if-left-letters.true)) lo,
      );
    }
