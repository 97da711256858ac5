use Rattle.std.proofs.Common.{◌≤◌, ◌<◌, ◌^◌, ◌≡◌, ◌∙◌, All, List, ℕ, length, arith}
use Rattle.std.proofs.lemmas.List.Elements.{All-from_recursion}
use Rattle.settings.specs.Numbering.{staying, start_of}
use Rattle.settings.proofs.NumberingLaws.{length_staying, start_of-le, staying-le}
use Rattle.settings.proofs.numbering.numbers_of.Goals as goal

few : (least most : ℕ) (old stay : List ℕ) → stay ≡ staying most least old → length old ≤ 32
    → length stay ≤ 32
few least most old stay is le = rw is (omega (arith, le, length_staying most least old))

within : (least most : ℕ) (old stay : List ℕ) → stay ≡ staying most least old → most ≤ 1_000_000
    → All (λ n. n ≤ 2 ^ 32) stay
within least most old stay is le =
    rw is (All-from_recursion (λ n. n ≤ 2 ^ 32) _ (staying-le most (2 ^ 32) least old (omega (arith, le))))

start : (room least most : ℕ) (old stay : List ℕ) (n : ℕ) → stay ≡ staying most least old
    → n ≡ start_of room least most stay → least < 2 ^ 32 → most ≤ 1_000_000 → n ≤ 2 ^ 32
start room least most old stay n is at_start low high =
    omega (
      arith,
      at_start,
      start_of-le room least most stay (2 ^ 32) (omega (arith, low))
          (omega (arith, high)) (rw is (staying-le most (2 ^ 32) least old (omega (arith, high)))),
    )

pub start_of-start-requires-clause-few : goal.start_of-start-requires-clause-few
start_of-start-requires-clause-few c = few c.args.least c.args.most c.args.old.now _
    (c.deref.ensures.value ∙ c.in_ok-stay.ensures) c.requires.few

pub filled-requires-clause-few : goal.filled-requires-clause-few
filled-requires-clause-few c = few c.args.least c.args.most c.args.old.now _
    (c.deref-2.ensures.value ∙ c.in_ok-stay.ensures) c.requires.few

pub filled-requires-clause-from : goal.filled-requires-clause-from
filled-requires-clause-from c =
    start c.args.room c.args.least c.args.most c.args.old.now c.deref.result.now _
    (c.deref.ensures.value ∙ c.in_ok-stay.ensures) c.start_of-start.ensures
    c.requires.least c.requires.most

pub filled-requires-clause-within : goal.filled-requires-clause-within
filled-requires-clause-within c = within c.args.least c.args.most c.args.old.now _
    (c.deref-2.ensures.value ∙ c.in_ok-stay.ensures) c.requires.most
