-- Responses and chains of a demand that does not fall.
use Rattle.std.proofs.Common.{◌≡◌, ℕ, zero, suc, ◌+◌, ◌<◌, ◌≤◌, ◌⊎◌, inl, inr, ◌↔◌, List, [], ◌∷◌}
use Rattle.std.proofs.Common.{refl, sym, ◌∙◌, arith, Bool, true, nat_le, ◌&&◌}
use Rattle.std.proofs.lemmas.Bool.{cases_lt, both_ways, and_parts, and_from, leb-true, le-leb}
use Rattle.task_sheet.proofs.Below.{find_below, some_below-at, least_below_at}
use Rattle.task_sheet.proofs.Common.{ChainFrom, IsFullChain}
use Rattle.task_sheet.specs.Responses.{Covers, IsResponse, IsChain, FullFrom}

-- a demand that is positive and does not fall
pub record DoesNotFall (W : ℕ → ℕ) : Type 0 where
  pub positive : (t : ℕ) → 1 ≤ W t
  pub rises : (t s : ℕ) → t ≤ s → W t ≤ W s

-- a positive number that covers its demand, as a test
abbrev pub covers : (ℕ → ℕ) → ℕ → Bool
covers W t = nat_le 1 t && nat_le (W t) t

pub covers-from : (W : ℕ → ℕ) (t : ℕ) → 1 ≤ t → W t ≤ t → covers W t ≡ true
covers-from W t pos le = and_from _ _ (le-leb 1 t pos) (le-leb (W t) t le)

pub covers-parts : (W : ℕ → ℕ) (t : ℕ) → covers W t ≡ true → (1 ≤ t) × (W t ≤ t)
covers-parts W t h = let both = and_parts _ _ h in (leb-true 1 t both.0, leb-true (W t) t both.1)

pub decide_covers : (W : ℕ → ℕ) (limit : ℕ) → Covers W limit ⊎ ¬ Covers W limit
decide_covers W limit = elim (find_below (limit + 1) (covers W)) [
  | inl found ↦
      let both = covers-parts W found.0 found.2 in
      inl (found.0, both.0, omega (arith, found.1), both.1)
  | inr none ↦
      inr (λ c. both_ways _ (none c.0 (omega (arith, c.2))) (covers-from W c.0 c.1 c.3))
]

-- two responses are one
pub IsResponse-one : (W : ℕ → ℕ) (r s : ℕ) → IsResponse W r → IsResponse W s → r ≡ s
IsResponse-one W r s first second = omega (
  arith,
  first.least s second.positive second.fixed,
  second.least r first.positive first.fixed,
)

module _ (W : ℕ → ℕ) (steady : DoesNotFall W) where
  -- the least time that covers its demand is the response
  response_of_cover : (limit : ℕ) → Covers W limit → (r : ℕ) × IsResponse W r × (r ≤ limit)
  response_of_cover limit c =
      let at = least_below_at (limit + 1) (covers W) (some_below-at (limit + 1) (covers W) c.0
      (omega (arith, c.2)) (covers-from W c.0 c.1 c.3)) in
      let both = covers-parts W at.0 at.2 in
      let first : (s : ℕ) → 1 ≤ s → s < at.0 → s < W s = λ s pos lt. elim (cases_lt s (W s)) [
        | inl short ↦ short
        | inr le ↦ absurd (both_ways _ (at.3 s lt) (covers-from W s pos le))
      ] in (
        at.0,
        record {
          positive = both.0;
          fixed = elim (cases_lt (W at.0) at.0) [
            | inl lt ↦
                let short = first (W at.0) (steady.positive at.0) lt in
                absurd (omega (arith, short, steady.rises (W at.0) at.0 (omega arith)))
            | inr le ↦ omega (arith, both.1)
          ];
          least = λ s pos e. elim (cases_lt s at.0) [
            | inl lt ↦ absurd (omega (arith, first s pos lt))
            | inr le ↦ le
          ];
        },
        omega (arith, at.1),
      )

  pub Covers-iff_response : (limit : ℕ) → Covers W limit ↔ ((r : ℕ) × IsResponse W r × (r ≤ limit))
  Covers-iff_response limit =
      (response_of_cover limit, λ r. (r.0, r.1.positive, r.2, omega (arith, r.1.fixed)))

-- ---- chains
module _ (W : ℕ → ℕ) (rises : (t s : ℕ) → t ≤ s → W t ≤ W s) where
  -- a chain that begins below a time that covers its demand stays below it
  ChainFrom-below : (limit t a : ℕ) (bs : List ℕ) → ChainFrom W limit a bs → a ≤ t → W t ≤ t
      → limit < t
  ChainFrom-below limit t a [] chain le covers = omega (arith, chain)
  ChainFrom-below limit t a (b ∷ bs) chain le covers =
      ChainFrom-below limit t b bs chain.3 (omega (arith, chain.2, rises a t le)) covers

  pub IsChain-fails : (limit : ℕ) (numbers : List ℕ) → IsChain W limit numbers → ¬ Covers W limit
  IsChain-fails limit [] chain c = chain
  IsChain-fails limit (a ∷ bs) chain c =
      let past = ChainFrom-below limit c.0 a bs chain.1 (omega (arith, chain.0, c.1)) c.3 in
      omega (arith, past, c.2)

-- two full chains of one demand and limit are one
FullFrom-one : (W : ℕ → ℕ) (limit a : ℕ) (bs cs : List ℕ) → ChainFrom W limit a bs → FullFrom W a bs
    → ChainFrom W limit a cs → FullFrom W a cs → bs ≡ cs
FullFrom-one W limit a [] [] first full second full' = refl
FullFrom-one W limit a [] (c ∷ cs) first full second full' = absurd (omega (arith, first, second.0))
FullFrom-one W limit a (b ∷ bs) [] first full second full' = absurd (omega (arith, first.0, second))
FullFrom-one W limit a (b ∷ bs) (c ∷ cs) first full second full' =
    let same : c ≡ b = full'.0 ∙ sym full.0 in
    let rest = FullFrom-one W limit b bs cs first.3 full.1 (rw same at second.3)
    (rw same at full'.1) in
    λ i. sym same i ∷ rest i

pub IsFullChain-one : (W : ℕ → ℕ) (limit : ℕ) (xs ys : List ℕ) → IsFullChain W limit xs
    → IsFullChain W limit ys → xs ≡ ys
IsFullChain-one W limit [] ys first second = absurd first.chain
IsFullChain-one W limit (a ∷ bs) [] first second = absurd second.chain
IsFullChain-one W limit (a ∷ bs) (c ∷ cs) first second =
    let same : c ≡ a = second.chain.0 ∙ sym first.chain.0 in
    let rest = FullFrom-one W limit a bs cs first.chain.1 first.full (rw same at second.chain.1)
    (rw same at second.full) in
    λ i. sym same i ∷ rest i

-- ---- where no time covers its demand, there is a full chain
-- the iterates from a on, of which there are at most so many up to the limit
chain_on : (W : ℕ → ℕ) (limit fuel a : ℕ) → ¬ Covers W limit → 1 ≤ a → limit < a + fuel
    → (bs : List ℕ) × ChainFrom W limit a bs × FullFrom W a bs
chain_on W limit zero a none pos near = ([], omega arith, tt)
chain_on W limit (suc fuel) a none pos near =
    elim (cases_lt limit a) [
      | inl past ↦ ([], past, tt)
      | inr within ↦ elim (cases_lt a (W a)) [
        | inl more ↦
            let rest = chain_on W limit fuel (W a) none (omega arith) (omega arith) in
            (W a ∷ rest.0, (within, more, omega arith, rest.1), (refl, rest.2))
        | inr covers ↦ absurd (none (a, pos, within, covers))
      ]
    ]

pub find_full_chain : (W : ℕ → ℕ) (limit : ℕ) → ¬ Covers W limit → (numbers : List ℕ)
    × IsFullChain W limit numbers
find_full_chain W limit none =
    let rest = chain_on W limit limit 1 none (omega arith) (omega arith) in
    (1 ∷ rest.0, record { chain = (refl, rest.1); full = rest.2 })
