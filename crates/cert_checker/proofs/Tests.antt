-- What tests say; that of a chain holds exactly of chains.
use Rattle.std.proofs.Common.{◌≡◌, ◌≤◌, ℕ, Bool, true, List, [], ◌∷◌}
use Rattle.std.specs.Prelude.{nat_le}
use Rattle.std.specs.Bool.{Decides}
use Rattle.std.proofs.lemmas.Bool.{leb-true, le-leb}
use Rattle.std.proofs.lemmas.Bool.Decides.{Decides-eqb, Decides-ltb, Decides-and}
use Rattle.task_sheet.specs.Responses.{ChainFrom, IsChain}
use Rattle.cert_checker.specs.Chains.{goes_past, are_chain}

pub at_most : (a b : ℕ) → Decides (nat_le a b) (a ≤ b)
at_most a b = (leb-true a b, le-leb a b)

-- a test says what it says
pub as_said : (b : Bool) → Decides b (b ≡ true)
as_said b = (λ h. h, λ h. h)

goes-decides : (W : ℕ → ℕ) (limit a : ℕ) (bs : List ℕ)
    → Decides (goes_past W limit a bs) (ChainFrom W limit a bs)
goes-decides W limit a [] = Decides-ltb limit a
goes-decides W limit a (b ∷ bs) =
    let all = Decides-and _ _ (Decides-and _ _ (Decides-and _ _ (at_most a limit)
    (Decides-ltb a b)) (at_most b (W a))) (goes-decides W limit b bs) in (
      λ h. let p = all.0 h in (p.0.0.0, p.0.0.1, p.0.1, p.1),
      λ h. all.1 (((h.0, h.1), h.2), h.3),
    )

pub chain-decides : (W : ℕ → ℕ) (limit : ℕ) (numbers : List ℕ)
    → Decides (are_chain W limit numbers) (IsChain W limit numbers)
chain-decides W limit [] = (λ h. absurd cc, λ h. absurd h)
chain-decides W limit (a ∷ bs) = Decides-and _ _ (Decides-eqb a 1) (goes-decides W limit a bs)
