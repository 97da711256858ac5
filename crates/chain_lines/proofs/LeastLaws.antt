-- The least bounds that are told of chains, one chain after the other; and what one says of all orders.
use Rattle.std.proofs.Common.{◌≡◌, ◌∙◌, ℕ, ◌+◌, ◌<◌, ◌≤◌, false, List, [], ◌∷◌, ◌++◌, length, get_or, drop}
use Rattle.std.proofs.Common.{Option, Some, None, append_assoc, append-nil, refl, sym, ap, subst, arith}
use Rattle.std.proofs.lemmas.Bool.{lt-leb}
use Rattle.std.proofs.lemmas.List.{at_drop_more, at_drop_all}
use Rattle.std.proofs.lemmas.Option.{none-some}
use Rattle.task_sheet.proofs.Common.{Task}
use Rattle.chains.specs.Parts.{bound_in}
use Rattle.chains.specs.declared.bounds.Level.{Level}
use Rattle.chains.specs.declared.bounds.Writes.{Writes}
use Rattle.chains.specs.declared.bounds.Writes.TheVariants.{AtDeadline}
use Rattle.chain_tables.specs.Chains.{ChainData}
use Rattle.least_chains.specs.LeastBound.{ArePassing, IsLeastBound}
use Rattle.least_chains.proofs.BoundLaws.{deadlines-reach, least-held, least-none}
use Rattle.chain_lines.specs.ChainLines.{chain_bound, is_met}
use Rattle.chain_lines.specs.Leasts.{AreLeast, IsLeastTold}

module _ (U : List Task) (levels : List Level) where
  -- these go on with those of the chains that are left
  abbrev pub GoesOn : List ChainData → ℕ → List (Option ℕ) → Type 0
  GoesOn chains k leasts = (rest : List (Option ℕ)) → AreLeast U levels (drop k chains) rest
      → AreLeast U levels chains (leasts ++ rest)

  pub goes-on : (chains : List ChainData) (k : ℕ) (chain : ChainData) (leasts leasts' : List (Option ℕ))
      (least : Option ℕ) → k < length chains → chain ≡ get_or chains k chain
      → leasts' ≡ leasts ++ least ∷ []
      → IsLeastTold (is_met (chain_bound U levels chain) chain.limit) U chain least
      → GoesOn chains k leasts → GoesOn chains (k + 1) leasts'
  goes-on chains k chain leasts leasts' least lt item pushed is so rest more =
      let left : drop k chains ≡ chain ∷ drop (k + 1) chains =
      at_drop_more (λ xs. xs) chains k chain lt ∙ ap (λ x. x ∷ drop (k + 1) chains) (sym item) in
      subst (λ xs. AreLeast U levels chains xs)
      (sym (append_assoc leasts (least ∷ []) rest) ∙ ap (λ xs. xs ++ rest) (sym pushed))
      (so (least ∷ rest) (subst (λ xs. AreLeast U levels xs (least ∷ rest)) (sym left) (is, more)))

  pub ends : (chains : List ChainData) (k : ℕ) (leasts : List (Option ℕ)) → length chains ≤ k
      → GoesOn chains k leasts → AreLeast U levels chains leasts
  ends chains k leasts past so =
      let left : drop k chains ≡ [] = at_drop_all (λ xs. xs) chains k past in
      subst (λ xs. AreLeast U levels chains xs) (append-nil leasts)
      (so [] (subst (λ xs. AreLeast U levels xs []) (sym left) refl))

  -- where the least bound is past the limit, no bound is within it
  pub never-met : (writes : Writes) (offsets tasks : List ℕ) (least limit : ℕ)
      → IsLeastBound writes offsets U tasks (Some least) → limit < least → ArePassing U levels
      → is_met (bound_in writes offsets U levels tasks) (Some limit) ≡ false
  never-met writes offsets tasks least limit is past are = by (bound_in writes offsets U levels tasks) refl
    where
      by : (o : Option ℕ) → bound_in writes offsets U levels tasks ≡ o → is_met o (Some limit) ≡ false
      by None said = refl
      by (Some bound) said =
          lt-leb bound limit
          (omega (arith, past, least-held writes U offsets tasks least bound levels is are said))

  -- at deadlines it is the bound
  pub least-is : (offsets tasks : List ℕ) (bound : ℕ) (least : Option ℕ)
      → bound_in AtDeadline offsets U levels tasks ≡ Some bound
      → IsLeastBound AtDeadline offsets U tasks least → least ≡ Some bound
  least-is offsets tasks bound None said is =
      absurd (none-some bound (sym (least-none AtDeadline U offsets tasks levels is) ∙ said))
  least-is offsets tasks bound (Some least) said is =
      ap Some (deadlines-reach U offsets tasks least bound levels is said)
