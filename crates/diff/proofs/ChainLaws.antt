-- Where no line speaks of a chain, none has changed.
use Rattle.std.proofs.Common.{◌≡◌, ◌∙◌, ℕ, zero, suc, inl, inr, true, nat_lt, List, [], ◌∷◌, ◌++◌, All}
use Rattle.std.proofs.Common.{Option, Some, None, get_or, refl, sym, ap, arith}
use Rattle.std.proofs.lemmas.Bool.{cases_Bool, ltb-false}
use Rattle.task_sheet.specs.Sheet.{Task}
use Rattle.chains.specs.Parts.{bound_in}
use Rattle.chains.specs.declared.bounds.Level.{Level}
use Rattle.chain_tables.specs.Chains.{ChainData}
use Rattle.diff.specs.Chains.{bound_effect, chain_changes, chain_edit, chain_edit_of, chain_effect, chain_gone}
use Rattle.diff.specs.Chains.{chain_gone_to, chain_kept, chain_moved, chain_named, chain_other, chain_rest}
use Rattle.diff.specs.Chains.{chain_keys, chain_rest_of, chain_words, each_chain, same_chain}
use Rattle.diff.specs.ChainsKept.{AreChainsKept, HasNamed, IsChainKept, IsSameBound}
use Rattle.diff.specs.declared.text.Kind.{Kind}
use Rattle.diff.specs.declared.text.Kind.TheVariants.{Removed, Added, Changed, Slower, Faster}
use Rattle.diff.proofs.SilentLaws.{no_back, no_front, some_line}

-- ---- each chain's line is empty
each_silent : (line : ChainData → List ℕ) (chains : List ChainData) → each_chain line chains ≡ []
    → All (λ chain. line chain ≡ []) chains
each_silent line [] none k d lt = absurd (omega (arith, lt))
each_silent line (chain ∷ chains) none zero d lt =
    no_front (line chain) (each_chain line chains) none
each_silent line (chain ∷ chains) none (suc k) d lt = each_silent line chains
    (no_back (line chain) (each_chain line chains) none) k d (omega (arith, lt))

-- a fact of each gives another; and two do
each_of : (P R : ChainData → Type 0) (chains : List ChainData)
    → ((chain : ChainData) → P chain → R chain) → All P chains → All R chains
each_of P R chains give p k d lt = give (get_or chains k d) (p k d lt)

each_of_both : (P Q R : ChainData → Type 0) (chains : List ChainData)
    → ((chain : ChainData) → P chain → Q chain → R chain) → All P chains → All Q chains → All R chains
each_of_both P Q R chains give p q k d lt = give (get_or chains k d) (p k d lt) (q k d lt)

-- ---- none is gone
still_named : (U : List Task) (was : List Level) (old : ChainData) (o : Option ChainData)
    → chain_gone_to U was old o ≡ [] → (new : ChainData) × (o ≡ Some new)
still_named U was old (Some new) none = (new, refl)
still_named U was old None none =
    absurd (some_line (chain_words Removed old.name (bound_in old.writes old.offsets U was old.tasks) old.limit None None) none)

-- ---- each new one was there before, and says the same
was_named : (U : List Task) (was : List Level) (o : Option ChainData) (V : List Task) (is : List Level)
    (new : ChainData) → chain_edit_of U was o V is new ≡ [] → (old : ChainData) × (o ≡ Some old)
was_named U was (Some old) V is new none = (old, refl)
was_named U was None V is new none =
    absurd (some_line (chain_words Added new.name None None (bound_in new.writes new.offsets V is new.tasks) new.limit) none)

says_same : (U : List Task) (was : List Level) (old : ChainData) (V : List Task) (is : List Level)
    (new : ChainData) → chain_other U was old V is new ≡ [] → same_chain U old V new ≡ true
says_same U was old V is new none =
    elim (cases_Bool (same_chain U old V new)) [
      | inl same ↦ same
      | inr other ↦ absurd (some_line
          (chain_words Changed new.name (bound_in old.writes old.offsets U was old.tasks) old.limit (bound_in new.writes new.offsets V is new.tasks) new.limit
          ++ chain_keys U old V new)
          (rw other at none))
    ]

-- ---- nothing becomes of its bound
no_effect : (new : ChainData) (was is : ℕ) (o : Option Kind) → chain_effect new was is o ≡ [] → o ≡ None
no_effect new was is None none = refl
no_effect new was is (Some kind) none =
    absurd (some_line (chain_words kind new.name (Some was) new.limit (Some is) new.limit) none)

bound_stays : (was is : ℕ) → bound_effect was is ≡ None → was ≡ is
bound_stays was is none =
    elim (cases_Bool (nat_lt was is)) [
      | inl slower ↦ let never : Some Slower ≡ None = (rw slower at none) in absurd (cc)
      | inr not_slower ↦ elim (cases_Bool (nat_lt is was)) [
        | inl faster ↦ let never : Some Faster ≡ None = (rw (not_slower, faster) at none) in absurd (cc)
        | inr not_faster ↦ omega (arith, ltb-false was is not_slower, ltb-false is was not_faster)
      ]
    ]

same_bound : (new : ChainData) (was is : Option ℕ) → chain_moved new was is ≡ [] → IsSameBound was is
same_bound new None None none = tt
same_bound new None (Some is) none = tt
same_bound new (Some was) None none = tt
same_bound new (Some was) (Some is) none =
    bound_stays was is (no_effect new was is (bound_effect was is) none)

-- ---- all
module _ (U : List Task) (was : List Level) (olds : List ChainData) (V : List Task)
    (is : List Level) (news : List ChainData) where
  kept_at : (new old : ChainData) → chain_named olds new.name ≡ Some old → chain_edit U was olds V is new ≡ []
      → chain_rest U was olds V is new ≡ [] → IsChainKept U was olds V is new
  kept_at new old named edit rest =
      let other : chain_other U was old V is new ≡ [] =
      ap (λ o. chain_edit_of U was o V is new) (sym named) ∙ edit in
      let same : same_chain U old V new ≡ true = says_same U was old V is new other in
      let stays : chain_kept U was old V is new ≡ [] =
      ap (λ o. chain_rest_of U was o V is new) (sym named) ∙ rest in
      record {
        old = old;
        named = named;
        same = same;
        bound = same_bound new (bound_in old.writes old.offsets U was old.tasks) (bound_in new.writes new.offsets V is new.tasks) (rw same at stays);
      }

  kept : (new : ChainData) → chain_edit U was olds V is new ≡ [] → chain_rest U was olds V is new ≡ []
      → IsChainKept U was olds V is new
  kept new edit rest =
      let before = was_named U was (chain_named olds new.name) V is new edit in
      kept_at new before.0 before.1 edit rest

  pub silent_keeps_chains : chain_changes U was olds V is news ≡ [] → AreChainsKept U was olds V is news
  silent_keeps_chains silent =
      let gone : List ℕ = each_chain (chain_gone U was news) olds in
      let edits : List ℕ = each_chain (chain_edit U was olds V is) news in
      let rests : List ℕ = each_chain (chain_rest U was olds V is) news in
      let front : gone ++ edits ≡ [] = no_front (gone ++ edits) rests silent in
      record {
        none_gone = each_of (λ old. chain_gone U was news old ≡ []) (HasNamed news) olds
            (λ old none. still_named U was old (chain_named news old.name) none)
            (each_silent (chain_gone U was news) olds (no_front gone edits front));
        all_kept = each_of_both (λ new. chain_edit U was olds V is new ≡ [])
            (λ new. chain_rest U was olds V is new ≡ []) (IsChainKept U was olds V is) news kept
            (each_silent (chain_edit U was olds V is) news (no_back gone edits front))
            (each_silent (chain_rest U was olds V is) news (no_back (gone ++ edits) rests silent));
      }
