use Rattle.std.proofs.Common.{◌∙◌, ◌++◌, ℕ, List, add-one, ap, option_map, subst, string_bytes}
use Rattle.std.proofs.lemmas.List.{get_or_read}
use Rattle.limit_lines.specs.ChainReaches.{AreChainLines, no_chain}
use Rattle.limit_lines.proofs.chained.chains_text.Goals as goal

pub loop-place-preserved : goal.loop-place-preserved
loop-place-preserved c =
    let front : List ℕ = string_bytes c.loop-place.text in
    let lines : List ℕ = string_bytes c.in_ok-lines.lines in
    let read = get_or_read c.args.chains.now c.loop-place.place c.index-chains-place.result
    c.loop-place-test.true c.index-chains-place.is no_chain in
    rw add-one (
      front,
      lines,
      c.loop-place.invariant,
      subst (λ x. AreChainLines c.args.owners.now x c.args.set.now (option_map (λ o. o.now) c.args.order)
          (option_map (λ p. p.now) c.args.places) c.args.asked lines) read c.in_ok-lines.ensures,
      c.in_ok-push_str.ensures.bytes ∙ ap (λ (t : List ℕ). front ++ t) c.as_str.ensures.value,
    )
