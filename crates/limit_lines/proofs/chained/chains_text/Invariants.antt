use Rattle.std.proofs.Common.{option_map, string_bytes}
use Rattle.limit_lines.specs.ChainReaches.{AreChainsLines}
use Rattle.limit_lines.proofs.chained.chains_text.Given as goal

abbrev pub invariant-loop-place : goal.invariant-loop-place
invariant-loop-place l =
    AreChainsLines l.owners l.chains l.set (option_map (λ o. o.now) l.order) (option_map (λ p. p.now) l.places)
    l.asked l.place (string_bytes l.text)
