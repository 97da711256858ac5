use Rattle.std.proofs.Common.{◌∙◌, ◌++◌, ℕ, List, Option, ap, ap₂, append_assoc, option_map}
use Rattle.drawn_ways.specs.Stands.{age_of}
use Rattle.drawn_ways.specs.WaySigns.{signed}
use Rattle.drawn_ways.specs.WayTexts.{chain_line, ground_of, way_of, ways_of}
use Rattle.drawn_ways.specs.declared.style.TheConstants.{STYLE}
use Rattle.drawn_ways.proofs.way.drawn_of.Goals as goal

pub returns : goal.returns
returns c =
    let ground = ground_of c.args.ground.now in
    let way = way_of c.args.way.now in
    c.in_ok-put_chain_line.ensures ∙ ap₂ (λ (l : List ℕ) (age : Option ℕ). l ++ chain_line ground way age)
    (c.in_ok-put_signed.ensures ∙ ap₂ (λ (l ways : List ℕ). l ++ signed way.writes ways)
    (c.in_ok-push_str.ensures.bytes ∙ ap (λ (l : List ℕ). l ++ STYLE.now) c.new-text.ensures.bytes)
    (c.as_str.ensures.value ∙ c.in_ok-ways.ensures)) c.age_if.ensures
    ∙ append_assoc STYLE.now (signed way.writes (ways_of ground way c.args.stand))
    (chain_line ground way (option_map age_of c.args.stand))
