use Rattle.std.proofs.Common.{◌≡◌, ◌∙◌, false, true, rules, option_map, sym}
use Rattle.limit_lines.specs.Common.{is_shared_told}
use Rattle.limit_lines.proofs.common.shared_text.Goals as goal

pub returns-then-not-is_shared_told : goal.returns-then-not-is_shared_told
returns-then-not-is_shared_told c =
    let told : is_shared_told (option_map (λ o. o.now) c.args.order) c.in_ok-own.own ≡ false =
    sym c.is_shared_told.ensures ∙ c.if-not-is_shared_told.true in
    (c.in_ok-own.own, c.in_ok-own.ensures, rw told (search rules))

pub returns : goal.returns
returns c =
    let told : is_shared_told (option_map (λ o. o.now) c.args.order) c.in_ok-own.own ≡ true =
    sym c.is_shared_told.ensures ∙ c.if-not-is_shared_told.false in (
      c.in_ok-own.own,
      c.in_ok-own.ensures,
      rw told (c.in_ok-most.most, c.in_ok-most.ensures, search rules),
    )
