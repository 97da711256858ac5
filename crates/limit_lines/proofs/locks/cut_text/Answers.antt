use Rattle.std.proofs.Common.{◌≡◌, ◌++◌, ◌∙◌, ap, codes, List, Option, option_map, rules, string_bytes, sym, true, ℕ}
use Rattle.owners.specs.Followers.{follows}
use Rattle.limits.specs.Cuts.{longest_on}
use Rattle.limit_lines.specs.Locks.{is_cut_told, lock_line}
use Rattle.limit_lines.proofs.locks.cut_text.Goals as goal

pub returns : goal.returns
returns c =
    let U = c.args.set.now in
    let order : Option (List ℕ) = option_map (λ o. o.now) c.args.order in
    let own = c.in_ok-own.own in
    let most = c.in_ok-most.most in
    let whose : List ℕ = codes "lock " ++ c.args.lock in
    let told : is_cut_told order (longest_on c.args.lock U) own ≡ true =
    sym (rw c.requires.longest at c.is_cut_told.ensures) ∙ c.if-not-is_cut_told.false in
    let said : string_bytes c.push_lock.new.text ≡ lock_line whose c.args.longest own most =
    search rules in (
      own,
      c.in_ok-own.ensures,
      rw told (
        most,
        rw c.tasks.ensures at (c.in_ok-most.ensures (follows c.args.owners.now)),
        said ∙ ap (λ n. lock_line whose n own most) c.requires.longest,
      ),
    )
