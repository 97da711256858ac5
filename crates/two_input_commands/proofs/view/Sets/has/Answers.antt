use Rattle.std.proofs.Common.{◌≡◌, ◌∙◌, ◌||◌, Option, ℕ, true, false, ap, is_some, sym}
use Rattle.ceiling_kernel.specs.Releases.{task_named}
use Rattle.two_input_commands.proofs.RowNames.{named_in_both}
use Rattle.two_input_commands.proofs.view.Sets.has.Goals as goal

pub returns-then-is_old : goal.returns-then-is_old
returns-then-is_old c =
    let U = c.args.self.old.now in
    let V = c.in-Some.new.now in
    let name = c.args.name in
    let found = ap (λ (o : Option ℕ). is_some o) c.find.ensures in
    let old : is_some (task_named U name) ≡ true =
    sym (c.is_some-is_old.ensures ∙ found) ∙ c.if-is_old.true in
    rw c.in-Some.is (c.if-is_old.true
    ∙ sym (named_in_both U V name ∙ ap (λ b. b || is_some (task_named V name)) old))

pub returns-else-is_old : goal.returns-else-is_old
returns-else-is_old c =
    let U = c.args.self.old.now in
    let V = c.in-Some.new.now in
    let name = c.args.name in
    let found = ap (λ (o : Option ℕ). is_some o) c.find.ensures in
    let new : c.is_some.result ≡ is_some (task_named V name) =
    c.is_some.ensures ∙ ap (λ (o : Option ℕ). is_some o) c.find-else-is_old.ensures in
    let old : is_some (task_named U name) ≡ false =
    sym (c.is_some-is_old.ensures ∙ found) ∙ c.if-is_old.false in
    rw c.in-Some.is (new
    ∙ sym (named_in_both U V name ∙ ap (λ b. b || is_some (task_named V name)) old))
