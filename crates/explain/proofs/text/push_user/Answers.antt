use Rattle.std.proofs.Common.{◌≡◌, ◌∙◌, ◌++◌, List, ℕ, ap, sym, append_assoc, codes, string_bytes}
use Rattle.std.proofs.lemmas.Result.{on_ok_weaker}
use Rattle.lines.specs.Naming.{name_at}
use Rattle.explain.specs.Parts.{AboveData}
use Rattle.explain.specs.ExplanationLines.{user_words}
use Rattle.explain.proofs.text.push_user.Goals as goal

pub returns-in_ok-push_str-in-Some : goal.returns-in_ok-push_str-in-Some
returns-in_ok-push_str-in-Some c =
    let before : List ℕ = string_bytes c.args.text.now in
    let name : List ℕ = name_at c.args.set.now c.in-Some.user.task in
    let is : user_words c.args.set.now c.args.user ≡ codes ", ceiling by " ++ name =
    ap (user_words c.args.set.now) c.in-Some.is in
    let name2 : List ℕ = name_at c.args.set.now c.user.inside.task in
    let alike : name2 ≡ name =
    ap (λ (a : AboveData). name_at c.args.set.now a.task) c.user.view_is in
    let sent : string_bytes c.push_str.new.self ≡ before ++ codes ", ceiling by " =
    c.in_ok-push_str-in-Some.ensures.bytes in
    on_ok_weaker c.push_name.result
    (λ e. e ∙ ap (λ b. b ++ name2) sent ∙ ap (λ n. (before ++ codes ", ceiling by ") ++ n) alike
    ∙ append_assoc before (codes ", ceiling by ") name ∙ ap (λ w. before ++ w) (sym is))
    c.push_name.ensures
