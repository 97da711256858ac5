use Rattle.std.proofs.Common.{◌≡◌, ◌∙◌, ◌+◌, ◌++◌, ℕ, List, ap, append_assoc, drop, string_bytes, sym}
use Rattle.std.proofs.lemmas.List.{at_drop_more}
use Rattle.frames.specs.declared.tones.Toned.{Toned}
use Rattle.drawn_jobs.specs.Stripes.{lock_text, lock_texts}
use Rattle.drawn_jobs.proofs.stripes.put_lock_texts.Goals as goal

pub loop-i-preserved : goal.loop-i-preserved
loop-i-preserved c =
    let i : ℕ = c.loop-i.i in
    let locks : List Toned = c.args.locks.now in
    let lock : Toned = c.index-locks-i.result in
    let before : List ℕ = string_bytes c.loop-i.text in
    let here : Toned → List ℕ = λ lock. lock_text c.args.frame c.args.bottom i lock in
    let rest : List ℕ = lock_texts c.args.frame c.args.bottom (i + 1) (drop (i + 1) locks) in
    let next : lock_texts c.args.frame c.args.bottom i (drop i locks) ≡ here lock ++ rest =
    at_drop_more (lock_texts c.args.frame c.args.bottom i) locks i lock c.loop-i-test.true
    ∙ ap (λ (x : Toned). here x ++ rest) (sym c.index-locks-i.is) in
    ap (λ (l : List ℕ). l ++ rest) c.in_ok-put_lock.ensures
    ∙ append_assoc before (here lock) rest
    ∙ ap (λ (l : List ℕ). before ++ l) (sym next)
    ∙ c.loop-i.invariant
