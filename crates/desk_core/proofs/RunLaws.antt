-- Runs go on.
use Rattle.std.proofs.Common.{◌≡◌, ◌∙◌, ℕ, List, [], ◌∷◌, ◌++◌, length, append-nil, sym, refl}
use Rattle.std.proofs.Common.{subst, arith}
use Rattle.desk_core.specs.declared.events.Event.{Event}
use Rattle.desk_core.specs.declared.events.Reply.{Reply}
use Rattle.desk_core.specs.World.{World, Happens, IsRun}

pub IsRun-append : (w u v : World) (es fs : List Event) (rs ss : List Reply) → IsRun w es rs u
    → IsRun u fs ss v → IsRun w (es ++ fs) (rs ++ ss) v
IsRun-append w u v [] fs [] ss run more = subst (λ (x : World). IsRun x fs ss v) run more
IsRun-append w u v [] fs (r ∷ rs) ss run more = absurd run
IsRun-append w u v (e ∷ es) fs [] ss run more = absurd run
IsRun-append w u v (e ∷ es) fs (r ∷ rs) ss run more =
    (run.0, run.1, IsRun-append run.0 u v es fs rs ss run.2 more)

pub IsRun-push : (w u v : World) (es : List Event) (rs : List Reply) (e : Event) (r : Reply)
    → IsRun w es rs u → Happens u e r v → IsRun w (es ++ e ∷ []) (rs ++ r ∷ []) v
IsRun-push w u v es rs e r run next = IsRun-append w u v es (e ∷ []) rs (r ∷ []) run (v, next, refl)

-- nothing is left
pub all_done : (done left all : List Event) (count : ℕ) → done ++ left ≡ all → length left ≡ count
    → count ≡ 0 → done ≡ all
all_done done [] all count same counted none = sym (append-nil done) ∙ same
all_done done (e ∷ left) all count same counted none = absurd (omega arith)
