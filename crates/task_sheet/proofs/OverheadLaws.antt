-- What the calls on locks take, section by section.
use Rattle.std.proofs.Common.{◌≡◌, ℕ, zero, suc, ◌+◌, ◌<◌, ◌≤◌, List, [], ◌∷◌, length, get_or, take}
use Rattle.std.proofs.Common.{sym, ◌∙◌, ap, arith}
use Rattle.std.proofs.Math.Nat.{mul-le-mul_left}
use Rattle.std.proofs.lemmas.List.Sums.{sum_by_more}
use Rattle.task_sheet.specs.declared.node.Node.{Node}
use Rattle.task_sheet.proofs.Common.{CriticalSection, AreSections, calls, calls_in}

pub calls-more : (node : Node) (xs : List CriticalSection) (i : ℕ) (x : CriticalSection)
    → i < length xs → x ≡ get_or xs i x
    → calls_in node (take (i + 1) xs) ≡ calls_in node (take i xs) + calls node x
calls-more node xs i x lt is =
    sum_by_more (calls node) xs i x lt
    ∙ ap (λ (y : CriticalSection). calls_in node (take i xs) + calls node y) (sym is)

-- a valid sheet's sections have few locks
pub locks-few : (from cost : ℕ) (xs : List CriticalSection) (i : ℕ) (x : CriticalSection)
    → AreSections from cost xs → i < length xs → x ≡ get_or xs i x → length x.locks ≤ 4
locks-few from cost [] i x valid lt is = absurd (omega arith)
locks-few from cost (y ∷ xs) zero x valid lt is = let same =
    ap (λ (s : CriticalSection). length s.locks) is in omega (arith, valid.0.few)
locks-few from cost (y ∷ xs) (suc i) x valid lt is =
    locks-few (y.at + y.len) cost xs i x valid.1 (omega arith) is

pub calls-fit : (node : Node) (x : CriticalSection) → node.lock ≤ 10000000 → length x.locks ≤ 4
    → calls node x ≤ 40000000
calls-fit node x short few = omega (arith, mul-le-mul_left node.lock few, short)
