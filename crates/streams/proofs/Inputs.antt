-- What the reads of an input have taken.
use Rattle.std.proofs.Common.{◌≡◌, ℕ, ◌+◌, ◌<◌, ◌≤◌, List, [], ◌++◌, length, take, Option, Some}
use Rattle.std.proofs.Common.{None, IfSome, sym, ◌∙◌, arith, append-nil, length-append, length-take}
use Rattle.std.specs.Io.KnownBytes.{Consumes, IsAtEnd}

-- at the end all is taken
pub whole : (a b d : Option (List ℕ)) (bs buf : List ℕ) (n : ℕ) → Consumes a b bs
    → Consumes b d (take n buf) → n ≡ 0 → IsAtEnd d → IfSome a (λ xs. bs ≡ xs)
whole None b d bs buf n p q e last = tt
whole (Some x) None d bs buf n p q e last = absurd p
whole (Some x) (Some y) None bs buf n p q e last = absurd q
whole (Some x) (Some y) (Some z) bs buf n p q e last =
    let none : take n buf ≡ [] = rw e in
    let left : y ≡ [] = rw (none, last) at q in
    sym (p ∙ rw (left, append-nil bs))

-- where a read gives more than fits, there is more than fits
pub longer : (a b d : Option (List ℕ)) (bs buf : List ℕ) (n most : ℕ) → Consumes a b bs → Consumes b
    d (take n buf) → n ≤ length buf → most < length bs + n → IfSome a (λ xs. most < length xs)
longer None b d bs buf n most p q fits more = tt
longer (Some x) None d bs buf n most p q fits more = absurd p
longer (Some x) (Some y) None bs buf n most p q fits more = absurd q
longer (Some x) (Some y) (Some z) bs buf n most p q fits more =
    rw (p, q) (omega (
      arith,
      length-append bs (take n buf ++ z),
      length-append (take n buf) z,
      length-take n buf,
    ))
