-- One receipt more.
use Rattle.std.proofs.Math.Bool.{and-true}
use Rattle.std.proofs.Common.{◌≡◌, ℕ, ◌&&◌, nat_le, List, [], ◌∷◌, ◌++◌, map, sym}
use Rattle.std.proofs.Common.{arith}
use Rattle.std.proofs.lemmas.List.{map_push}
use Rattle.drafts.specs.Machine.{Entry}
use Rattle.book_lock.specs.declared.pass.Receipt.{Receipt}
use Rattle.book_lock.specs.TeamPass.{is_up_to, admitted_version}
use Rattle.book_lock.specs.PassFields.{receipt_of, IsLatest}

-- ---- the latest version
is_up_to-push : (version : ℕ) (rs : List (ℕ × Entry)) (r : ℕ × Entry) → is_up_to version
    (rs ++ r ∷ []) ≡ (is_up_to version rs && nat_le (admitted_version r.1.decision) version)
is_up_to-push version [] r = and-true _
is_up_to-push version (x ∷ rs) r = grind (arith, is_up_to-push version rs r)

-- with one receipt more it is the later one
pub IsLatest-push : (latest next : ℕ) (rs : List (ℕ × Entry)) (r : ℕ × Entry) → IsLatest latest rs
    → ((version : ℕ) → nat_le next version
    ≡ (nat_le latest version && nat_le (admitted_version r.1.decision) version))
    → IsLatest next (rs ++ r ∷ [])
IsLatest-push latest next rs r before is version =
    rw (is_up_to-push version rs r, before version) (sym (is version))

-- so it is of the receipts, with room for one more, to which one is pushed
pub IsLatest-received : (latest next : ℕ) (before roomy after : List Receipt) (r : Receipt)
    → roomy ≡ before → after ≡ roomy ++ r ∷ [] → IsLatest latest (map receipt_of before)
    → ((version : ℕ) → nat_le next version
    ≡ (nat_le latest version && nat_le (admitted_version (receipt_of r).1.decision) version))
    → IsLatest next (map receipt_of after)
IsLatest-received latest next before roomy after r same pushed was is =
    rw (pushed, map_push receipt_of roomy r, same)
    (IsLatest-push latest next (map receipt_of before) (receipt_of r) was is)
