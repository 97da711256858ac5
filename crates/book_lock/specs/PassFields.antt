-- How a `Pass` keeps what it knows.
use Rattle.std.specs.Prelude.{◌≡◌, ℕ, nat_le, List}
use Rattle.drafts.specs.Machine.{Entry}
use Rattle.book_lock.specs.TeamPass.{is_up_to}
use Rattle.book_lock.specs.declared.pass.Receipt.{Receipt}

-- a receipt, as its place and its entry
abbrev pub receipt_of : Receipt → ℕ × Entry
receipt_of r = (r.place, r.entry.value)

-- the latest version to which a receipt admits
abbrev pub IsLatest : ℕ → List (ℕ × Entry) → Type 0
IsLatest latest receipts = (version : ℕ) → is_up_to version receipts ≡ nat_le latest version
