use Rattle.std.proofs.Common.{◌≡◌, ℕ, ◌+◌, ◌<◌, arith}
use Rattle.std.specs.Prelude.{nat_lt, nat_le, ◌-◌}
use Rattle.picture.proofs.laws.misses_are_shown.Goals as goal

done_later : (finish arrival deadline : ℕ)
    → nat_lt deadline (finish - arrival) ≡ nat_lt (arrival + deadline) finish
done_later finish arrival deadline = grind arith

still_open : (end arrival deadline : ℕ) → 0 < deadline
    → nat_le deadline (end - arrival) ≡ nat_le (arrival + deadline) end
still_open end arrival deadline some = grind (arith, some)

pub returns : goal.returns
returns c = λ f row job some. (
  λ finish is. rw is (done_later finish job.release row.sheet.deadline),
  λ is. rw is (still_open f.until job.release row.sheet.deadline some),
)
