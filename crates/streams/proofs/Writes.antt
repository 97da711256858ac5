-- Writes one after the other.
use Rattle.std.proofs.Common.{◌≡◌, ℕ, List, ◌++◌, ◌∙◌, Option}
use Rattle.std.specs.Prelude.{⊤, Bool, Result, Ok, Err, OnOk}
use Rattle.std.specs.Io.KnownBytes.{Appends, append_known}
use Rattle.std.proofs.KnownBytes.{Appends-trans}
use Rattle.streams.specs.Sending.{Writes}
use Rattle.streams.specs.Watching.{WatchedData}
use Rattle.streams.specs.declared.watched.WriteFailed.{WriteFailed}

sends_both : (r : Result ⊤ WriteFailed) (a b c : Option (List ℕ)) (xs ys : List ℕ)
    → Appends a b xs → OnOk r (Appends b c ys) → OnOk r (Appends a c (xs ++ ys))
sends_both (Ok x) a b c xs ys one two = Appends-trans a b c xs ys one two
sends_both (Err x) a b c xs ys one two = tt

keeps_flag : (r : Result ⊤ WriteFailed) (a b c : Bool) → b ≡ a → OnOk r (c ≡ b) → OnOk r (c ≡ a)
keeps_flag (Ok x) a b c one two = two ∙ one
keeps_flag (Err x) a b c one two = tt

-- two texts, the last of which may have failed
pub writes_both : {W : Type 0} {contents : W → Option (List ℕ)} {a b c : WatchedData W}
    {h i j : List ℕ} {u : ⊤} {r : Result ⊤ WriteFailed} {xs ys : List ℕ}
    → Writes contents a h b i (Ok u) xs → Writes contents b i c j r ys
    → Writes contents a h c j r (xs ++ ys)
writes_both {contents = contents} {a = a} {b = b} {c = c} {h = h} {i = i} {j = j} {r = r} {xs = xs}
    {ys = ys} one two = record {
      sent = sends_both r (append_known (contents a.inner) h) (append_known (contents b.inner) i)
          (append_known (contents c.inner) j) xs ys one.sent two.sent;
      ok = keeps_flag r a.has_failed b.has_failed c.has_failed one.ok two.ok;
      failed = two.failed;
    }
