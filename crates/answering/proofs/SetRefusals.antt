-- Why bytes say no set is why their readers have none.
use Rattle.std.proofs.Common.{ℕ, List, Option, Err}
use Rattle.streams.specs.Inputs.{IsReadFrom, IsReadUpTo}
use Rattle.preferences.specs.ReadsAsked.{ReadsAsked}
use Rattle.preferences.specs.declared.asking.Asking.{Asking}
use Rattle.preferences.specs.declared.asking.AskedFault.{AskedFault}
use Rattle.preferences.specs.declared.asking.AskedFault.TheVariants.{Text, Doubt, Chain}
use Rattle.answering.specs.Sets.{HasNoSet, HaveNotBoth, IsNoSet, asked_refusal}
use Rattle.answering.specs.declared.refusal.CommandRefusal.{CommandRefusal}
use Rattle.answering.specs.declared.refusal.CommandRefusal.TheVariants as refusal

-- the fault of a set as it is asked for, as a refusal
pub refused_as : (asking : Asking) (bytes : List ℕ) (fault : AskedFault)
    → ReadsAsked asking bytes (Err fault) → IsNoSet asking bytes (asked_refusal fault)
refused_as asking bytes (Text fault) reads = reads
refused_as asking bytes (Doubt doubt) reads = reads
refused_as asking bytes (Chain fault) reads = reads

-- once the input was read
pub one_refused : (asking : Asking) (known : Option (List ℕ)) (bytes : List ℕ)
    → IsReadFrom known bytes → (r : CommandRefusal) → IsNoSet asking bytes r
    → HasNoSet asking known r
one_refused asking known bytes read (refusal.Set fault) reads = (bytes, read, reads)
one_refused asking known bytes read (refusal.Doubtful doubt) reads = (bytes, read, reads)
one_refused asking known bytes read (refusal.Chain fault) reads = (bytes, read, reads)
one_refused asking known bytes read refusal.OutOfMemory reads = tt
one_refused asking known bytes read _ reads = absurd reads

-- once both were
pub both_refused : (most : ℕ) (asking : Asking) (set other : Option (List ℕ)) (bytes text : List ℕ)
    → IsReadFrom set bytes → IsReadUpTo most other text → (r : CommandRefusal) → IsNoSet asking bytes r
    → HaveNotBoth most asking set other r
both_refused most asking set other bytes text first second (refusal.Set fault) reads =
    (bytes, text, first, second, reads)
both_refused most asking set other bytes text first second (refusal.Doubtful doubt) reads =
    (bytes, text, first, second, reads)
both_refused most asking set other bytes text first second (refusal.Chain fault) reads =
    (bytes, text, first, second, reads)
both_refused most asking set other bytes text first second refusal.OutOfMemory reads = tt
both_refused most asking set other bytes text first second _ reads = absurd reads
