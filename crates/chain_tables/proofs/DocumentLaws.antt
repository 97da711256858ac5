-- What is answered of the documents of teams behind the node's.
use Rattle.std.proofs.Common.{◌≡◌, ◌≢◌, ℕ, Bool, true, List, Result, Ok, Err, IfErr, inl, inr, refl, sym, subst}
use Rattle.teams.specs.Gathering.{IsNodePart}
use Rattle.teams.specs.ReadsText.{is_gathered}
use Rattle.chain_tables.specs.Tables.{WrittenData}
use Rattle.chain_tables.specs.Documents.{IsFaulty, ReadsIf, ReadsTeams, ReadsWritten, Says}
use Rattle.chain_tables.specs.declared.fault.ChainFault.{ChainFault}
use Rattle.chain_tables.specs.declared.fault.ChainFault.TheVariants.{OutOfMemory}
use Rattle.chain_tables.specs.declared.fault.Whose.TheVariants.{Node}

-- a fault of the node's is one of the text
pub node-faulty : (text document after : List ℕ) (e : ChainFault) → is_gathered text ≡ true
    → IsNodePart text document after → IsFaulty Node document e → ReadsWritten text (Err e)
node-faulty text document after e gathered part faulty =
    subst (λ (b : Bool). ReadsIf b text (Err e)) (sym gathered)
    (inl (document, after, part, inr (e, faulty, refl)))

-- a fault behind it is one of the text
pub node-fails : {T : Type 0} (text document after : List ℕ) (own : List WrittenData)
    (r : Result T ChainFault) → is_gathered text ≡ true → IsNodePart text document after
    → Says Node document own → IfErr r (λ e. e ≢ OutOfMemory → ReadsTeams after own (Err e))
    → IfErr r (λ e. e ≢ OutOfMemory → ReadsWritten text (Err e))
node-fails text document after own (Ok x) gathered part says reads = tt
node-fails text document after own (Err e) gathered part says reads = λ other.
    subst (λ (b : Bool). ReadsIf b text (Err e)) (sym gathered)
    (inl (document, after, part, inl (own, says, reads other)))
