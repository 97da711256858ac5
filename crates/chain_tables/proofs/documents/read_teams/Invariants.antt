use Rattle.std.proofs.Common.{List, Result, length}
use Rattle.chain_tables.specs.Tables.{WrittenData}
use Rattle.chain_tables.specs.Documents.{ReadsTeams}
use Rattle.chain_tables.specs.declared.fault.ChainFault.{ChainFault}
use Rattle.chain_tables.proofs.documents.read_teams.Given as goal

abbrev pub invariant-loop-part : goal.invariant-loop-part
invariant-loop-part l = (answer : Result (List WrittenData) ChainFault)
    → ReadsTeams l.rest l.chains.items answer → ReadsTeams l.text l.fn.chains.items answer

abbrev pub decreases-loop-part : goal.decreases-loop-part
decreases-loop-part l = length l.rest
