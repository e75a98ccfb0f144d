use Rattle.tac_emit.specs.Parts.{parts}
use Rattle.tac_emit.proofs.ways.+entry.Given as goal

abbrev pub decreases-entry : goal.decreases-entry
decreases-entry l = parts l.code.now
