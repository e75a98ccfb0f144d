use Rattle.tac_emit.specs.Parts.{parts}
use Rattle.tac_emit.proofs.jump.+is_jump.Given as goal

abbrev pub decreases-is_jump : goal.decreases-is_jump
decreases-is_jump l = parts l.code.now
