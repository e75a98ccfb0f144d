use Rattle.std.proofs.Common.{rules}
use Rattle.profile.proofs.Sounds.{jump_sound}
use Rattle.profile.proofs.execution.Execution.jump.Goals as goal

pub returns-clause-sound : goal.returns-clause-sound
returns-clause-sound c =
    jump_sound c.args.self.now _ c.args.label c.func_at.result.now c.block_at.result.now (search rules) (search rules) (search rules) (search rules)
