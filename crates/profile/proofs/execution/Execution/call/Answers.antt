use Rattle.std.proofs.Common.{rules, ◌+◌}
use Rattle.profile.proofs.Sounds.{callee_sound, entry_there, called_sound}
use Rattle.profile.proofs.execution.Execution.call.Goals as goal

pub enter-called-requires-clause-call : goal.enter-called-requires-clause-call
enter-called-requires-clause-call c =
    callee_sound c.self-inside.inside.0.0.now c.args.callee c.len.result _ _ c.func_at-func.result.now (search rules) (search rules) (search rules) (search rules)

pub enter-called-requires-clause-block : goal.enter-called-requires-clause-block
enter-called-requires-clause-block c =
    entry_there c.self-inside.inside.0.0.now c.args.callee c.func_at-func.result.now (search rules) (search rules)

pub returns-clause-sound : goal.returns-clause-sound
returns-clause-sound c called =
    called_sound c.args.self.now _ c.enter-called.result c.args.dest c.args.next (c.args.self.now.here.base + c.func_at-caller.result.now.frame) c.func_at-func.result.now.frame (search rules) (search rules) (search rules) (search rules) (search rules) (search rules) (search rules) (search rules)
