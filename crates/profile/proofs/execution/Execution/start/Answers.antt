use Rattle.std.proofs.Common.{rules}
use Rattle.profile.proofs.Sounds.{image_small, start_fits, start_call, start_state, start_sound, entry_there}
use Rattle.profile.proofs.execution.Execution.start.Goals as goal

pub first_frame-base-requires : goal.first_frame-base-requires
first_frame-base-requires c = search (rules, image_small c.args.tac.now)

pub clear-requires : goal.clear-requires
clear-requires c = start_fits c.args.tac.now c.in_ok-main.main _ c.func_at-func.result.now (search rules) (search rules) (search rules)

pub enter-requires-clause-call : goal.enter-requires-clause-call
enter-requires-clause-call c =
    start_call c.args.tac.now c.in_ok-main.main _ c.func_at-func.result.now _ (search rules) (search rules) (search rules) (search rules)

pub enter-requires-clause-block : goal.enter-requires-clause-block
enter-requires-clause-block c = entry_there c.args.tac.now c.in_ok-main.main c.func_at-func.result.now (search rules) (search rules)

pub returns-clause-state : goal.returns-clause-state
returns-clause-state c =
    start_state c.args.tac.now c.in_ok-main.main _ c.func_at-func.result.now _ c.enter.result c.new-2.result c.fill.new.self c.clear.new.self (search rules) (search rules) (search rules) (search rules) (search rules) (search rules) (search rules) c.enter.ensures.state

pub returns-clause-sound : goal.returns-clause-sound
returns-clause-sound c = start_sound c.args.tac.now _ c.enter.result (search rules) (search rules) (search rules) (search rules) (search rules)
