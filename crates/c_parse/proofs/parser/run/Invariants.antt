use Rattle.std.proofs.Common.{◌≡◌, [], drop}
use Rattle.c_parse_machine.specs.Machine as M
use Rattle.c_parse_states.specs.Views.{state_of}
use Rattle.c_parse.proofs.parser.run.Given as goal

abbrev pub invariant-loop-i : goal.invariant-loop-i
invariant-loop-i l = M.run l.tokens (M.items []) ≡ M.run (drop l.i l.tokens) (state_of l.state)
