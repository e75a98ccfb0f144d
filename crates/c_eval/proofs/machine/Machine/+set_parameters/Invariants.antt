use Rattle.std.proofs.Common.{length}
use Rattle.c_eval.proofs.machine.Machine.+set_parameters.Given as goal

abbrev pub decreases-set_parameters : goal.decreases-set_parameters
decreases-set_parameters l = length l.params.now
