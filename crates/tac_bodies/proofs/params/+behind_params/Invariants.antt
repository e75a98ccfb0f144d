use Rattle.std.proofs.Common.{length}
use Rattle.tac_bodies.proofs.params.+behind_params.Given as goal

abbrev pub decreases-behind_params : goal.decreases-behind_params
decreases-behind_params l = length l.params.now
