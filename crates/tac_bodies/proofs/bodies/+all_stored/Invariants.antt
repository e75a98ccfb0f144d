use Rattle.std.proofs.Common.{length}
use Rattle.tac_bodies.proofs.bodies.+all_stored.Given as goal

abbrev pub decreases-all_stored : goal.decreases-all_stored
decreases-all_stored l = length l.params.now
