use Rattle.std.proofs.Common.{length}
use Rattle.c_scopes.proofs.+find_in.Given as goal

abbrev pub decreases-find_in : goal.decreases-find_in
decreases-find_in g l = length l.tables.now
