use Rattle.c_parse_states.specs.Views.{outer_of, outer_depth}
use Rattle.c_parse.proofs.statements.+settle.Given as goal

abbrev pub decreases-settle : goal.decreases-settle
decreases-settle l = outer_depth (outer_of l.outer)
