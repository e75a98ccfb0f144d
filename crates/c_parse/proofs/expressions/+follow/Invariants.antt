use Rattle.c_parse_states.specs.Views.{frames_of, depth}
use Rattle.c_parse.proofs.expressions.+follow.Given as goal

abbrev pub decreases-follow : goal.decreases-follow
decreases-follow l = depth (frames_of l.frames)
