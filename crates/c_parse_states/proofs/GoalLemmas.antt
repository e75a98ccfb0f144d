-- What an outermost expression is for.
use Rattle.std.proofs.Common.{◌≡◌, refl}
use Rattle.c_parse_states.specs.declared.frames.Goal.{Goal}
use Rattle.c_parse_states.specs.declared.frames.Goal.TheVariants as goal
use Rattle.c_parse_machine.specs.Machine as M
use Rattle.c_parse_states.specs.Views.{goal_of}

pub shut_goal : (goal : Goal) → goal_of goal ≡ M.shut (goal_of goal)
shut_goal (goal.Part role) = refl
shut_goal (goal.Tested test) = refl
shut_goal (goal.InitValue made) = refl
shut_goal (goal.Element made xs) = refl
