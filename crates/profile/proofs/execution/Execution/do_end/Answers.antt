use Rattle.std.proofs.Common.{rules, subst, []}
use Rattle.profile.specs.Running.{Did}
use Rattle.profile.specs.Sound.{state_of}
use Rattle.profile.proofs.execution.Execution.do_end.Goals as goal

pub returns-in-Ret-clause-step : goal.returns-in-Ret-clause-step
returns-in-Ret-clause-step c input =
    subst (λ step. Did step (state_of c.give_back.new.self) c.give_back.result input []) (search rules) (c.give_back.ensures.back input)
