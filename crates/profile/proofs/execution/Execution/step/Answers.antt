use Rattle.std.proofs.Common.{rules}
use Rattle.std.proofs.lemmas.Result.{IfOk-weaker}
use Rattle.ib_base.proofs.Parts.{on_err}
use Rattle.ib_run.proofs.OverHost.{over_none}
use Rattle.profile.specs.Running.{Steps, StepsPart}
use Rattle.profile.specs.Sound.{state_of}
use Rattle.profile.proofs.execution.Execution.step.Goals as goal

pub returns-in-empty-clause-step : goal.returns-in-empty-clause-step
returns-in-empty-clause-step g c =
    IfOk-weaker c.finish.result _ _
    (λ progress holds. over_none (Steps c.args.self.now.program (state_of c.args.self.now) (state_of c.finish.new.self) progress) holds (g.H.Host.world c.args.host.now))
    c.finish.ensures.step

pub returns-in-empty-clause-broken : goal.returns-in-empty-clause-broken
returns-in-empty-clause-broken g c =
    on_err c.finish.result (over_none (StepsPart c.args.self.now.program (state_of c.args.self.now)) (λ left. search rules) (g.H.Host.world c.args.host.now))
