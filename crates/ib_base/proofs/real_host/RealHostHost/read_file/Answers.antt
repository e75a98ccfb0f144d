use Rattle.std.proofs.lemmas.Result.{IfOk-weaker}
use Rattle.ib_base.proofs.Parts.{silent_begins}
use Rattle.ib_base.proofs.real_host.RealHostHost.read_file.Goals as goal

pub returns-clause-beginning : goal.returns-clause-beginning
returns-clause-beginning g c =
    rw c.counted.ensures.same (IfOk-weaker c.read_named-outcome.result _ _ (λ bytes bound. silent_begins _ _ _ _ bound) c.read_named-outcome.ensures)
