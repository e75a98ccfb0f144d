use Rattle.std.proofs.Common.{rules}
use Rattle.std.proofs.lemmas.Result.{IfOk-weaker}
use Rattle.ib_base.specs.World.{HasFile}
use Rattle.ib_base.specs.MemHost.{world_of}
use Rattle.ib_base.proofs.Parts.{begins_file}
use Rattle.ib_base.proofs.mem_host.MemHostHost.read_file.Goals as goal

pub returns-in-Some-clause-beginning : goal.returns-in-Some-clause-beginning
returns-in-Some-clause-beginning c =
    let there : HasFile (world_of c.args.self.now) c.args.name.now c.in-Some.content.now = search rules in
    IfOk-weaker c.beginning.result _ _ (λ bytes is. begins_file _ _ _ _ _ there is) c.beginning.ensures.ok
