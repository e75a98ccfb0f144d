use Rattle.std.proofs.Common.{refl}
use Rattle.tac_emit.proofs.Emitting.{adds_op}
use Rattle.tac_emit.proofs.emitter.Emitter.push.Goals as goal

pub returns : goal.returns
returns c = adds_op c.args.self.now _ c.args.stmt c.args.act refl c.in_ok-push.ensures.ok c.in_ok-self.ensures refl
