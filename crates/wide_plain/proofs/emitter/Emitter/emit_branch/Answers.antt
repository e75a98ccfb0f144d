use Rattle.std.proofs.Common.{refl}
use Rattle.wide_plain.proofs.Emitted.{emits_onto}
use Rattle.wide_plain.proofs.emitter.Emitter.emit_branch.Goals as goal

pub returns : goal.returns
returns c = emits_onto c.emit.result _ _ _ _ _ _ _ c.in_ok-emit_reloads.ensures c.emit.ensures refl (cc)
