use Rattle.std.proofs.Common.{◌≡◌, drop}
use Rattle.tac_lowered.specs.Lowered.{up_to_all}
use Rattle.tac_emit.proofs.emitter.up_to_all.Given as goal

abbrev pub invariant-loop-reg : goal.invariant-loop-reg
invariant-loop-reg l = up_to_all (drop l.reg-index l.list) l.most ≡ up_to_all l.list l.regs
