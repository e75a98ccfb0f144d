use Rattle.tac_lowered.specs.Lowered.{up_to_all}
use Rattle.tac_emit.proofs.Registers.{all_step}
use Rattle.tac_emit.proofs.emitter.up_to_all.Goals as goal

pub loop-reg-preserved : goal.loop-reg-preserved
loop-reg-preserved c = all_step c.args.list.now c.loop-reg.reg-index c.loop-reg.most c.in_ok-most.most (up_to_all c.args.list.now c.args.regs) c.loop-reg-test.true c.in_ok-most.ensures c.loop-reg.invariant
