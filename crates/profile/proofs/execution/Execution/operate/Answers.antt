use Rattle.std.proofs.Common.{rules, subst}
use Rattle.tac_core.specs.Rules.{IsGoodAct}
use Rattle.profile.proofs.Parts.{op_part}
use Rattle.profile.proofs.Sounds.{first_good, operated_sound}
use Rattle.profile.proofs.execution.Execution.operate.Goals as goal

pub do_act-requires : goal.do_act-requires
do_act-requires g c =
    subst (λ n. IsGoodAct n c.args.op.act) (search rules) (first_good c.args.self.now c.args.op c.args.rest.now (search rules) (search rules))

pub returns-in-Ok-None-clause-sound : goal.returns-in-Ok-None-clause-sound
returns-in-Ok-None-clause-sound g c going =
    operated_sound c.args.self.now _ c.args.op c.args.rest.now c.do_act.new.regs c.do_act.new.memory (search rules) (search rules) (search rules) (search rules)

pub returns-in-Err-clause-broken : goal.returns-in-Err-clause-broken
returns-in-Err-clause-broken g c =
    op_part c.args.self.now c.args.op c.args.rest.now _ _ (search rules) (search rules)
