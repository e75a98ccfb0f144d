use Rattle.std.proofs.Common.{rules}
use Rattle.std.proofs.lemmas.Result.{IfOk-weaker, on_err_weaker}
use Rattle.profile.proofs.Doings.{act_takes, act_part}
use Rattle.profile.proofs.effects.do_act.Goals as goal

pub returns-clause-ok : goal.returns-clause-ok
returns-clause-ok g c =
    IfOk-weaker c.do_with.result _ _
    (λ fault over. act_takes c.args.act c.args.base c.args.regs.now c.args.memory.now _ _ (search rules) (search rules) _ _ fault _ _ over)
    c.do_with.ensures.ok

pub returns-clause-broken : goal.returns-clause-broken
returns-clause-broken g c =
    on_err_weaker c.do_with.result
    (λ part. act_part c.args.act c.args.base c.args.regs.now c.args.memory.now _ _ (search rules) (search rules) _ _ part)
    c.do_with.ensures.broken
