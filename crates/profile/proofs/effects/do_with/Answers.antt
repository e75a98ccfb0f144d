use Rattle.std.proofs.Common.{rules}
use Rattle.std.proofs.lemmas.Result.{IfOk-weaker, on_err_weaker}
use Rattle.profile.proofs.Doings.{store_takes, value_takes, get_takes_so, get_part, print_takes_so, print_part}
use Rattle.profile.proofs.effects.do_with.Goals as goal

pub returns-in-Store-clause-ok : goal.returns-in-Store-clause-ok
returns-in-Store-clause-ok g c =
    store_takes c.args.act c.args.base c.args.regs.now c.args.memory.now c.args.x c.args.y _ c.in-Store.width c.in-Store.base c.in-Store.offset c.address.result c.in-Store.from c.store.new.memory c.store.result c.in-Store.is (search rules) (search rules)

pub returns-in-Get-clause-ok : goal.returns-in-Get-clause-ok
returns-in-Get-clause-ok g c =
    IfOk-weaker c.get.result _ _ (λ fault over. get_takes_so c.args.act c.args.base _ _ c.args.x c.args.y c.in-Get.to _ _ _ fault c.in-Get.is over) c.get.ensures.ok

pub returns-in-Get-clause-broken : goal.returns-in-Get-clause-broken
returns-in-Get-clause-broken g c =
    on_err_weaker c.get.result (λ same. get_part c.args.act c.args.base _ _ c.args.x c.args.y c.in-Get.to _ _ c.in-Get.is same) c.get.ensures.err

pub returns-in-PutByte-clause-ok : goal.returns-in-PutByte-clause-ok
returns-in-PutByte-clause-ok g c =
    IfOk-weaker c.print.result _ _ (λ fault over. print_takes_so c.args.act c.args.base _ _ c.args.x c.args.y _ _ _ fault (λ left. rw c.in-PutByte.is (search rules)) over) c.print.ensures.ok

pub returns-in-PutByte-clause-broken : goal.returns-in-PutByte-clause-broken
returns-in-PutByte-clause-broken g c =
    on_err_weaker c.print.result (λ part. print_part c.args.act c.args.base _ _ c.args.x c.args.y _ _ _ (λ left. rw c.in-PutByte.is (search rules)) part) c.print.ensures.err

pub returns-in-PutNumber-clause-ok : goal.returns-in-PutNumber-clause-ok
returns-in-PutNumber-clause-ok g c =
    IfOk-weaker c.print-in-PutNumber.result _ _ (λ fault over. print_takes_so c.args.act c.args.base _ _ c.args.x c.args.y _ _ _ fault (λ left. rw c.in-PutNumber.is (search rules)) over) c.print-in-PutNumber.ensures.ok

pub returns-in-PutNumber-clause-broken : goal.returns-in-PutNumber-clause-broken
returns-in-PutNumber-clause-broken g c =
    on_err_weaker c.print-in-PutNumber.result (λ part. print_part c.args.act c.args.base _ _ c.args.x c.args.y _ _ _ (λ left. rw c.in-PutNumber.is (search rules)) part) c.print-in-PutNumber.ensures.err

pub returns-in_default : goal.returns-in_default
returns-in_default g c = record {
  ok = value_takes c.args.act c.args.base _ _ c.args.x c.args.y _ _ _ c.value.result _ c.in_default.not-Store c.in_default.not-Get c.in_default.not-PutByte c.in_default.not-PutNumber c.target.ensures (search rules) c.write.ensures.done;
  broken = tt;
  many = search rules;
  cause = search rules;
  still_sure = λ h. h;
  never = search rules;
}
