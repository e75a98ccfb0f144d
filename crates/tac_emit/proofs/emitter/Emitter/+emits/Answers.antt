use Rattle.tac_code.specs.Views.{code_of, test_of}
use Rattle.std.proofs.Common.{◌≡◌, map, sym, ap, ◌∙◌, subst}
use Rattle.std.specs.Prelude.{OnOk}
use Rattle.tac_emit.specs.Extents.{row_of}
use Rattle.tac_emit.specs.Emitted.{loop_of, next_of, EmitsCode}
use Rattle.tac_emit.proofs.Emitting.{emits_both, emits_when, emits_choose, emits_own, emits_onward, emits_until, emits_on, emits_all, emits_one, emits_step, emits_last}
use Rattle.tac_emit.proofs.Surveying.{row_at, fewer_parts}
use Rattle.tac_emit.proofs.emitter.Emitter.+emits.Goals as goal

pub both-returns : goal.both-returns
both-returns t c = emits_both c.args.self.now c.code.new.self c.code-2.new.self (code_of c.args.first.now) (code_of c.args.last.now) (loop_of c.args.ways.around) (next_of c.args.ways.next) c.in_ok-code.ensures c.in_ok-code-2.ensures

pub row-loop-part-preserved : goal.row-loop-part-preserved
row-loop-part-preserved t c = record {
  leads = emits_step c.args.self.now c.loop-part.self c.code.new.self c.args.first.now c.loop-part.part-index c.part-item.result (code_of c.args.last.now) (row_of (map code_of c.args.first.now) (code_of c.args.last.now)) (loop_of c.args.ways.around) (next_of c.args.ways.next) c.loop-part-test.true c.part-item.is c.in_ok-code.ensures c.loop-part.invariant.leads;
  fewer = fewer_parts c.args.first.now c.loop-part.part-index c.part-item.result c.loop-part-test.true c.part-item.is c.loop-part.invariant.fewer;
}

pub row-returns : goal.row-returns
row-returns t c = c.loop-part.invariant.leads c.code-2.new.self (emits_last c.loop-part.self c.code-2.new.self c.args.first.now c.loop-part.part-index (code_of c.args.last.now) (loop_of c.args.ways.around) (next_of c.args.ways.next) c.loop-part-test.false c.in_ok-code-2.ensures)

pub when-returns : goal.when-returns
when-returns t c =
    emits_when c.args.self.now c.take-to.new.self c.test.new.self c.owned.new.self c.take-to.result c.label_or-out.result c.entry-there.result c.args.stmt (test_of c.args.test.now) (code_of c.args.then.now) (loop_of c.args.ways.around) (next_of c.args.ways.next)
    c.take-to.ensures c.label_or-out.ensures c.entry-there.ensures c.in_ok-test.ensures c.in_ok-owned.ensures

pub choose-returns : goal.choose-returns
choose-returns t c =
    emits_choose c.args.self.now c.take-to.new.self c.test.new.self c.owned.new.self c.owned-2.new.self c.take-to.result c.label_or-out.result c.entry-yes.result c.entry-no.result c.args.stmt (test_of c.args.test.now) (code_of c.args.then.now) (code_of c.args.other.now) (loop_of c.args.ways.around) (next_of c.args.ways.next)
    c.take-to.ensures c.label_or-out.ensures c.entry-yes.ensures c.entry-no.ensures c.in_ok-test.ensures c.in_ok-owned.ensures c.in_ok-owned-2.ensures

pub repeat_own-returns : goal.repeat_own-returns
repeat_own-returns t c =
    emits_own c.args.self.now c.take-to.new.self c.close.new.self c.test.new.self c.owned.new.self c.owned-2.new.self c.take-to.result c.label_or-out.result c.entry-on_continue.result c.in_ok-head.head c.entry-there.result c.args.stmt (test_of c.args.test.now) (code_of c.args.body.now) (code_of c.args.last.now) (loop_of c.args.ways.around) (next_of c.args.ways.next)
    c.take-to.ensures c.in_ok-head.ensures c.label_or-out.ensures c.entry-on_continue.ensures c.entry-there.ensures c.in_ok-close.ensures c.in_ok-test.ensures c.in_ok-owned.ensures c.in_ok-owned-2.ensures

pub repeat_onward-returns : goal.repeat_onward-returns
repeat_onward-returns t c =
    emits_onward c.args.self.now c.take-to.new.self c.close.new.self c.test.new.self c.code.new.self c.code-2.new.self c.take-to.result c.label_or-out.result c.in_ok-head.head c.args.stmt (test_of c.args.test.now) (code_of c.args.body.now) (code_of c.args.last.now) (loop_of c.args.ways.around) (next_of c.args.ways.next)
    c.take-to.ensures c.in_ok-head.ensures c.label_or-out.ensures c.in_ok-close.ensures c.in_ok-test.ensures c.in_ok-code.ensures c.in_ok-code-2.ensures

pub until-returns : goal.until-returns
until-returns t c =
    emits_until c.args.self.now c.take-to.new.self c.close.new.self c.code.new.self c.test.new.self c.take-to.result c.label_or-out.result c.in_ok-head.head c.args.stmt c.args.own (next_of c.to_own-next.result) (code_of c.args.body.now) (test_of c.args.test.now) (loop_of c.args.ways.around) (next_of c.args.ways.next)
    c.take-to.ensures c.in_ok-head.ensures c.label_or-out.ensures c.to_own-next.ensures c.in_ok-close.ensures c.in_ok-code.ensures c.in_ok-test.ensures

pub tested-returns : goal.tested-returns
tested-returns t c = emits_on c.args.self.now c.code.new.self c.close.new.self c.args.stmt c.args.register (code_of c.args.code.now) c.branch-register.result c.args.yes c.args.no c.in_ok-code.ensures c.branch-register.ensures c.in_ok-close.ensures

pub all_of-returns : goal.all_of-returns
all_of-returns t c = emits_all c.args.self.now c.take-to.new.self c.test.new.self c.test-2.new.self c.take-to.result (test_of c.args.first.now) (test_of c.args.last.now) c.args.yes c.args.no c.take-to.ensures c.in_ok-test.ensures c.in_ok-test-2.ensures

pub one_of-returns : goal.one_of-returns
one_of-returns t c = emits_one c.args.self.now c.take-to.new.self c.test.new.self c.test-2.new.self c.take-to.result (test_of c.args.first.now) (test_of c.args.last.now) c.args.yes c.args.no c.take-to.ensures c.in_ok-test.ensures c.in_ok-test-2.ensures

pub code-returns-in-Row : goal.code-returns-in-Row
code-returns-in-Row t c =
    let xs = c.deref-in-Row.result.now in
    let is : code_of c.args.code.now ≡ row_of (map code_of xs) (code_of c.deref-in-Row-2.result.now) =
    row_at c.args.code.now c.in-Row.first xs c.in-Row.last c.in-Row.is c.deref-in-Row.ensures.value ∙ ap (λ a. row_of (map code_of xs) (code_of a)) (sym c.deref-in-Row-2.ensures) in
    subst (λ x. OnOk c.row.result (EmitsCode c.args.self.now c.row.new.self x (loop_of c.args.ways.around) (next_of c.args.ways.next))) (sym is) c.row.ensures
