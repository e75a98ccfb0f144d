use Rattle.tac_code.specs.Views.{code_of, test_of}
use Rattle.tac_emit.proofs.Surveying.{surveys_when, surveys_choose, surveys_turns, surveys_until, surveys_tests, surveys_step, surveys_last, fewer_parts}
use Rattle.tac_emit.proofs.survey.Survey.+surveys.Goals as goal

pub row-loop-part-preserved : goal.row-loop-part-preserved
row-loop-part-preserved t c = record {
  leads = surveys_step c.args.self.now c.loop-part.self c.code.new.self c.args.first.now c.loop-part.part-index c.part-item.result (code_of c.args.last.now) _ c.args.closes c.loop-part-test.true c.part-item.is c.in_ok-code.ensures c.loop-part.invariant.leads;
  fewer = fewer_parts c.args.first.now c.loop-part.part-index c.part-item.result c.loop-part-test.true c.part-item.is c.loop-part.invariant.fewer;
}

pub row-returns : goal.row-returns
row-returns t c = c.loop-part.invariant.leads c.code-2.new.self (surveys_last c.loop-part.self c.code-2.new.self c.args.first.now c.loop-part.part-index (code_of c.args.last.now) c.args.closes c.loop-part-test.false c.in_ok-code-2.ensures)

pub choose-returns : goal.choose-returns
choose-returns t c =
    surveys_choose c.args.self.now c.reserve.new.self c.test.new.self c.owned.new.self c.owned-2.new.self c.set.new.self c.in_ok-at.at (test_of c.args.test.now) (code_of c.args.then.now) (code_of c.args.other.now) c.in_ok-at.ensures c.in_ok-test.ensures c.in_ok-owned.ensures c.in_ok-owned-2.ensures c.set.ensures

pub tests-returns : goal.tests-returns
tests-returns t c =
    surveys_tests c.args.self.now c.reserve.new.self c.test.new.self c.test-2.new.self c.set.new.self c.in_ok-at.at (test_of c.args.first.now) (test_of c.args.last.now) c.in_ok-at.ensures c.in_ok-test.ensures c.in_ok-test-2.ensures c.set.ensures

pub turns-returns : goal.turns-returns
turns-returns t c =
    surveys_turns c.args.self.now c.reserve.new.self c.test.new.self c.code.new.self c.code-2.new.self c.set.new.self c.in_ok-at.at (test_of c.args.test.now) (code_of c.args.body.now) (code_of c.args.last.now) c.in_ok-at.ensures c.in_ok-test.ensures c.in_ok-code.ensures c.in_ok-code-2.ensures c.set.ensures

pub until-returns : goal.until-returns
until-returns t c =
    surveys_until c.args.self.now c.fresh.new.self c.reserve.new.self c.code.new.self c.test.new.self c.set.new.self c.in_ok-at.at c.args.own (code_of c.args.body.now) (test_of c.args.test.now) c.in_ok-fresh.ensures c.in_ok-at.ensures c.in_ok-code.ensures c.in_ok-test.ensures c.set.ensures

pub when-returns : goal.when-returns
when-returns t c =
    surveys_when c.args.self.now c.reserve.new.self c.test.new.self c.owned.new.self c.set.new.self c.in_ok-at.at (test_of c.args.test.now) (code_of c.args.then.now) c.in_ok-at.ensures c.in_ok-test.ensures c.in_ok-owned.ensures c.set.ensures
