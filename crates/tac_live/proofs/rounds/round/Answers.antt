use Rattle.std.proofs.Common.{◌<◌, ◌∙◌, length, get_or, arith, subst}
use Rattle.std.proofs.lemmas.List.{drop_more}
use Rattle.tac_live.specs.Rounds.{AreSound}
use Rattle.tac_live.proofs.Closed.{waits_more, less_more}
use Rattle.tac_live.proofs.rounds.round.Goals as goal

pub loop-label-preserved : goal.loop-label-preserved
loop-label-preserved c =
    let l = c.loop-label in
    let f = c.args.func.now in
    let waiting = c.args.waiting.now in
    let i = l.label-index in
    let within : i < length waiting = omega (arith, c.loop-label-test.true, l.auto.label-index-end) in (
      subst (λ n. AreSound f n c.step.new.rows) l.invariant.3 c.in_ok-step.ensures.sound,
      λ k. waits_more f l.rows c.step.new.rows waiting l.next c.step.new.next i (get_or waiting i 0) (drop_more waiting i 0 within) c.in_ok-step.ensures.waits k (l.invariant.1 k),
      less_more c.args.rows.now l.rows c.step.new.rows l.next c.step.new.next l.invariant.2 c.in_ok-step.ensures.less,
      c.step.ensures.size ∙ l.invariant.3,
    )
