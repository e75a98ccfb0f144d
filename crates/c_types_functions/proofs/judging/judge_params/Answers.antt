use Rattle.std.proofs.Common.{◌≡◌, ◌∙◌, ◌&&◌, refl, ap, map, arith}
use Rattle.std.proofs.lemmas.List.{drop_all}
use Rattle.c_ast.specs.TreeViews.{param_of}
use Rattle.c_types_functions.proofs.LoopLemmas.{next, judging_on, judging_end}
use Rattle.c_types_functions.proofs.judging.judge_params.Goals as goal
use Rattle.c_types_functions.proofs.judging.judge_params.Goals.{then-fine, else-fine}

pub loop-param-preserved : goal.loop-param-preserved
loop-param-preserved c =
    let both : c.if-fine.fine ≡ (c.loop-param.fine && c.in_ok-good.good) =
    elim c.if-fine.branch [ then-fine w ↦ rw w.if-fine.true w.fine-is | else-fine w ↦ rw w.if-fine.false (w.fine-is ∙ w.if-fine.false) ] in
    judging_on
    (ap (map param_of) (next c.args.params.now c.args.params.now c.loop-param.param-index c.param-item.result refl c.loop-param-test.true c.param-item.is))
    c.in_ok-good.ensures.names both c.loop-param.invariant c.in_ok-good.ensures.finds

pub returns : goal.returns
returns c = judging_end (ap (map param_of) (drop_all c.loop-param.param-index c.args.params.now (omega arith))) c.loop-param.invariant
