use Rattle.std.proofs.Common.{◌≡◌, ◌<◌, List, Some, length, refl, sym, ap, ◌∙◌, subst, arith}
use Rattle.std.specs.Prelude.{slice_get}
use Rattle.std.proofs.lemmas.Option.{slice_get_read}
use Rattle.tac_core.specs.declared.code.TacFunc.{TacFunc}
use Rattle.tac_core.specs.declared.counts.FuncCounts.{FuncCounts}
use Rattle.trace_pick.specs.Traces.{AreTracesOf}
use Rattle.trace_pick.proofs.Picked.{valid_fit, upto_more, upto_done, traces_chained}
use Rattle.trace_pick.proofs.program.pick.Goals as goal

pub pick_func-requires-clause-fit : goal.pick_func-requires-clause-fit
pick_func-requires-clause-fit c =
    let fi : slice_get c.funcs-funcs.result.now c.loop-i.i ≡ Some c.index-funcs-i.result = slice_get_read c.funcs-funcs.result.now _ c.loop-i.i c.index-funcs-i.result refl c.loop-i-test.true c.index-funcs-i.is in
    valid_fit c.args.tac.now c.loop-i.i c.index-funcs-i.result c.funcs-funcs.ensures.valid (sym (ap (λ z. slice_get z c.loop-i.i) c.funcs-funcs.ensures.value) ∙ fi)

pub loop-i-preserved : goal.loop-i-preserved
loop-i-preserved c =
    let fi : slice_get c.funcs-funcs.result.now c.loop-i.i ≡ Some c.index-funcs-i.result = slice_get_read c.funcs-funcs.result.now _ c.loop-i.i c.index-funcs-i.result refl c.loop-i-test.true c.index-funcs-i.is in
    let many : length c.funcs-counted.result.now ≡ length c.funcs-funcs.result.now = ap (λ z. length z) c.funcs-counted.ensures.value ∙ c.requires.many ∙ ap (λ z. length z) (sym c.funcs-funcs.ensures.value) in
    let ci : slice_get c.funcs-counted.result.now c.loop-i.i ≡ Some c.index-counted-i.result = slice_get_read c.funcs-counted.result.now _ c.loop-i.i c.index-counted-i.result refl (subst (λ n. c.loop-i.i < n) (sym many) c.loop-i-test.true) c.index-counted-i.is in
    upto_more c.funcs-funcs.result.now c.funcs-counted.result.now c.loop-i.i c.index-funcs-i.result c.index-counted-i.result c.in_ok-pick_func.field-0 c.loop-i.traces c.push.new.self fi ci
    c.in_ok-push.ensures.ok c.in_ok-pick_func.ensures c.loop-i.invariant

pub returns-clause-traces : goal.returns-clause-traces
returns-clause-traces c =
    let all = c.loop-i-test.false in
    let upto = c.loop-i.auto.i-end in
    subst (λ z. AreTracesOf c.args.tac.now.funcs c.args.counts.now z) (sym c.keep.ensures)
    (subst (λ (z : List FuncCounts). AreTracesOf c.args.tac.now.funcs z c.loop-i.traces) c.funcs-counted.ensures.value
    (subst (λ (z : List TacFunc). AreTracesOf z c.funcs-counted.result.now c.loop-i.traces) c.funcs-funcs.ensures.value
    (upto_done c.funcs-funcs.result.now c.funcs-counted.result.now c.loop-i.i c.loop-i.traces (omega arith) c.loop-i.invariant)))

pub returns-clause-chains : goal.returns-clause-chains
returns-clause-chains c = traces_chained c.args.tac.now.funcs c.args.counts.now c.keep.result c.requires (returns-clause-traces c)
