use Rattle.std.proofs.Common.{◌+◌, ◌<◌, length, arith, ap, sym, ◌∙◌, drop-set-lt, subst}
use Rattle.std.proofs.lemmas.List.{drop_more}
use Rattle.std.proofs.lemmas.List.Elements.{All-tail, All-same}
use Rattle.tac_core.specs.Numbered.{HasGoodFrame, with_number}
use Rattle.tac_core.proofs.Named.{numbered_more}
use Rattle.tac_core.proofs.names.number.Goals as goal

pub loop-func-preserved : goal.loop-func-preserved
loop-func-preserved c =
    let l = c.loop-func in
    let within : l.func-index < length l.funcs = omega (arith, c.loop-func-test.true, c.loop-func.auto.funcs) in
    let is = c.with_number-func.ensures ∙ ap (with_number _) l.invariant.2 in (
      numbered_more _ _ _ _ _ within is l.invariant.0,
      All-same HasGoodFrame _ _ (drop-set-lt (l.func-index + 1) l.funcs l.func-index _ (omega arith)) (All-tail HasGoodFrame _ _ (All-same HasGoodFrame _ _ (sym (drop_more l.funcs l.func-index c.func-item.result within)) l.invariant.1)),
      omega (arith, l.invariant.2),
    )
