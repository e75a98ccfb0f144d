use Rattle.std.proofs.Common.{rules, ◌≡◌, ◌<◌, ◌≤◌, ◌+◌, ◌∙◌, [], ◌∷◌, ◌++◌, Some, length, arith, ap, sym, subst}
use Rattle.std.specs.Prelude.{slice_get}
use Rattle.std.proofs.lemmas.Option.{slice_get-get_or}
use Rattle.tac_core.specs.Live.{AreLive}
use Rattle.tac_live.proofs.Programs.{LiveSoFar, live_more, live_all}
use Rattle.tac_live.proofs.program.live_in.Goals as goal

pub loop-func-preserved : goal.loop-func-preserved
loop-func-preserved c =
    let funcs = c.funcs-func-items.result.now in
    let sets = c.loop-func.sets in
    let i = c.loop-func.func-index in
    let rows = c.in_ok-live_rows.field-0 in
    let within : i < length funcs = omega (arith, c.loop-func-test.true, c.loop-func.auto.func-index-end) in
    let there : slice_get funcs i ≡ Some c.func-item.result = slice_get-get_or funcs i c.func-item.result within ∙ ap Some (sym c.func-item.is) in
    let pushed : c.push.new.self ≡ sets ++ rows ∷ [] = search rules in
    subst (λ s. LiveSoFar funcs s (i + 1)) (sym pushed) (live_more funcs sets i c.func-item.result rows c.loop-func.invariant there c.in_ok-live_rows.ensures)

pub returns : goal.returns
returns c =
    let funcs = c.funcs-func-items.result.now in
    let sets = c.loop-func.sets in
    let i = c.loop-func.func-index in
    let most : length funcs ≤ i = omega (arith, c.loop-func-test.false, c.loop-func.auto.func-index-end) in
    let kept : c.keep.result ≡ sets = c.keep.ensures in
    subst (λ s. AreLive c.args.tac.now.funcs s) (sym kept) (subst (λ fs. AreLive fs sets) c.funcs-func-items.ensures.value (live_all funcs sets i c.loop-func.invariant most))
