use Rattle.std.proofs.Common.{◌≡◌, ◌++◌, take, drop}
use Rattle.std.specs.List.{All}
use Rattle.tac_core.specs.Numbered.{HasGoodFrame, numbered}
use Rattle.tac_core.proofs.names.number.Given as goal

abbrev pub invariant-loop-func : goal.invariant-loop-func
invariant-loop-func l =
    (take l.func-index l.funcs ++ numbered l.func-index (drop l.func-index l.funcs) ≡ numbered 0 l.fn.funcs)
    × All HasGoodFrame (drop l.func-index l.funcs) × (l.number ≡ l.func-index)
