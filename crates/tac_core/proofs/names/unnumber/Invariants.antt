use Rattle.std.proofs.Common.{◌≡◌, ◌++◌, take, drop}
use Rattle.tac_core.specs.Numbered.{unnumbered}
use Rattle.tac_core.proofs.names.unnumber.Given as goal

abbrev pub invariant-loop-func : goal.invariant-loop-func
invariant-loop-func l = take l.func-index l.funcs ++ unnumbered (drop l.func-index l.funcs) ≡ unnumbered l.fn.funcs
