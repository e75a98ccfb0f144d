use Rattle.std.proofs.Common.{◌≡◌, take}
use Rattle.tac_core.proofs.copies.copy_funcs.Given as goal

abbrev pub invariant-loop-func : goal.invariant-loop-func
invariant-loop-func l = l.copies ≡ take l.func-index l.funcs
