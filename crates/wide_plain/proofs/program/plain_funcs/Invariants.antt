use Rattle.wide_plain.proofs.Functions.{Made}
use Rattle.wide_plain.proofs.program.plain_funcs.Given as goal

abbrev pub invariant-loop-func : goal.invariant-loop-func
invariant-loop-func l = Made l.homes.low l.places l.funcs l.func-index l.list l.number
