use Rattle.std.proofs.Common.{map, drop}
use Rattle.c_ast.specs.TreeViews.{param_of}
use Rattle.c_types_functions.proofs.LoopLemmas.{Judging}
use Rattle.c_types_functions.proofs.judging.judge_params.Given as goal

abbrev pub invariant-loop-param : goal.invariant-loop-param
invariant-loop-param l = Judging l.names l.fine l.notes l.fn.notes (map param_of (drop l.param-index l.params)) (map param_of l.params)
