use Rattle.std.proofs.Common.{map, take}
use Rattle.c_ast.specs.TreeViews.{expr_of}
use Rattle.c_types_initial.proofs.ListLemmas.{Found}
use Rattle.c_types_initial.proofs.initial.data_of.Given as goal

abbrev pub invariant-loop-e : goal.invariant-loop-e
invariant-loop-e l = Found l.fn.scope l.fn.notes l.place l.ty (map expr_of (take l.e-index l.list)) l.held l.notes
