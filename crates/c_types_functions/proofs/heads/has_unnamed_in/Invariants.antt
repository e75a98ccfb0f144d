use Rattle.std.proofs.Common.{◌≡◌, map, drop}
use Rattle.std.specs.List.{list_any}
use Rattle.c_ast.specs.TreeViews.{param_of}
use Rattle.c_types_functions.specs.Functions.{is_unnamed}
use Rattle.c_types_functions.proofs.heads.has_unnamed_in.Given as goal

abbrev pub invariant-loop-param : goal.invariant-loop-param
invariant-loop-param l = list_any is_unnamed (map param_of (drop l.param-index l.params)) ≡ list_any is_unnamed (map param_of l.params)
