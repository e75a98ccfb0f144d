use Rattle.std.proofs.Common.{◌≡◌, ◌++◌, map, drop}
use Rattle.c_ast.specs.TreeViews.{param_of}
use Rattle.c_types_homes.specs.Declarators.{param_type}
use Rattle.c_types_functions.proofs.heads.param_types.Given as goal

abbrev pub invariant-loop-param : goal.invariant-loop-param
invariant-loop-param l = l.types ++ map param_type (map param_of (drop l.param-index l.params)) ≡ map param_type (map param_of l.params)
