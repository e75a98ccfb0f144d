use Rattle.std.proofs.Common.{◌≡◌, ◌++◌, map, drop, length}
use Rattle.c_ast.specs.TreeViews.{param_of}
use Rattle.c_types_units.specs.Units.{params_typed}
use Rattle.c_types.proofs.functions.typed_params.Given as goal

abbrev pub invariant-loop-param : goal.invariant-loop-param
invariant-loop-param l = l.made.items ++ params_typed l.homes (length l.made.items) (map param_of (drop l.param-index l.list)) ≡ params_typed l.homes 0 (map param_of l.list)
