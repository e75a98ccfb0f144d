use Rattle.std.proofs.Common.{◌≡◌, map, drop}
use Rattle.c_ast.specs.TreeViews.{param_of}
use Rattle.c_types.specs.Making.{and_params}
use Rattle.c_types.proofs.functions.params.Given as goal

abbrev pub invariant-loop-x : goal.invariant-loop-x
invariant-loop-x l = and_params l.homes (map param_of (drop l.x-index l.list)) l.walk ≡ and_params l.homes (map param_of l.list) l.fn.walk
