use Rattle.std.proofs.Common.{◌≡◌, ◌+◌, ◌++◌, length, map, drop}
use Rattle.c_ast.specs.TreeViews.{param_of}
use Rattle.c_types_homes.specs.Addressed.{param_shape, with_params}
use Rattle.c_types_homes.proofs.addressed.Walk.params.Given as goal

abbrev pub invariant-loop-param : goal.invariant-loop-param
invariant-loop-param l = let left = map param_of (drop l.param-index l.params) in let all = map param_of l.params in record {
  names : with_params left l.self.next l.self.names ≡ with_params all l.fn.self.next l.fn.self.names;
  next : l.self.next + length (map param_shape left) ≡ l.fn.self.next + length (map param_shape all);
  shapes : l.self.shapes ++ map param_shape left ≡ l.fn.self.shapes ++ map param_shape all;
  taken : l.self.taken ≡ l.fn.self.taken;
}
