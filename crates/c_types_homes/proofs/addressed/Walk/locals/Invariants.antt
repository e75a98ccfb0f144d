use Rattle.std.proofs.Common.{◌≡◌, ◌+◌, ◌++◌, length, map, drop}
use Rattle.c_ast.specs.TreeViews.{decl_of}
use Rattle.c_types_homes.specs.Addressed.{declared_in, taken_locals, with_declarators}
use Rattle.c_types_homes.proofs.addressed.Walk.locals.Given as goal

abbrev pub invariant-loop-declarator : goal.invariant-loop-declarator
invariant-loop-declarator l = let left = map decl_of (drop l.declarator-index l.list) in let all = map decl_of l.list in record {
  names : with_declarators left l.self.next l.self.names ≡ with_declarators all l.fn.self.next l.fn.self.names;
  next : l.self.next + length (declared_in left) ≡ l.fn.self.next + length (declared_in all);
  shapes : l.self.shapes ++ declared_in left ≡ l.fn.self.shapes ++ declared_in all;
  taken : l.self.taken ++ taken_locals left l.self.next l.self.names ≡ l.fn.self.taken ++ taken_locals all l.fn.self.next l.fn.self.names;
}
