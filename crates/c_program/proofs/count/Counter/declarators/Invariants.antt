use Rattle.std.proofs.Common.{◌≡◌, ◌+◌, map, drop}
use Rattle.c_ast.specs.TreeViews.{decl_of}
use Rattle.c_program.specs.Nodes.{nodes_decls}
use Rattle.c_program.proofs.count.Counter.declarators.Given as goal

abbrev pub invariant-loop-declarator : goal.invariant-loop-declarator
invariant-loop-declarator l = l.self.nodes + nodes_decls (map decl_of (drop l.declarator-index l.list)) ≡ l.fn.self.nodes + nodes_decls (map decl_of l.list)
