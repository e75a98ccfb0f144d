use Rattle.std.proofs.Common.{map, drop}
use Rattle.std.specs.Option.{option_map}
use Rattle.c_ast.specs.TreeViews.{decl_of}
use Rattle.c_types_operators.specs.Views.{exprs_of}
use Rattle.c_types_statements.proofs.Left.{LocalsLeft}
use Rattle.c_types_statements.proofs.walk.Walk.locals.Given as goal

abbrev pub invariant-loop-d : goal.invariant-loop-d
invariant-loop-d l = LocalsLeft l.homes l.fn.self l.self (option_map exprs_of l.typed) (map decl_of (drop l.d-index l.list)) (map decl_of l.list)
