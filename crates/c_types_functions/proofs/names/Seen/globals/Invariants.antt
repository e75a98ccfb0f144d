use Rattle.std.proofs.Common.{map, drop}
use Rattle.c_ast.specs.Trees.{variables}
use Rattle.c_ast.specs.TreeViews.{decl_of}
use Rattle.c_types_functions.specs.Functions.{declared_by}
use Rattle.c_types_functions.proofs.LoopLemmas.{Leads}
use Rattle.c_types_functions.proofs.names.Seen.globals.Given as goal

abbrev pub invariant-loop-d : goal.invariant-loop-d
invariant-loop-d l =
    Leads l.self l.fn.self l.notes l.fn.notes (declared_by (variables (map decl_of (drop l.d-index l.list)))) (declared_by (variables (map decl_of l.list)))
