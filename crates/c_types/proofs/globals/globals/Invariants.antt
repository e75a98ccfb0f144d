use Rattle.std.proofs.Common.{map, drop}
use Rattle.std.specs.Option.{option_map}
use Rattle.c_ast.specs.TreeViews.{decl_of}
use Rattle.c_types.proofs.GlobalLemmas.{GlobalsLeft}
use Rattle.c_types.proofs.globals.globals.Given as goal

abbrev pub invariant-loop-d : goal.invariant-loop-d
invariant-loop-d l = GlobalsLeft l.fn.walk l.walk (option_map (λ row. row.items) l.made) (map decl_of (drop l.d-index l.list)) (map decl_of l.list)
