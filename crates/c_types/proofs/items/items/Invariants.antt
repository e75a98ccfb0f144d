use Rattle.std.proofs.Common.{map, drop}
use Rattle.std.specs.Option.{option_map}
use Rattle.c_ast.specs.TreeViews.{item_of}
use Rattle.c_types_operators.specs.ScopeViews.{functions_of}
use Rattle.c_types.specs.Views.{parts_of}
use Rattle.c_types.proofs.ItemLemmas.{ItemsLeft}
use Rattle.c_types.proofs.items.items.Given as goal

abbrev pub invariant-loop-x : goal.invariant-loop-x
invariant-loop-x l = ItemsLeft (functions_of l.bodied) l.fn.walk l.walk (option_map parts_of l.made) (map item_of (drop l.x-index l.list)) (map item_of l.list)
