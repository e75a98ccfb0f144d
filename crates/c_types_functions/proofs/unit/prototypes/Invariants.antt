use Rattle.std.proofs.Common.{◌≡◌, ◌++◌, map, drop}
use Rattle.c_ast.specs.TreeViews.{item_of}
use Rattle.c_types_functions.specs.Functions.{prototypes}
use Rattle.c_types_functions.specs.Views.{plain_head}
use Rattle.c_types_functions.proofs.unit.prototypes.Given as goal

abbrev pub invariant-loop-item : goal.invariant-loop-item
invariant-loop-item l = map plain_head l.heads.items ++ prototypes (map item_of (drop l.item-index l.unit.items.items)) ≡ prototypes (map item_of l.unit.items.items)
