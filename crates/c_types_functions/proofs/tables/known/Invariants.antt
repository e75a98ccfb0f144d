use Rattle.std.proofs.Common.{◌≡◌, map, drop}
use Rattle.c_types_operators.specs.ScopeViews.{functions_of}
use Rattle.c_types_functions.specs.Functions.{all_named, running, by_heads}
use Rattle.c_types_functions.specs.Views.{plain_head}
use Rattle.c_types_functions.proofs.tables.known.Given as goal

abbrev pub invariant-loop-head : goal.invariant-loop-head
invariant-loop-head l = all_named (functions_of l.table) (map (running l.number) (map plain_head (drop l.head-index l.prototypes))) ≡ by_heads (map plain_head l.bodies) (map plain_head l.prototypes)
