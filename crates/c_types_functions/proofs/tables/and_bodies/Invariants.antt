use Rattle.std.proofs.Common.{◌≡◌, map, drop}
use Rattle.c_types_operators.specs.ScopeViews.{functions_of}
use Rattle.c_types_functions.specs.Functions.{all_named, numbered}
use Rattle.c_types_functions.specs.Views.{plain_head}
use Rattle.c_types_functions.proofs.tables.and_bodies.Given as goal

abbrev pub invariant-loop-head : goal.invariant-loop-head
invariant-loop-head l =
    all_named (functions_of l.table) (numbered l.number (map plain_head (drop l.head-index l.bodies))) ≡ all_named (functions_of l.fn.table) (numbered 0 (map plain_head l.bodies))
