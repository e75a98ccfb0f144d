use Rattle.std.proofs.Common.{map, drop}
use Rattle.c_ast.specs.TreeViews.{item_of}
use Rattle.c_types_functions.specs.Functions.{all_declared}
use Rattle.c_types_functions.specs.Finding.{nothing_seen}
use Rattle.c_types_functions.proofs.LoopLemmas.{Leads}
use Rattle.c_types_functions.proofs.names.redeclared.Given as goal

abbrev pub invariant-loop-item : goal.invariant-loop-item
invariant-loop-item l =
    Leads l.seen nothing_seen l.notes l.fn.notes (all_declared (map item_of (drop l.item-index l.unit.items.items))) (all_declared (map item_of l.unit.items.items))
