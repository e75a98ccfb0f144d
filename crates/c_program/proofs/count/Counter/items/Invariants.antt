use Rattle.std.proofs.Common.{◌≡◌, ◌+◌, map, drop}
use Rattle.c_ast.specs.TreeViews.{item_of}
use Rattle.c_program.specs.Nodes.{nodes_unit}
use Rattle.c_program.proofs.count.Counter.items.Given as goal

abbrev pub invariant-loop-item : goal.invariant-loop-item
invariant-loop-item l = l.self.nodes + nodes_unit (map item_of (drop l.item-index l.list)) ≡ l.fn.self.nodes + nodes_unit (map item_of l.list)
