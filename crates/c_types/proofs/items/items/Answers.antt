use Rattle.std.proofs.Common.{◌+◌, map, drop, ap₂}
use Rattle.c_ast.specs.TreeViews.{item_of}
use Rattle.c_typed.specs.Views.{function_of}
use Rattle.c_types_operators.specs.ScopeViews.{functions_of}
use Rattle.c_types_statements.proofs.Left.{next_left, none_left}
use Rattle.c_types.proofs.ItemLemmas.{parts_with, all_items, next_item, no_more_items}
use Rattle.c_types.proofs.items.items.Goals as goal

pub loop-x-init : goal.loop-x-init
loop-x-init c =
    all_items (functions_of c.args.bodied.now) (map item_of c.args.list.now) (ap₂ (λ fs gs. parts_with (map function_of fs) gs) c.new.ensures.items c.new-2.ensures.items)

pub loop-x-preserved : goal.loop-x-preserved
loop-x-preserved c =
    let list = c.args.list.now in
    let i = c.loop-x.x-index in
    next_item (functions_of c.args.bodied.now) (item_of c.x-item.result) (map item_of (drop (i + 1) list)) (map item_of list)
    (next_left item_of list i c.x-item.result c.loop-x-test.true c.x-item.is) c.loop-x.invariant c.in_ok-piece.ensures c.in_ok-made.ensures

pub returns : goal.returns
returns c =
    no_more_items (functions_of c.args.bodied.now) (map item_of c.args.list.now)
    (none_left item_of c.args.list.now c.loop-x.x-index c.loop-x-test.false) c.loop-x.invariant
