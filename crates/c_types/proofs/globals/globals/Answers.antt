use Rattle.std.proofs.Common.{◌+◌, map, drop}
use Rattle.c_ast.specs.TreeViews.{decl_of}
use Rattle.c_types_statements.proofs.Left.{next_left, none_left}
use Rattle.c_types.proofs.GlobalLemmas.{all_globals, next_global, no_more_globals}
use Rattle.c_types.proofs.globals.globals.Goals as goal

pub loop-d-init : goal.loop-d-init
loop-d-init c = all_globals (map decl_of c.args.list.now) c.new.ensures.items

pub loop-d-preserved : goal.loop-d-preserved
loop-d-preserved c =
    let list = c.args.list.now in
    let i = c.loop-d.d-index in
    next_global (decl_of c.d-item.result) (map decl_of (drop (i + 1) list)) (map decl_of list)
    (next_left decl_of list i c.d-item.result c.loop-d-test.true c.d-item.is) c.loop-d.invariant c.in_ok-x.ensures c.in_ok-made.ensures

pub returns : goal.returns
returns c = no_more_globals (map decl_of c.args.list.now) (none_left decl_of c.args.list.now c.loop-d.d-index c.loop-d-test.false) c.loop-d.invariant
