use Rattle.std.proofs.Common.{◌+◌, map, drop}
use Rattle.c_ast.specs.TreeViews.{param_of}
use Rattle.c_types_statements.proofs.Left.{next_left, none_left}
use Rattle.c_types.proofs.BodyLemmas.{next_params, no_more_params}
use Rattle.c_types.proofs.functions.params.Goals as goal

pub loop-x-preserved : goal.loop-x-preserved
loop-x-preserved c =
    let list = c.args.list.now in
    let i = c.loop-x.x-index in
    next_params _ _ c.args.homes.now (param_of c.x-item.result) (map param_of (drop (i + 1) list)) (map param_of list)
    (next_left param_of list i c.x-item.result c.loop-x-test.true c.x-item.is) c.loop-x.invariant c.in_ok-param.ensures

pub returns : goal.returns
returns c = no_more_params _ c.args.homes.now (map param_of c.args.list.now) (none_left param_of c.args.list.now c.loop-x.x-index c.loop-x-test.false) c.loop-x.invariant
