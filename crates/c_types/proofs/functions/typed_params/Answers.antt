use Rattle.std.proofs.Common.{◌+◌, ◌++◌, map, drop, length, ap}
use Rattle.c_ast.specs.TreeViews.{param_of}
use Rattle.c_types_statements.proofs.Left.{next_left, none_left}
use Rattle.c_types_units.specs.Units.{params_typed}
use Rattle.c_types.proofs.BodyLemmas.{next_typed, no_more_typed}
use Rattle.c_types.proofs.functions.typed_params.Goals as goal

pub loop-param-init : goal.loop-param-init
loop-param-init c = ap (λ made. made ++ params_typed c.args.homes.now (length made) (map param_of c.args.list.now)) c.new-made.ensures.items

pub loop-param-preserved : goal.loop-param-preserved
loop-param-preserved c =
    let list = c.args.list.now in
    let i = c.loop-param.param-index in
    next_typed _ c.args.homes.now (param_of c.param-item.result) (map param_of (drop (i + 1) list)) (map param_of list)
    (next_left param_of list i c.param-item.result c.loop-param-test.true c.param-item.is) c.loop-param.invariant c.in_ok-add_param.ensures

pub returns : goal.returns
returns c = no_more_typed c.args.homes.now (map param_of c.args.list.now) (none_left param_of c.args.list.now c.loop-param.param-index c.loop-param-test.false) c.loop-param.invariant
