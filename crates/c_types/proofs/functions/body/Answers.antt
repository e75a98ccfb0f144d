use Rattle.std.proofs.Common.{map}
use Rattle.c_ast.specs.Trees.{stms}
use Rattle.c_ast.specs.TreeViews.{param_of, stmt_of}
use Rattle.c_types.proofs.BodyLemmas.{whole_body}
use Rattle.c_types.proofs.functions.body.Goals as goal

pub returns : goal.returns
returns c =
    let around = c.args.context in
    whole_body around.result around.homes.now (map param_of c.args.list.now) (stms (map stmt_of c.args.stmts.now))
    c.begin_function-before.ensures.before c.begin_function-before.ensures.begins c.in_ok-enter.ensures c.in_ok-params.ensures c.in_ok-made.ensures
    c.leave.ensures c.end_function.ensures
