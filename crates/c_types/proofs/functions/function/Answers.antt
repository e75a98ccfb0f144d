use Rattle.std.proofs.Common.{map}
use Rattle.c_ast.specs.Trees.{stms}
use Rattle.c_ast.specs.TreeViews.{type_of, param_of, stmt_of}
use Rattle.c_types_functions.specs.Functions.{head_of}
use Rattle.c_types.proofs.BodyLemmas.{function_is}
use Rattle.c_types.proofs.functions.function.Goals as goal

pub returns : goal.returns
returns c =
    let h = c.args.head.now in
    function_is (head_of h.place (type_of h.result) h.name (map param_of h.params.items)) (stms (map stmt_of c.args.stmts.now))
    c.in_ok-seen.ensures c.has_unnamed.ensures c.result.ensures c.as_slice.ensures (rw c.deref.ensures.value at c.in_ok-found.ensures.homes)
    (rw c.deref.ensures.value at c.in_ok-found.ensures.slots) (rw c.deref.ensures.value at c.in_ok-found.ensures.frame)
    c.in_ok-fine.ensures (rw c.deref-2.ensures.value at c.in_ok-made.ensures) c.in_ok-answer.ensures
