use Rattle.std.proofs.Common.{map}
use Rattle.c_ast.specs.TreeViews.{type_of, param_of}
use Rattle.c_types_operators.specs.ScopeViews.{functions_of}
use Rattle.c_types_functions.specs.Functions.{head_of}
use Rattle.c_types.proofs.ItemLemmas.{prototype_is}
use Rattle.c_types.proofs.items.prototype.Goals as goal

pub returns : goal.returns
returns c =
    let h = c.args.head.now in
    prototype_is (functions_of c.args.bodied.now) (head_of h.place (type_of h.result) h.name (map param_of h.params.items))
    c.in_ok-seen.ensures c.is_good_prototype-bad.ensures c.in_ok-fine.ensures c.nothing_if-answer.ensures
