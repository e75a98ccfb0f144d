use Rattle.c_ast.specs.TreeViews.{decl_of}
use Rattle.c_types.proofs.GlobalLemmas.{global_is}
use Rattle.c_types.proofs.globals.global.Goals as goal

pub returns : goal.returns
returns c =
    global_is (decl_of c.args.d.now) c.in_ok-shape.ensures c.in_ok-number.ensures.number c.in_ok-bad.ensures c.in_ok-number.ensures.noted c.in_ok-declare.ensures.noted
    c.keeps-fine.ensures c.in_ok-held.ensures c.global_of-answer.ensures
