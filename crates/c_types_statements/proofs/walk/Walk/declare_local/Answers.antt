use Rattle.std.proofs.Common.{◌&&◌, sym, ap, ◌∙◌}
use Rattle.c_ast.specs.TreeViews.{decl_of}
use Rattle.c_types_statements.proofs.Declaring.{declares}
use Rattle.c_types_statements.proofs.walk.Walk.declare_local.Goals as goal

pub returns-then-own : goal.returns-then-own
returns-then-own c =
    declares (decl_of c.args.d.now) c.in_ok-bad.ensures c.in_ok-new.ensures.new c.in_ok-new.ensures.noted c.keeps-own.ensures c.keeps-good.ensures
    (ap (λ own. own && c.keeps-good.result) (sym c.if-own.true))

pub returns-else-own : goal.returns-else-own
returns-else-own c =
    declares (decl_of c.args.d.now) c.in_ok-bad.ensures c.in_ok-new.ensures.new c.in_ok-new.ensures.noted c.keeps-own.ensures c.keeps-good.ensures
    (c.if-own.false ∙ ap (λ own. own && c.keeps-good.result) (sym c.if-own.false))
