use Rattle.std.proofs.Common.{refl, ap, map, List, arith}
use Rattle.std.proofs.lemmas.List.{drop_all}
use Rattle.c_ast.specs.declared.tree_unit.Declarator.{Declarator}
use Rattle.c_ast.specs.Trees.{variables}
use Rattle.c_ast.specs.TreeViews.{decl_of}
use Rattle.c_types_functions.specs.Functions.{Declared, declared_by}
use Rattle.c_types_functions.proofs.LoopLemmas.{next, leads_on, leads_end}
use Rattle.c_types_functions.proofs.names.Seen.globals.Goals as goal

abbrev declared_in : List Declarator → List Declared
declared_in ds = declared_by (variables (map decl_of ds))

pub loop-d-preserved : goal.loop-d-preserved
loop-d-preserved c =
    leads_on
    (ap declared_in (next c.args.list.now c.args.list.now c.loop-d.d-index c.d-item.result refl c.loop-d-test.true c.d-item.is))
    c.loop-d.invariant c.in_ok-global.ensures

pub returns : goal.returns
returns c = leads_end (ap declared_in (drop_all c.loop-d.d-index c.args.list.now (omega arith))) c.loop-d.invariant
