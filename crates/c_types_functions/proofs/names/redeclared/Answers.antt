use Rattle.std.proofs.Common.{◌∙◌, ap, map, [], List, arith}
use Rattle.std.proofs.lemmas.List.{drop_all}
use Rattle.c_ast.specs.declared.tree_unit.Item.{Item}
use Rattle.c_ast.specs.TreeViews.{item_of}
use Rattle.c_types_operators.specs.Judging.{noted}
use Rattle.c_types_functions.specs.Functions.{Declared, all_declared}
use Rattle.c_types_functions.proofs.NameLemmas.{found_all}
use Rattle.c_types_functions.proofs.LoopLemmas.{next, leads_on, leads_end}
use Rattle.c_types_functions.proofs.names.redeclared.Goals as goal

abbrev declared_in : List Item → List Declared
declared_in items = all_declared (map item_of items)

pub loop-item-preserved : goal.loop-item-preserved
loop-item-preserved c =
    let items = c.args.unit.now.items.items in
    leads_on
    (ap declared_in (next items c.deref-item-items.result.now c.loop-item.item-index c.item-item.result c.deref-item-items.ensures.value c.loop-item-test.true c.item-item.is))
    c.loop-item.invariant c.in_ok-item.ensures

pub returns : goal.returns
returns c =
    let items = c.args.unit.now.items.items in
    (leads_end (ap declared_in (drop_all c.loop-item.item-index items (omega (arith, c.deref-item-items.ensures.len)))) c.loop-item.invariant).notes
    ∙ ap (noted c.args.notes.now []) (found_all (declared_in items))
