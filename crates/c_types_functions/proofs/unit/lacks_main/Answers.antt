use Rattle.std.proofs.Common.{◌∙◌, ap, not, rules, tests}
use Rattle.std.proofs.lemmas.Iterator.{YieldsList-from_slice}
use Rattle.std.proofs.lemmas.Iterator.Search.{any_from_yields_List}
use Rattle.c_types_functions.specs.Functions.{is_main}
use Rattle.c_types_functions.specs.Views.{plain_head}
use Rattle.c_types_functions.proofs.LoopLemmas.{any_map}
use Rattle.c_types_functions.proofs.unit.lacks_main.Goals as goal

pub returns : goal.returns
returns c =
    let bodies = c.args.bodies.now in
    ap not
    (any_from_yields_List (λ h. is_main (plain_head h)) _ _ c.any.result c.any.ensures.ran (YieldsList-from_slice bodies cc) (λ x b q k. search (rules, tests))
    ∙ any_map is_main plain_head bodies)
