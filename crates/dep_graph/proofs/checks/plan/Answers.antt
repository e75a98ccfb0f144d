use Rattle.std.proofs.Common.{◌∙◌, ap}
use Rattle.sb_core.specs.Chain.{chain}
use Rattle.dep_graph.specs.Carriers.{backwards}
use Rattle.dep_graph.proofs.Carried.{turned_twice}
use Rattle.dep_graph.proofs.checks.plan.Goals as goal

pub returns : goal.returns
returns c =
    c.keep.ensures ∙ c.in_ok-chain.ensures ∙ ap backwards (c.as_slice.ensures ∙ c.in_ok-behind.ensures.members) ∙ turned_twice (chain c.items.result.now)
    ∙ ap chain c.items.ensures.value
