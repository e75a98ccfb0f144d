use Rattle.std.proofs.Common.{rules}
use Rattle.tac_core.proofs.Found.{parted, no_edge}
use Rattle.tac_core.proofs.edges.find_edge.Goals as goal

pub place_of-at-requires : goal.place_of-at-requires
place_of-at-requires c = parted c.args.edges.now c.args.from c.args.to c.requires

pub returns-in-None : goal.returns-in-None
returns-in-None c =
    no_edge c.args.edges.now c.place_of-at.result c.args.from c.args.to c.requires c.place_of-at.ensures.0 c.place_of-at.ensures.1 (λ e is. absurd (search rules))

pub returns-else-is_edge : goal.returns-else-is_edge
returns-else-is_edge c =
    no_edge c.args.edges.now c.place_of-at.result c.args.from c.args.to c.requires c.place_of-at.ensures.0 c.place_of-at.ensures.1 (λ e is. search rules)
