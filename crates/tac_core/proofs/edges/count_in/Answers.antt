use Rattle.std.proofs.Common.{sym, ap, ◌∙◌}
use Rattle.tac_core.specs.Counts.{count_at}
use Rattle.tac_core.proofs.Found.{parted, count_found}
use Rattle.tac_core.proofs.edges.count_in.Goals as goal

pub place_of-at-requires : goal.place_of-at-requires
place_of-at-requires c = parted c.args.edges.now c.args.from c.args.to c.requires

pub returns : goal.returns
returns c =
    c.count_of.ensures ∙ ap (count_at c.args.from c.args.to) c.at.ensures
    ∙ sym (count_found c.args.edges.now c.place_of-at.result c.args.from c.args.to c.requires c.place_of-at.ensures.0 c.place_of-at.ensures.1)
