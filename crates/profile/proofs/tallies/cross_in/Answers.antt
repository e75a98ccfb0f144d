use Rattle.std.proofs.Common.{rules, ◌∙◌}
use Rattle.profile.proofs.Tables.{found_is_crossed, no_edge_crossed}
use Rattle.profile.proofs.tallies.cross_in.Goals as goal

pub returns-in-Some : goal.returns-in-Some
returns-in-Some c =
    c.set.ensures
    ∙ found_is_crossed c.args.from c.args.to c.args.edges.now c.in-Some.at c.once_more-count.result (search rules) (search rules) (search rules)

pub returns-in_default : goal.returns-in_default
returns-in_default c = no_edge_crossed c.args.from c.args.to c.args.edges.now (search rules)
