use Rattle.std.proofs.Common.{rules, ap, ◌∙◌}
use Rattle.profile.specs.Tallies.{entered_func, with_at}
use Rattle.profile.proofs.Tables.{found, entered_set, entered_all}
use Rattle.profile.proofs.tallies.Tallies.enter.Goals as goal

pub invariant_of-self : goal.invariant_of-self
invariant_of-self c =
    entered_all c.self.inside.funcs.items c.args.func c.index_mut-tally.result.now c.one_more-tally.result (found c.self.inside.funcs.items c.args.func c.index_mut-tally.result.now (search rules) c.index_mut-tally.ensures.value) (search rules) (search rules)

pub returns : goal.returns
returns c =
    entered_set c.self.inside.funcs.items c.args.func c.index_mut-tally.result.now c.one_more-tally.result (found c.self.inside.funcs.items c.args.func c.index_mut-tally.result.now (search rules) c.index_mut-tally.ensures.value) (search rules)
    ∙ ap (with_at entered_func c.args.func) (search rules)
