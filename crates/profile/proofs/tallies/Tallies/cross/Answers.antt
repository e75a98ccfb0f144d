use Rattle.std.proofs.Common.{rules, ap, ◌∙◌}
use Rattle.profile.specs.Tallies.{crossed_func, with_at}
use Rattle.profile.proofs.Tables.{found, crossed_set, crossed_all, func_rises}
use Rattle.profile.proofs.tallies.Tallies.cross.Goals as goal

pub cross_in-requires : goal.cross_in-requires
cross_in-requires c = func_rises c.self.inside.funcs.items c.args.func c.index_mut.result.now (found c.self.inside.funcs.items c.args.func c.index_mut.result.now (search rules) c.index_mut.ensures.value) (search rules)

pub invariant_of-self : goal.invariant_of-self
invariant_of-self c =
    crossed_all c.self.inside.funcs.items c.args.func c.args.from c.args.to c.index_mut.result.now c.cross_in.new.edges (found c.self.inside.funcs.items c.args.func c.index_mut.result.now (search rules) c.index_mut.ensures.value) (search rules) (search rules)

pub returns : goal.returns
returns c =
    crossed_set c.self.inside.funcs.items c.args.func c.args.from c.args.to c.index_mut.result.now c.cross_in.new.edges (found c.self.inside.funcs.items c.args.func c.index_mut.result.now (search rules) c.index_mut.ensures.value) (search rules)
    ∙ ap (with_at (crossed_func c.args.from c.args.to) c.args.func) (search rules)
