use Rattle.std.proofs.Common.{sym, subst}
use Rattle.profile.specs.Tallies.{IsTallied, IsTableOf}
use Rattle.profile.proofs.Finals.{of_program}
use Rattle.profile.proofs.Walks.{runs_so, begins_so}
use Rattle.profile.proofs.counting.run_counting.Goals as goal

pub run_within-ran-requires-clause-table : goal.run_within-ran-requires-clause-table
run_within-ran-requires-clause-table g c input =
    subst (λ p. IsTallied p input 0 c.in-Ok.started.1) (sym c.in-Ok.ensures.program) (c.in-Ok.ensures.table input)

pub returns-in-Ok-counted-clause-ok : goal.returns-in-Ok-counted-clause-ok
returns-in-Ok-counted-clause-ok g c =
    runs_so c.args.tac.now c.in-Ok.started.0.program c.args.budget c.in-Ok-ran.outcome c.in-Ok-counted.run'.0 c.run_within-ran.new.tallies c.in-Ok-counted.run'.1 _ _ c.in-Ok.ensures.program c.in-Ok-counted.ensures.outcome c.in-Ok-ran.ensures.ok c.in-Ok-counted.ensures.kept c.in-Ok-counted.ensures.counts

pub returns-in-Ok-counted-clause-counts : goal.returns-in-Ok-counted-clause-counts
returns-in-Ok-counted-clause-counts g c =
    of_program c.args.tac.now c.run_within-ran.new.tallies c.in-Ok-counted.run'.1
    (subst (λ p. IsTableOf p.funcs c.run_within-ran.new.tallies) c.in-Ok.ensures.program c.in-Ok-ran.ensures.shape)
    c.in-Ok-counted.ensures.counts

pub returns-clause-broken : goal.returns-clause-broken
returns-clause-broken g c =
    begins_so c.args.tac.now c.in-Ok.started.0.program c.args.budget c.in-Ok-ran.outcome c.run_within-ran.new.tallies _ _ c.in-Ok.ensures.program c.in-Ok-ran.ensures.ok
