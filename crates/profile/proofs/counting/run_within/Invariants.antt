use Rattle.std.proofs.Common.{◌≡◌}
use Rattle.ib_run.specs.OverHost.{OverHost}
use Rattle.profile.specs.Sound.{IsSound, state_of}
use Rattle.profile.specs.Tallies.{IsTableOf}
use Rattle.profile.specs.Walking.{Walked}
use Rattle.profile.proofs.counting.run_within.Given as goal

abbrev pub invariant-loop-done : goal.invariant-loop-done
invariant-loop-done g l =
    (l.run.program ≡ l.fn.run.program) × IsSound l.run × IsTableOf l.fn.run.program.funcs l.tallies
    × OverHost (Walked l.fn.run.program l._done (state_of l.run) l.tallies) (g.H.Host.world l.fn.host) (g.H.Host.world l.host)
    × (g.H.Host.faults l.host ≡ g.H.Host.faults l.fn.host) × (g.H.Host.sure l.fn.host → g.H.Host.sure l.host)
