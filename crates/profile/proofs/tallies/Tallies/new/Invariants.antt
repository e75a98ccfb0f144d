use Rattle.std.proofs.Common.{◌≡◌, map, take}
use Rattle.profile.specs.Tallies.{no_tallies}
use Rattle.profile.proofs.tallies.Tallies.new.Given as goal

abbrev pub invariant-loop-func : goal.invariant-loop-func
invariant-loop-func l = l.funcs.items ≡ map no_tallies (take l.func-index l.func-items)
