use Rattle.std.proofs.Common.{◌≡◌, map, take}
use Rattle.profile.specs.Tallies.{taken_of}
use Rattle.profile.proofs.tallies.Tallies.counts.Given as goal

abbrev pub invariant-loop-tally : goal.invariant-loop-tally
invariant-loop-tally l = l.funcs ≡ map taken_of (take l.tally-index l.tally-items)
