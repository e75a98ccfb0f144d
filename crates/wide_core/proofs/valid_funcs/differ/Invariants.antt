use Rattle.std.proofs.Common.{◌≡◌, [], drop}
use Rattle.wide_core.specs.Valid.{differ}
use Rattle.wide_core.proofs.valid_funcs.differ.Given as goal

abbrev pub invariant-loop-loc : goal.invariant-loop-loc
invariant-loop-loc l = differ l.places (drop l.loc-index l.locs) ≡ differ [] l.locs
