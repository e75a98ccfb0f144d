use Rattle.std.proofs.Common.{◌≡◌, drop}
use Rattle.std.specs.List.{list_all}
use Rattle.wide_core.specs.Valid.{is_within}
use Rattle.wide_core.proofs.valid_funcs.are_within.Given as goal

abbrev pub invariant-loop-loc : goal.invariant-loop-loc
invariant-loop-loc l = list_all (is_within l.regs l.slots) (drop l.loc-index l.locs) ≡ list_all (is_within l.regs l.slots) l.locs
