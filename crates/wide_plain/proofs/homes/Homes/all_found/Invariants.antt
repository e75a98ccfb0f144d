use Rattle.std.proofs.Common.{◌≡◌, map, take}
use Rattle.plain_code.specs.Plain.{found_in}
use Rattle.wide_plain.proofs.homes.Homes.all_found.Given as goal

abbrev pub invariant-loop-arg : goal.invariant-loop-arg
invariant-loop-arg l = l.list ≡ map (found_in l.self.low l.args) (take l.arg-index l.args)
