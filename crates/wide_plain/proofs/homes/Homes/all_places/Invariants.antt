use Rattle.std.proofs.Common.{◌≡◌, map, take}
use Rattle.plain_code.specs.Plain.{place}
use Rattle.wide_plain.proofs.homes.Homes.all_places.Given as goal

abbrev pub invariant-loop-param : goal.invariant-loop-param
invariant-loop-param l = l.list ≡ map (place l.self.low) (take l.param-index l.params)
