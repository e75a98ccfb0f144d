use Rattle.std.proofs.Common.{◌≡◌, ◌++◌, drop}
use Rattle.c_layout.specs.Layout.{first_address, addresses}
use Rattle.c_layout.proofs.addresses.global_addresses.Given as goal

abbrev pub invariant-loop-global : goal.invariant-loop-global
invariant-loop-global l = l.found.items ++ addresses l.at (drop l.global-index l.globals) ≡ addresses first_address l.globals
