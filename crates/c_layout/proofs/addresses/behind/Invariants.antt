use Rattle.std.proofs.Common.{◌≡◌, drop}
use Rattle.c_layout.specs.Layout.{first_address, behind}
use Rattle.c_layout.proofs.addresses.behind.Given as goal

abbrev pub invariant-loop-global : goal.invariant-loop-global
invariant-loop-global l = behind l.at (drop l.global-index l.globals) ≡ behind first_address l.globals
