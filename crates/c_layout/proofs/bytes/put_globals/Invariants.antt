use Rattle.std.proofs.Common.{◌≡◌, ◌++◌, drop}
use Rattle.c_layout.specs.Layout.{first_address, globals_bytes}
use Rattle.c_layout.proofs.bytes.put_globals.Given as goal

abbrev pub invariant-loop-global : goal.invariant-loop-global
invariant-loop-global l = l.bytes.items ++ globals_bytes l.strings l.at (drop l.global-index l.globals) ≡ l.fn.bytes.items ++ globals_bytes l.strings first_address l.globals
