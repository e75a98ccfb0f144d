use Rattle.std.proofs.Common.{◌≡◌, ◌++◌, drop}
use Rattle.c_layout.specs.Layout.{data_bytes}
use Rattle.c_layout.proofs.bytes.put_data.Given as goal

abbrev pub invariant-loop-datum : goal.invariant-loop-datum
invariant-loop-datum l = l.bytes.items ++ data_bytes l.strings l.size (drop l.datum-index l.held) ≡ l.fn.bytes.items ++ data_bytes l.strings l.size l.held
