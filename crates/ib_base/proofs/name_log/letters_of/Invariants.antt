use Rattle.std.proofs.Common.{◌≡◌, ◌++◌}
use Rattle.std.specs.Slice.Iter.{iter_rest}
use Rattle.ib_base.specs.NameLog.{letters}
use Rattle.ib_base.proofs.name_log.letters_of.Given as goal

abbrev pub invariant-loop-byte : goal.invariant-loop-byte
invariant-loop-byte l = iter_rest l.byte-iterator.iter ++ letters l.rest ≡ l.name
