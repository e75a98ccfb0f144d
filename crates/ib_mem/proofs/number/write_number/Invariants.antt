use Rattle.std.proofs.Common.{◌≡◌, ◌-◌, ◌++◌, length, take}
use Rattle.ib_mem.specs.Memory.{bytes_of}
use Rattle.ib_mem.proofs.number.write_number.Given as goal

abbrev pub invariant-loop-byte : goal.invariant-loop-byte
invariant-loop-byte l = take l.byte-index l.bytes ++ bytes_of (length l.bytes - l.byte-index) l.left ≡ bytes_of (length l.bytes) l.number
