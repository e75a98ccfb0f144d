use Rattle.std.proofs.Common.{◌≡◌, pos, map, take}
use Rattle.c_layout.specs.declared.data.Datum.TheVariants.{Number}
use Rattle.c_types_initial.proofs.constants.string_data.Given as goal

abbrev pub invariant-loop-byte : goal.invariant-loop-byte
invariant-loop-byte l = l.held ≡ map (λ b. Number (pos b)) (take l.byte-index l.bytes)
