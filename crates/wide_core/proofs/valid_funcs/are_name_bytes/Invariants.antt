use Rattle.std.proofs.Common.{◌≡◌, ◌||◌, drop}
use Rattle.std.specs.List.{list_all}
use Rattle.wide_core.specs.Valid.{is_digit, is_letter}
use Rattle.wide_core.proofs.valid_funcs.are_name_bytes.Given as goal

abbrev pub invariant-loop-byte : goal.invariant-loop-byte
invariant-loop-byte l = list_all (λ c. is_letter c || is_digit c) (drop l.byte-index l.bytes) ≡ list_all (λ c. is_letter c || is_digit c) l.bytes
