use Rattle.std.proofs.Common.{◌≡◌, true, Some, drop}
use Rattle.std.specs.Str.{all_ascii_digits}
use Rattle.profile_text.specs.Numbers.{number_from, fits}
use Rattle.profile_text.proofs.number.value_of.Given as goal

abbrev pub invariant-loop-digit : goal.invariant-loop-digit
invariant-loop-digit l =
    (number_from l.value (drop l.digit-index l.digits) ≡ number_from 0 l.digits) × (all_ascii_digits (drop l.digit-index l.digits) ≡ true) × (fits l.value ≡ Some l.value)
