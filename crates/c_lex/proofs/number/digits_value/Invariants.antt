use Rattle.std.proofs.Common.{◌≡◌, ◌<◌, take}
use Rattle.std.specs.Str.Parse.{digits_value, AllDigits}
use Rattle.c_lex.proofs.number.digits_value.Given as goal

abbrev pub invariant-loop-b : goal.invariant-loop-b
invariant-loop-b l = record {
  digits : AllDigits l.base (take l.b-index l.digits);
  value : l.value ≡ digits_value l.base (take l.b-index l.digits);
  small : l.value < 9223372036854775808;
}
