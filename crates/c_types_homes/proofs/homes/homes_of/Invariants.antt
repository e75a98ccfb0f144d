use Rattle.std.proofs.Common.{◌≡◌, ◌++◌, drop}
use Rattle.c_types_homes.specs.Homes.{homes_from, given_behind, none_given}
use Rattle.c_types_homes.proofs.homes.homes_of.Given as goal

abbrev pub invariant-loop-k : goal.invariant-loop-k
invariant-loop-k l = record {
  homes : l.homes ++ homes_from l.addressed l.k l.given (drop l.k l.shapes) ≡ homes_from l.addressed 0 none_given l.shapes;
  given : given_behind l.addressed l.k l.given (drop l.k l.shapes) ≡ given_behind l.addressed 0 none_given l.shapes;
}
