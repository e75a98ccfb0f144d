use Rattle.std.proofs.Common.{◌≡◌, ◌-◌, ◌≤◌, length, drop}
use Rattle.c_lex.specs.First.{put, quoted}
use Rattle.c_lex.proofs.quoted.elements.Given as goal

abbrev pub invariant-elements : goal.invariant-elements
invariant-elements l = record {
  within : l.len ≤ length l.bytes;
  answer : put l.values l.len (quoted l.quote (drop l.len l.bytes)) ≡ quoted l.quote l.bytes;
}

abbrev pub decreases-elements : goal.decreases-elements
decreases-elements l = length l.bytes - l.len
