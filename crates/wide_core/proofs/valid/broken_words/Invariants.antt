use Rattle.std.proofs.Common.{◌≡◌, ◌+◌, ◌++◌, drop, slice_get}
use Rattle.wide_core.specs.Valid.{limits, lines_of_words, numbers_in, of_words}
use Rattle.wide_core.proofs.valid.broken_words.Given as goal

abbrev pub invariant-loop-i : goal.invariant-loop-i
invariant-loop-i g l = record {
  first : slice_get (of_words (limits g.M.Machine.WIDTH g.M.Machine.REGS g.M.Machine.units_of) l.scope l.numbers l.at (drop l.i l.words)) 0 ≡ slice_get (of_words (limits g.M.Machine.WIDTH g.M.Machine.REGS g.M.Machine.units_of) l.scope l.initial.numbers l.line l.words) 0;
  numbers : l.numbers ++ numbers_in (drop l.i l.words) ≡ l.initial.numbers ++ numbers_in l.words;
  lines : l.at + lines_of_words (drop l.i l.words) ≡ l.line + lines_of_words l.words;
}
