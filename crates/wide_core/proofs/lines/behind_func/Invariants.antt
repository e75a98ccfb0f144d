use Rattle.std.proofs.Common.{◌≡◌, ◌+◌, drop}
use Rattle.wide_core.specs.Valid.{lines_of_func, lines_of_words}
use Rattle.wide_core.proofs.lines.behind_func.Given as goal

abbrev pub invariant-loop-word : goal.invariant-loop-word
invariant-loop-word l = l.behind + lines_of_words (drop l.word-index l.func.words) ≡ l.lines + lines_of_func l.func
