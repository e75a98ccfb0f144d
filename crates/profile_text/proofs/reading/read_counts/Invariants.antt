use Rattle.std.proofs.Common.{ℕ, ◌≤◌, ◌<◌, ◌+◌, ◌^◌, length, drop, slice_index_or}
use Rattle.tac_core.specs.declared.code.TacFunc.{TacFunc}
use Rattle.profile_text.specs.Matching.{lines_in}
use Rattle.profile_text.specs.Reading.{ReadsFuncs}
use Rattle.profile_text.proofs.reading.read_counts.Given as goal

abbrev pub invariant-funcs : goal.invariant-funcs
invariant-funcs l = ReadsFuncs 2 l.lines.number l.funcs (drop l.func-index l.funcs) (lines_in l.left) (lines_in l.lines.left.now) l.counts × (l.lines.number + length l.lines.left.now ≤ 33554434) × ((k : ℕ) (d : TacFunc) → k < l.func-index → length (slice_index_or l.funcs k d).blocks < 2 ^ 64)
