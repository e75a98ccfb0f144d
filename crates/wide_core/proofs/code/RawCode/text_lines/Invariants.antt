use Rattle.std.proofs.Common.{◌≡◌, ◌+◌, drop}
use Rattle.wide_core.specs.Valid.{lines_of_funcs, text_lines}
use Rattle.wide_core.proofs.code.RawCode.text_lines.Given as goal

abbrev pub invariant-loop-func : goal.invariant-loop-func
invariant-loop-func l = l.lines + lines_of_funcs (drop l.func-index l.self.funcs) ≡ text_lines l.self
