use Rattle.std.proofs.Common.{◌≡◌, ◌+◌, drop}
use Rattle.wide_core.specs.Valid.{lines_of_funcs, notes_line}
use Rattle.wide_core.proofs.wide_code.notes_line.Given as goal

abbrev pub invariant-loop-func : goal.invariant-loop-func
invariant-loop-func l = l.line + lines_of_funcs (drop l.func-index l.code.funcs) ≡ notes_line l.code
