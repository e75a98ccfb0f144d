use Rattle.std.proofs.Common.{◌≡◌, take, fold}
use Rattle.c_ast.specs.Cut.{clear_past}
use Rattle.c_lex.proofs.lexer.is_clear_past.Given as goal

abbrev pub invariant-loop-b : goal.invariant-loop-b
invariant-loop-b l = l.clear ≡ fold clear_past l.before (take l.b-index l.bytes)
