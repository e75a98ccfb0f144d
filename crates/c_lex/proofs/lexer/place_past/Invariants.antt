use Rattle.std.proofs.Common.{◌≡◌, ◌≤◌, ◌+◌, take, fold}
use Rattle.c_ast.specs.Cut.{past_byte}
use Rattle.c_lex.proofs.lexer.place_past.Given as goal

abbrev pub invariant-loop-b : goal.invariant-loop-b
invariant-loop-b l = record {
  folded : l.place ≡ fold past_byte l.fn.before (take l.b-index l.bytes);
  line : l.place.line ≤ l.fn.before.line + l.b-index;
  column : l.place.col ≤ l.fn.before.col + l.b-index;
}
