use Rattle.std.proofs.Common.{length}
use Rattle.c_lex.proofs.LexingLemmas.{Follows}
use Rattle.c_lex.proofs.source.lex.Given as goal

abbrev pub invariant-pieces : goal.invariant-pieces
invariant-pieces l = Follows l.bytes l.lexer

abbrev pub decreases-pieces : goal.decreases-pieces
decreases-pieces l = length l.lexer.left
