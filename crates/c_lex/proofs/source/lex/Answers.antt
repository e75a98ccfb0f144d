use Rattle.std.proofs.Common.{sym}
use Rattle.c_lex.proofs.LexingLemmas.{next_follows, stuck, ended, only_end}
use Rattle.c_lex.proofs.source.lex.Goals as goal

pub pieces-preserved : goal.pieces-preserved
pieces-preserved c = (next_follows c.args.bytes.now c.pieces.lexer c.in-Ok.next c.pieces.invariant (sym c.pieces-test.ensures) c.in-Ok.ensures).0

pub pieces-smaller : goal.pieces-smaller
pieces-smaller c = (next_follows c.args.bytes.now c.pieces.lexer c.in-Ok.next c.pieces.invariant (sym c.pieces-test.ensures) c.in-Ok.ensures).1

pub returns-in-Err-clause-refused : goal.returns-in-Err-clause-refused
returns-in-Err-clause-refused c = (stuck c.args.bytes.now c.pieces.lexer c.in-Err.e c.pieces.invariant (sym c.pieces-test.ensures) c.in-Err.ensures).0

pub returns-in-Err-clause-only : goal.returns-in-Err-clause-only
returns-in-Err-clause-only c = (stuck c.args.bytes.now c.pieces.lexer c.in-Err.e c.pieces.invariant (sym c.pieces-test.ensures) c.in-Err.ensures).1

pub returns-clause-ok : goal.returns-clause-ok
returns-clause-ok c = ended c.args.bytes.now c.pieces.lexer c.pieces.invariant (sym c.pieces-test.ensures)

pub returns-clause-only : goal.returns-clause-only
returns-clause-only c = only_end c.args.bytes.now c.pieces.lexer c.pieces.invariant (sym c.pieces-test.ensures)
