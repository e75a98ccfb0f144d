use Rattle.std.proofs.Common.{◌≡◌, ◌+◌, drop, false}
use Rattle.std.specs.Option.{option_map}
use Rattle.c_ast.specs.Pieces.{behind_close}
use Rattle.c_lex.proofs.gaps.comment_len.Given as goal

abbrev pub invariant-loop-i : goal.invariant-loop-i
invariant-loop-i l = option_map (λ n. l.i + n) (behind_close l.star (drop l.i l.bytes)) ≡ behind_close false l.bytes
