use Rattle.std.proofs.Common.{refl}
use Rattle.c_types_operators.specs.Operators.{a_signed}
use Rattle.c_types_operators.proofs.JudgingLemmas.{fine, bound}
use Rattle.c_types_operators.proofs.unary.signed.Goals as goal

pub returns : goal.returns
returns c = bound (a_signed c.args.op) c.in-Some.ensures (fine _ (cc c.in_ok-value.ensures) refl)
