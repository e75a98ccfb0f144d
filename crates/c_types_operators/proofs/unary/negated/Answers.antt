use Rattle.std.proofs.Common.{refl, ap, sym}
use Rattle.c_types_operators.specs.Rules.{Fine}
use Rattle.c_types_operators.specs.Operators.{negated, a_value}
use Rattle.c_types_operators.proofs.JudgingLemmas.{fine, bound, bound_none}
use Rattle.c_types_operators.proofs.unary.negated.Goals as goal

pub returns-in_default : goal.returns-in_default
returns-in_default c = bound_none negated (rw c.in_ok-x.ensures at c.in_default.ensures)

pub returns : goal.returns
returns c = bound negated (rw c.in_ok-x.ensures at c.in-Some.ensures) (fine _ (ap (λ x. Fine (a_value x)) (sym c.in_ok-value.ensures)) refl)
