use Rattle.std.proofs.Common.{◌≡◌, ℕ, refl, subst, true, length}
use Rattle.std.specs.Prelude.{◌==◌}
use Rattle.ib_meaning.proofs.Facts.{same_number}
use Rattle.c_types_operators.proofs.JudgingLemmas.{fine}
use Rattle.c_types_expressions.proofs.names.called_as.Goals as goal

equal-numbers : (m n : ℕ) → m ≡ n → (m == n) ≡ true
equal-numbers m n e = subst (λ k. (m == k) ≡ true) e (same_number m)

pub returns-then-function-count : goal.returns-then-function-count
returns-then-function-count c =
    let e : (length c.in-Function.function.params.now == c.args.count) ≡ true = equal-numbers _ _ c.if-function-count.true in
    fine _ (rw (c.in-Function.is, e) refl) refl
