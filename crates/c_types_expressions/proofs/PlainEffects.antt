-- What stands for what it does, and is no call or no comma expression.
use Rattle.std.proofs.Common.{◌≡◌, sym, subst, Option, Result, IfOk, Box, Global}
use Rattle.c_ast.specs.Trees as c
use Rattle.c_typed.specs.declared.expr.Expr.{Expr}
use Rattle.c_typed.specs.Views.{boxed_of}
use Rattle.c_types_operators.specs.Scopes.{Scope}
use Rattle.c_types_operators.specs.Judging.{Noted, Judges}
use Rattle.c_types_expressions.specs.Expressions.{literals, value, effect_of, effect}

module _ {E : Type 0} (before now : Noted) (result : Result (Option (Box Expr Global)) E) (Γ : Scope) (x : c.Exp) where
  pub no_call : effect_of Γ before.texts x ≡ value Γ before.texts x →
      IfOk result (λ answer. Judges boxed_of before (literals x) (value Γ before.texts x) answer now) →
      IfOk result (λ answer. Judges boxed_of before (literals x) (effect_of Γ before.texts x) answer now)
  no_call is h = subst (λ j. IfOk result (λ answer. Judges boxed_of before (literals x) j answer now)) (sym is) h

  pub no_comma : effect Γ before.texts x ≡ effect_of Γ before.texts x →
      IfOk result (λ answer. Judges boxed_of before (literals x) (effect_of Γ before.texts x) answer now) →
      IfOk result (λ answer. Judges boxed_of before (literals x) (effect Γ before.texts x) answer now)
  no_comma is h = subst (λ j. IfOk result (λ answer. Judges boxed_of before (literals x) j answer now)) (sym is) h
