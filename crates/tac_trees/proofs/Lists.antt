-- Lists of expressions.
use Rattle.std.proofs.Common.{◌≡◌, ℕ, zero, suc, get_or, ◌+◌, ◌<◌, ◌≤◌, List, length, [], ◌∷◌, ◌++◌, map, ap, sym, ◌∙◌, refl, arith, None}
use Rattle.c_typed.specs.declared.expr.Expr.{Expr}
use Rattle.c_typed.specs.Tree as t
use Rattle.c_typed.specs.Tree.{Exp}
use Rattle.c_typed.specs.Program.{Program}
use Rattle.c_typed.specs.Views.{expr_of, list_exps}
use Rattle.c_kept.specs.Weights.{weight, weights}
use Rattle.tac_lowered.specs.Code.{Code, ◌⨾◌}
use Rattle.tac_lowered.specs.Expressions.{low, effects}
use Rattle.tac_code.specs.Views.{nested}

pub weighs : (e : Exp) → 1 ≤ weight e
weighs (t.constant ty v) = omega arith
weighs (t.text k) = omega arith
weighs (t.address ty of) = omega arith
weighs (t.element ty array length size reach a) = omega arith
weighs (t.slot ty k) = omega arith
weighs (t.load ty a) = omega arith
weighs (t.convert ty a) = omega arith
weighs (t.unary op rank a) = omega arith
weighs (t.not a) = omega arith
weighs (t.binary ty op a b) = omega arith
weighs (t.both a b) = omega arith
weighs (t.either a b) = omega arith
weighs (t.conditional ty a b c) = omega arith
weighs (t.set_slot ty k a) = omega arith
weighs (t.store ty a b) = omega arith
weighs (t.update_slot ty k within op a) = omega arith
weighs (t.update ty a within op b) = omega arith
weighs (t.step_slot ty k within op) = omega arith
weighs (t.step ty a within op) = omega arith
weighs (t.call ty f all) = omega arith
weighs t.get_byte = omega arith
weighs (t.put_byte a) = omega arith
weighs (t.put_number a) = omega arith
weighs (t.comma all a) = omega arith

pub first_weighs : (list : List Expr) (a : Expr) (rest : List Expr) → list ≡ a ∷ rest → weights (list_exps list) ≡ weight (expr_of a) + weights (list_exps rest)
first_weighs list a rest is = ap (λ l. weights (list_exps l)) is

snoc_weighs : (rest : List Expr) (a : Expr) → weights (list_exps (rest ++ a ∷ [])) ≡ weights (list_exps rest) + weight (expr_of a)
snoc_weighs [] a = omega arith
snoc_weighs (x ∷ xs) a = let e1 = snoc_weighs xs a in omega (arith, e1)

pub last_weighs : (list : List Expr) (a : Expr) (rest : List Expr) → list ≡ rest ++ a ∷ [] → weights (list_exps list) ≡ weights (list_exps rest) + weight (expr_of a)
last_weighs list a rest is = ap (λ l. weights (list_exps l)) is ∙ snoc_weighs rest a

pub member_weighs : (list : List Expr) (i : ℕ) (a : Expr) → i < length list → a ≡ get_or list i a → weight (expr_of a) ≤ weights (list_exps list)
member_weighs [] i a below is = absurd (omega arith)
member_weighs (x ∷ xs) zero a below is = let same : weight (expr_of a) ≡ weight (expr_of x) = ap (λ (y : Expr). weight (expr_of y)) is in omega arith
member_weighs (x ∷ xs) (suc i) a below is = let rest : weight (expr_of a) ≤ weights (list_exps xs) = member_weighs xs i a (omega arith) is in omega arith

-- each of a list for what it does: a row
module _ (p : Program) (s r : ℕ) where
  abbrev pub effect_of : Expr → Code
  effect_of a = low p (expr_of a) s None r

  snoc_effects : (rest : List Expr) (a : Expr) → nested (map effect_of rest) (effect_of a) ≡ effects p (list_exps (rest ++ a ∷ [])) s r
  snoc_effects [] a = refl
  snoc_effects (x ∷ []) a = refl
  snoc_effects (x ∷ y ∷ ys) a = ap (λ b. effect_of x ⨾ b) (snoc_effects (y ∷ ys) a)

  pub row_effects : (list : List Expr) (a : Expr) (rest : List Expr) → list ≡ rest ++ a ∷ [] → nested (map effect_of rest) (effect_of a) ≡ effects p (list_exps list) s r
  row_effects list a rest is = snoc_effects rest a ∙ ap (λ l. effects p (list_exps l) s r) (sym is)
