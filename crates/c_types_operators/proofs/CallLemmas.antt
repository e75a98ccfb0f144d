-- What calls, arguments and comma expressions give.
use Rattle.std.proofs.Common.{◌≡◌, refl, ap, List, [], ◌∷◌, ◌++◌, length}
use Rattle.ib_meaning.specs.declared.place.Place.{Place}
use Rattle.c_ast.specs.Trees as c
use Rattle.c_typed.specs.declared.types.ValueType.{ValueType}
use Rattle.c_typed.specs.declared.expr.Expr.{Expr}
use Rattle.c_typed.specs.Tree as t
use Rattle.c_typed.specs.Views.{expr_of, list_exps}
use Rattle.c_types_operators.specs.Rules.{Judged, Fine}
use Rattle.c_types_operators.specs.Operators.{given_to, comma_of, last_of, before_last, and_then}

pub none_given : (wanted : List ValueType) (e : c.Exp) (j : Judged t.Exp) → length wanted ≡ 0 → given_to wanted e j ≡ j
none_given [] e j none = refl
none_given (ty ∷ more) e j none = cc

last-snoc : (x : t.Exp) (xs : List Expr) (y : Expr) → last_of x (list_exps (xs ++ (y ∷ []))) ≡ expr_of y
last-snoc x [] y = refl
last-snoc x (z ∷ zs) y = last-snoc (expr_of z) zs y

before-snoc : (x : t.Exp) (xs : List Expr) (y : Expr) → before_last x (list_exps (xs ++ (y ∷ []))) ≡ t.an_exp x (list_exps xs)
before-snoc x [] y = refl
before-snoc x (z ∷ zs) y = ap (λ l. t.an_exp x l) (before-snoc (expr_of z) zs y)

pub comma_snoc : (p : Place) (xs : List Expr) (y : Expr) → comma_of p (list_exps (xs ++ (y ∷ []))) ≡ Fine (t.comma (list_exps xs) (expr_of y))
comma_snoc p [] y = refl
comma_snoc p (x ∷ xs) y = rw (last-snoc (expr_of x) xs y, before-snoc (expr_of x) xs y) refl

pub and_then_snoc : (xs : List Expr) (y : Expr) → list_exps (xs ++ (y ∷ [])) ≡ and_then (list_exps xs) (expr_of y)
and_then_snoc [] y = refl
and_then_snoc (x ∷ xs) y = ap (λ l. t.an_exp (expr_of x) l) (and_then_snoc xs y)
