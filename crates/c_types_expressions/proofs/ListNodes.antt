-- Nodes that hold a list of expressions: calls and commas.
use Rattle.std.proofs.Common.{◌≡◌, ℕ, zero, suc, get_or, ◌+◌, ◌*◌, ◌<◌, List, [], ◌∷◌, length, map, refl, sym, ap, ◌∙◌, subst, arith, append-nil, Option, Some, Result, Ok, Err, IfOk, Vec, Box, Global}
use Rattle.std.specs.Option.{option_map}
use Rattle.ib_meaning.specs.declared.place.Place.{Place}
use Rattle.c_ast.specs.declared.tree.Expr.{Expr, Call, Comma}
use Rattle.c_ast.specs.Trees as c
use Rattle.c_ast.specs.Trees.{Exp, Exps, exps}
use Rattle.c_ast.specs.TreeViews.{expr_of}
use Rattle.c_ast.proofs.Rows.{call_exprs, comma_exprs}
use Rattle.c_typed.specs.declared.types.ValueType.{ValueType}
use Rattle.c_typed.specs.declared.expr.Expr as typed
use Rattle.c_typed.specs.Views.{boxed_of}
use Rattle.c_types_operators.specs.declared.scope.Function as code_function
use Rattle.c_types_operators.specs.declared.scope.Meant as code_meant
use Rattle.c_types_operators.specs.Rules.{both, Fine}
use Rattle.c_types_operators.specs.Scopes.{Scope, Meant, found}
use Rattle.c_types_operators.specs.ScopeViews.{function_of, meant_of}
use Rattle.c_types_operators.specs.declared.designated.Designated as code_designated
use Rattle.c_typed.specs.Tree as typed_tree
use Rattle.c_types_operators.specs.Operators.{argument_number, called, called_with, wanted, a_value}
use Rattle.c_types_operators.proofs.JudgingLemmas.{noted-none}
use Rattle.c_types_expressions.specs.Expressions.{literals_of, arguments, call_in}
use Rattle.c_layout.specs.Layout.{Texts}
use Rattle.c_types_operators.specs.Judging.{Noted, Judges, judges, CarriesBoth}
use Rattle.c_types_operators.specs.Views.{designated_of, exprs_of}
use Rattle.c_types_homes.proofs.Weights.{weight, weights}

abbrev Lighter : ℕ → List Expr → Exp → Type 0
Lighter n list e = 4 * weights (exps (map expr_of list)) + n < 4 * weight e

pub call_tree : (e : Expr) (list : List Expr) (place : Place) (f : List ℕ) (xs : Vec Expr Global) → e ≡ Call place f xs → list ≡ xs.items → c.call place f (exps (map expr_of list)) ≡ expr_of e
call_tree e list place f xs is same = ap (λ l. c.call place f (exps (map expr_of l))) same ∙ sym (ap expr_of is ∙ call_exprs place f xs)

pub comma_tree : (e : Expr) (list : List Expr) (place : Place) (xs : Vec Expr Global) → e ≡ Comma place xs → list ≡ xs.items → c.comma place (exps (map expr_of list)) ≡ expr_of e
comma_tree e list place xs is same = ap (λ l. c.comma place (exps (map expr_of l))) same ∙ sym (ap expr_of is ∙ comma_exprs place xs)

pub call_lighter : (e : Expr) (list : List Expr) (place : Place) (f : List ℕ) (xs : Vec Expr Global) → e ≡ Call place f xs → list ≡ xs.items → Lighter 2 list (expr_of e)
call_lighter e list place f xs is same = subst (λ x. Lighter 2 list x) (call_tree e list place f xs is same) (omega arith)

pub comma_lighter : (e : Expr) (list : List Expr) (place : Place) (xs : Vec Expr Global) → e ≡ Comma place xs → list ≡ xs.items → Lighter 1 list (expr_of e)
comma_lighter e list place xs is same = subst (λ x. Lighter 1 list x) (comma_tree e list place xs is same) (omega arith)

pub member_lighter : (list : List Expr) (i : ℕ) (e : Expr) → i < length list → e ≡ get_or list i e → weight (expr_of e) < weights (exps (map expr_of list))
member_lighter [] i e below is = absurd (omega arith)
member_lighter (x ∷ xs) zero e below is = let same : weight (expr_of e) ≡ weight (expr_of x) = ap (λ (y : Expr). weight (expr_of y)) is in omega arith
member_lighter (x ∷ xs) (suc i) e below is = let rest : weight (expr_of e) < weights (exps (map expr_of xs)) = member_lighter xs i e (omega arith) is in omega arith

argument-count : (xs : List Expr) → length xs ≡ argument_number (exps (map expr_of xs))
argument-count [] = refl
argument-count (x ∷ xs) = ap (λ n. suc n) (argument-count xs)

abbrev Called : Scope → Place → Exps → Noted → Option (Box typed.Expr Global) → Noted → Option Meant → Texts → ℕ → Type 0
Called Γ p xs before answer now meant texts count =
    Judges boxed_of before (literals_of xs) (both (called p count meant) (arguments Γ texts (wanted meant) xs) called_with) answer now

-- a call of a name, from what the name means and from its arguments
pub judged_call : (Γ : Scope) (p : Place) (name : List ℕ) (list : List Expr) (params : List ValueType) (meant : Option code_meant.Meant)
    {before s1 now : Noted} {f : Option code_function.Function} {row : Option (Vec typed.Expr Global)} {answer : Option (Box typed.Expr Global)} →
    option_map meant_of meant ≡ found name Γ → params ≡ wanted (option_map meant_of meant) →
    Judges function_of before [] (called p (length list) (option_map meant_of meant)) f s1 →
    Judges exprs_of s1 (literals_of (exps (map expr_of list))) (arguments Γ s1.texts params (exps (map expr_of list))) row now →
    CarriesBoth function_of exprs_of boxed_of f row now called_with answer now →
    Judges boxed_of before (literals_of (exps (map expr_of list))) (call_in Γ before.texts p name (exps (map expr_of list))) answer now
judged_call Γ p name list params meant {before} {s1} {now} {f} {row} {answer} means takes known given whole =
    let xs : Exps = exps (map expr_of list) in
    let m : Option Meant = option_map meant_of meant in
    subst (λ o. Called Γ p xs before answer now o before.texts (argument_number xs)) means
    (subst (λ n. Called Γ p xs before answer now m before.texts n) (argument-count list)
    (subst (λ texts. Called Γ p xs before answer now m texts (length list)) (append-nil before.texts)
    (whole.carries before s1 [] (literals_of xs) (called p (length list) m) (λ texts. arguments Γ texts (wanted m) xs) known
    (subst (λ ps. Judges exprs_of s1 (literals_of xs) (arguments Γ s1.texts ps xs) row now) takes given))))

-- a literal breaks no rule
pub judged_literal : {E : Type 0} (s : Noted) (x : typed_tree.Exp) (made : Result (Option code_designated.Designated) E) →
    IfOk made (λ answer. option_map designated_of answer ≡ Some (a_value x)) → IfOk made (λ answer. Judges designated_of s [] (Fine (a_value x)) answer s)
judged_literal s x (Ok answer) is = judges is (sym (noted-none s))
judged_literal s x (Err e) is = is
