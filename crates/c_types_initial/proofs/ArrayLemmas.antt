-- An array that is given a value other than a string.
use Rattle.std.proofs.Common.{◌≡◌, refl, ℕ}
use Rattle.ib_meaning.specs.declared.place.Place.{Place}
use Rattle.ib_base.specs.declared.text.Text.{Text}
use Rattle.c_ast.specs.declared.tree.Expr.{Expr}
use Rattle.c_ast.specs.declared.tree.Expr as e
use Rattle.c_ast.specs.Trees.{value}
use Rattle.c_ast.specs.TreeViews.{expr_of}
use Rattle.c_typed.specs.declared.types.ValueType.{ValueType}
use Rattle.c_layout.specs.declared.shape.Shape.TheVariants.{Array}
use Rattle.c_layout.specs.Layout.{Texts}
use Rattle.c_types_operators.specs.Scopes.{Scope}
use Rattle.c_types_expressions.specs.Expressions.{literals}
use Rattle.c_types_initial.specs.Constants.{array_value, array_data, laid_out}

abbrev NoString : Expr → Type 0
NoString x = (place : Place) (bytes : Text) → x ≡ e.Str place bytes → ⊥

abbrev IsValue : Scope → Texts → Place → ValueType → ℕ → Expr → Type 0
IsValue Γ n p ty m x = (array_data Γ n p ty m (value (expr_of x)) ≡ array_value Γ n p ty (expr_of x)) × (laid_out (Array ty m) (value (expr_of x)) ≡ literals (expr_of x))

pub no_string : (Γ : Scope) (n : Texts) (p : Place) (ty : ValueType) (m : ℕ) (x : Expr) → NoString x → IsValue Γ n p ty m x
no_string Γ n p ty m (e.Name place name) not = (refl, refl)
no_string Γ n p ty m (e.Number place v long) not = (refl, refl)
no_string Γ n p ty m (e.Char place v) not = (refl, refl)
no_string Γ n p ty m (e.Str place bytes) not = absurd (not place bytes refl)
no_string Γ n p ty m (e.Null place) not = (refl, refl)
no_string Γ n p ty m (e.Eof place) not = (refl, refl)
no_string Γ n p ty m (e.Call' place name _ row) not = (refl, refl)
no_string Γ n p ty m (e.Index' place _ a _ i) not = (refl, refl)
no_string Γ n p ty m (e.Postfix' place op _ a) not = (refl, refl)
no_string Γ n p ty m (e.Unary' place op _ a) not = (refl, refl)
no_string Γ n p ty m (e.Cast' place to _ a) not = (refl, refl)
no_string Γ n p ty m (e.Binary' place op _ a _ b) not = (refl, refl)
no_string Γ n p ty m (e.Conditional' place _ a _ b _ d) not = (refl, refl)
no_string Γ n p ty m (e.Assign' place op _ a _ b) not = (refl, refl)
no_string Γ n p ty m (e.Comma' place _ row) not = (refl, refl)
