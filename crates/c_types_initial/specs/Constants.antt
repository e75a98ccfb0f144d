-- What globals hold at first, and which rules their initialisers break.
use Rattle.std.specs.Prelude.{ℕ, zero, suc, nat_lt, nat_le, ◌&&◌, not, Bool, true, false, ℤ, pos, List, [], ◌∷◌, ◌++◌, length, map, take, if◌then◌else◌}
use Rattle.ib_meaning.specs.declared.place.Place.{Place}
use Rattle.c_ast.specs.declared.tree.Base.TheVariants.{Char}
use Rattle.c_ast.specs.declared.tree.UnaryOp.TheVariants as u
use Rattle.c_ast.specs.Trees as c
use Rattle.c_typed.specs.declared.types.ValueType.{ValueType}
use Rattle.c_typed.specs.declared.types.ValueType.TheVariants as v
use Rattle.c_typed.specs.Tree as t
use Rattle.c_typed.specs.Values.{converted, signed, ranked}
use Rattle.c_layout.specs.declared.shape.Shape.{Shape}
use Rattle.c_layout.specs.declared.shape.Shape.TheVariants.{Scalar, Array}
use Rattle.c_layout.specs.declared.data.Datum.{Datum}
use Rattle.c_layout.specs.declared.data.Datum.TheVariants.{Number, Text}
use Rattle.c_layout.specs.Layout.{Texts}
use Rattle.c_typed.specs.declared.rule.Rule.TheVariants.{NotAssignable, WrongInitialiser}
use Rattle.c_types_operators.specs.Rules.{Judged, Fine, breaks, ◌>>=◌}
use Rattle.c_types_operators.specs.Scopes.{Scope}
use Rattle.c_types_operators.specs.Operators.{anchor}
use Rattle.c_types_expressions.specs.Expressions.{literals, literals_of, value, values, stored_value}
use Rattle.c_types_operators.specs.Parts.{broken_if, ◌<*>◌, also, misplaced}

abbrev pub is_char : ValueType → Bool
is_char (v.Base Char) = true
is_char ty = false

abbrev pub is_char_pointer : ValueType → Bool
is_char_pointer (v.Pointer Char (suc zero)) = true
is_char_pointer ty = false

-- a literal, character or `EOF` with any `+`, `-`, `~` before it
abbrev pub is_constant_number : c.Exp → Bool
is_constant_number (c.number p n l) = true
is_constant_number (c.character p n) = true
is_constant_number (c.eof p) = true
is_constant_number (c.unary p u.Plus x) = is_constant_number x
is_constant_number (c.unary p u.Minus x) = is_constant_number x
is_constant_number (c.unary p u.BitNot x) = is_constant_number x
is_constant_number x = false

-- or `NULL`, or a string for a `char` pointer
abbrev pub is_constant : ValueType → c.Exp → Bool
is_constant ty (c.null p) = true
is_constant ty (c.string p bytes) = is_char_pointer ty
is_constant ty x = is_constant_number x

-- the number that a constant gives
abbrev pub number_of : t.Exp → ℤ
number_of (t.constant ty n) = n
number_of (t.unary op rank x) = signed op (ranked rank) (number_of x)
number_of (t.convert to x) = converted to (number_of x)
number_of x = pos 0

abbrev pub datum_of : t.Exp → Datum
datum_of (t.text n) = Text n
datum_of x = Number (number_of x)

-- a constant, in a global that is declared at this place
abbrev pub constant_at : {A : Type 0} → Place → ValueType → c.Exp → Judged A → Judged A
constant_at p ty e j = also (broken_if (not (is_constant ty e)) WrongInitialiser p) j

abbrev pub datum : Scope → Texts → Place → ValueType → c.Exp → Judged Datum
datum Γ n p ty e = constant_at p ty e (Fine datum_of <*> stored_value Γ n ty e)

abbrev pub data_of : Scope → Texts → Place → ValueType → List c.Exp → Judged (List Datum)
data_of Γ n p ty [] = Fine []
data_of Γ n p ty (e ∷ es) = Fine ◌∷◌ <*> datum Γ n p ty e <*> data_of Γ (n ++ literals e) p ty es

-- a string's bytes with a closing zero, where that fits
abbrev pub string_data : ℕ → List ℕ → List Datum
string_data m bytes = map (λ b. Number (pos b)) (take m (bytes ++ (0 ∷ [])))

abbrev pub array_string : Place → ValueType → ℕ → List ℕ → Judged (List Datum)
array_string p ty m bytes = if is_char ty && nat_le (length bytes) m then Fine (string_data m bytes) else breaks WrongInitialiser p

-- the value of an expression, which fits no array
abbrev pub unfit : c.Exp → Judged t.Exp → Judged (List Datum)
unfit e j = j >>= λ x. breaks NotAssignable (anchor e)

-- A value that is no string fits no array.
abbrev pub array_value : Scope → Texts → Place → ValueType → c.Exp → Judged (List Datum)
array_value Γ n p ty e = constant_at p ty e (unfit e (value Γ n e))

-- An array is given a list, or a string where its elements are `char`s.
abbrev pub array_data : Scope → Texts → Place → ValueType → ℕ → c.Initial → Judged (List Datum)
array_data Γ n p ty m c.no_init = Fine []
array_data Γ n p ty m (c.value (c.string q bytes)) = array_string p ty m bytes
array_data Γ n p ty m (c.value e) = array_value Γ n p ty e
array_data Γ n p ty m (c.elements es) = also (broken_if (nat_lt m (length es)) WrongInitialiser p) (data_of Γ n p ty es)

abbrev pub only : Datum → List Datum
only x = x ∷ []

abbrev pub scalar_data : Scope → Texts → Place → ValueType → c.Initial → Judged (List Datum)
scalar_data Γ n p ty c.no_init = Fine []
scalar_data Γ n p ty (c.value e) = Fine only <*> datum Γ n p ty e
scalar_data Γ n p ty (c.elements es) = misplaced WrongInitialiser p (values Γ n (c.exps es))

abbrev pub shape_data : Scope → Texts → Place → Shape → c.Initial → Judged (List Datum)
shape_data Γ n p (Scalar ty) init = scalar_data Γ n p ty init
shape_data Γ n p (Array ty m) init = array_data Γ n p ty m init

-- the string literals that are laid out: not a string that initialises an array
abbrev pub laid_out : Shape → c.Initial → Texts
laid_out (Array ty m) (c.value (c.string p bytes)) = []
laid_out shape c.no_init = []
laid_out shape (c.value e) = literals e
laid_out shape (c.elements es) = literals_of (c.exps es)
