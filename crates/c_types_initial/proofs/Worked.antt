-- What globals hold at first, and what wrong initialisers break.
use Rattle.std.specs.Prelude.{◌≡◌, true, false, List, [], ◌∷◌, Some, pos, negsuc, codes}
use Rattle.std.specs.Int.{int_wrap}
use Rattle.std.proofs.Common.{refl}
use Rattle.ib_meaning.specs.declared.place.Place.{Place}
use Rattle.c_ast.specs.declared.tree.Base.TheVariants as b
use Rattle.c_ast.specs.declared.tree.UnaryOp.TheVariants as u
use Rattle.c_ast.specs.Trees as c
use Rattle.c_typed.specs.declared.types.ValueType.{ValueType}
use Rattle.c_typed.specs.declared.types.ValueType.TheVariants as v
use Rattle.c_typed.specs.ValueTypes.{int, long}
use Rattle.c_typed.specs.declared.rule.Rule.{Rule}
use Rattle.c_typed.specs.declared.rule.Rule.TheVariants.{NotAssignable, WrongInitialiser}
use Rattle.c_layout.specs.declared.shape.Shape.{Shape}
use Rattle.c_layout.specs.declared.shape.Shape.TheVariants.{Scalar, Array}
use Rattle.c_layout.specs.declared.data.Datum.{Datum}
use Rattle.c_layout.specs.declared.data.Datum.TheVariants.{Number, Text}
use Rattle.c_scopes.specs.Scopes.{outermost}
use Rattle.c_types_operators.specs.Rules.{Judged, Fine, breaches, first_breach}
use Rattle.c_types_operators.specs.Parts.{breach}
use Rattle.c_types_operators.specs.Scopes.{Scope}
use Rattle.c_types_initial.specs.Constants.{shape_data}

-- where the global is declared, and where its initialiser stands
abbrev name_at : Place
name_at = record { line = 1; col = 5 }

abbrev value_at : Place
value_at = record { line = 1; col = 9 }

abbrev char : ValueType
char = v.Base b.Char

abbrev ints : ValueType
ints = v.Pointer b.Int 1

abbrev chars : ValueType
chars = v.Pointer b.Char 1

abbrev nothing_known : Scope
nothing_known = record { scopes = outermost; functions = [] }

abbrev judged : Shape → c.Initial → Judged (List Datum)
judged shape init = shape_data nothing_known [] name_at shape init

abbrev Holds : Shape → c.Initial → List Datum → Type 0
Holds shape init held = judged shape init ≡ Fine held

-- the first rule that is broken
abbrev Breaks : Shape → c.Initial → Rule → Place → Type 0
Breaks shape init rule place = first_breach (breaches (judged shape init)) ≡ Some (breach rule place)

a_number : Holds (Scalar int) (c.value (c.number value_at (pos 5) false)) (Number (pos 5) ∷ [])
unfolding int_wrap
a_number = refl

least_int : Holds (Scalar int) (c.value (c.unary value_at u.Minus (c.number value_at (pos 2147483648) true))) (Number (negsuc 2147483647) ∷ [])
unfolding int_wrap
least_int = refl

char_wraps : Holds (Scalar char) (c.value (c.number value_at (pos 300) false)) (Number (pos 44) ∷ [])
unfolding int_wrap
char_wraps = refl

char_from_negative : Holds (Scalar char) (c.value (c.unary value_at u.BitNot (c.number value_at (pos 5) false))) (Number (pos 250) ∷ [])
unfolding int_wrap
char_from_negative = refl

long_from_int : Holds (Scalar long) (c.value (c.unary value_at u.Plus (c.number value_at (pos 7) false))) (Number (pos 7) ∷ [])
unfolding int_wrap
long_from_int = refl

end_of_input : Holds (Scalar long) (c.value (c.eof value_at)) (Number (negsuc 0) ∷ [])
unfolding int_wrap
end_of_input = refl

null_pointer : Holds (Scalar ints) (c.value (c.null value_at)) (Number (pos 0) ∷ [])
unfolding int_wrap
null_pointer = refl

zero_pointer : Holds (Scalar chars) (c.value (c.number value_at (pos 0) false)) (Number (pos 0) ∷ [])
unfolding int_wrap
zero_pointer = refl

list_of_ints : Holds (Array int 3) (c.elements ((c.number value_at (pos 1) false) ∷ (c.unary value_at u.Minus (c.number value_at (pos 2) false)) ∷ [])) (Number (pos 1) ∷ Number (negsuc 1) ∷ [])
unfolding int_wrap
list_of_ints = refl

list_of_chars : Holds (Array char 2) (c.elements ((c.number value_at (pos 1) false) ∷ (c.unary value_at u.Minus (c.number value_at (pos 2) false)) ∷ [])) (Number (pos 1) ∷ Number (pos 254) ∷ [])
unfolding int_wrap
list_of_chars = refl

string_with_its_zero : Holds (Array char 3) (c.value (c.string value_at (codes "ab"))) (Number (pos 97) ∷ Number (pos 98) ∷ Number (pos 0) ∷ [])
unfolding int_wrap
string_with_its_zero = refl

string_that_just_fits : Holds (Array char 2) (c.value (c.string value_at (codes "ab"))) (Number (pos 97) ∷ Number (pos 98) ∷ [])
unfolding int_wrap
string_that_just_fits = refl

array_of_nothing : Holds (Array char 2) c.no_init []
array_of_nothing = refl

scalar_of_nothing : Holds (Scalar int) c.no_init []
scalar_of_nothing = refl

pointer_to_a_string : Holds (Scalar chars) (c.value (c.string value_at (codes "ab"))) (Text 0 ∷ [])
unfolding int_wrap
pointer_to_a_string = refl

no_constant_operator : Breaks (Scalar int) (c.value (c.unary value_at u.Not (c.number value_at (pos 1) false))) WrongInitialiser name_at
no_constant_operator = refl

no_constant_name : Breaks (Scalar int) (c.value (c.name value_at (codes "y"))) WrongInitialiser name_at
no_constant_name = refl

string_for_a_number : Breaks (Scalar int) (c.value (c.string value_at (codes "ab"))) WrongInitialiser name_at
string_for_a_number = refl

string_for_an_int_pointer : Breaks (Scalar ints) (c.value (c.string value_at (codes "ab"))) WrongInitialiser name_at
string_for_an_int_pointer = refl

number_for_a_pointer : Breaks (Scalar ints) (c.value (c.number value_at (pos 5) false)) NotAssignable value_at
number_for_a_pointer = refl

list_for_a_scalar : Breaks (Scalar int) (c.elements ((c.number value_at (pos 1) false) ∷ (c.unary value_at u.Minus (c.number value_at (pos 2) false)) ∷ [])) WrongInitialiser name_at
list_for_a_scalar = refl

one_element_too_many : Breaks (Array int 1) (c.elements ((c.number value_at (pos 1) false) ∷ (c.unary value_at u.Minus (c.number value_at (pos 2) false)) ∷ [])) WrongInitialiser name_at
one_element_too_many = refl

numbers_for_pointers : Breaks (Array ints 2) (c.elements ((c.number value_at (pos 1) false) ∷ (c.unary value_at u.Minus (c.number value_at (pos 2) false)) ∷ [])) NotAssignable value_at
numbers_for_pointers = refl

string_too_long : Breaks (Array char 1) (c.value (c.string value_at (codes "ab"))) WrongInitialiser name_at
string_too_long = refl

string_for_ints : Breaks (Array int 3) (c.value (c.string value_at (codes "ab"))) WrongInitialiser name_at
string_for_ints = refl

number_for_an_array : Breaks (Array int 3) (c.value (c.number value_at (pos 5) false)) NotAssignable value_at
number_for_an_array = refl

name_for_an_array : Breaks (Array int 3) (c.value (c.name value_at (codes "y"))) WrongInitialiser name_at
name_for_an_array = refl
