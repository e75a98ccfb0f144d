-- The variables of small functions, which of them have their address taken, and their homes.
use Rattle.std.specs.Prelude.{◌≡◌, refl, pos, false, List, [], ◌∷◌, codes}
use Rattle.c_ast.specs.declared.tree.Base.TheVariants.{Char, Int}
use Rattle.c_ast.specs.declared.tree.UnaryOp.TheVariants as u
use Rattle.c_ast.specs.declared.tree_unit.Length.TheVariants as n
use Rattle.c_ast.specs.Trees as c
use Rattle.c_typed.specs.declared.types.ValueType.TheVariants as v
use Rattle.c_typed.specs.declared.program.Home.TheVariants as h
use Rattle.c_layout.specs.declared.shape.Shape.TheVariants.{Array}
use Rattle.c_types_homes.specs.Addressed.{function_taken}
use Rattle.c_types_homes.specs.Declarators.{declared_shape, param_type}
use Rattle.c_types_homes.specs.Homes.{function_homes, function_given, frame_size}
use Rattle.c_types_worked.proofs.Small.{at, int, char, long, to_int, name, number, text, unary, scalar, array, doing, local, param, unnamed}

-- ---- which variables have their address taken, by their numbers

-- of (int a,int b): {&b;}
second_parameter : function_taken (param 1 int "a" ∷ param 2 int "b" ∷ []) (c.stms (doing 1 (unary 1 u.AddressOf (name 2 "b")) ∷ [])) ≡ 1 ∷ []
second_parameter = refl

-- of (int a,int b): {int x;{int x;&x;}x;}, the variables a, b, x and x
inner_variable : function_taken (param 1 int "a" ∷ param 2 int "b" ∷ []) (c.stms (local 1 (scalar 5 int "x" c.no_init ∷ []) ∷ c.block (at 7) (c.stms (local 8 (scalar 12 int "x" c.no_init ∷ []) ∷ doing 14 (unary 14 u.AddressOf (name 15 "x")) ∷ [])) ∷ doing 18 (name 18 "x") ∷ [])) ≡ 3 ∷ []
inner_variable = refl

-- {int x=1;{int x=*&x;}}
known_in_its_initialiser : function_taken [] (c.stms (local 1 (scalar 5 int "x" (c.value (number 7 1)) ∷ []) ∷ c.block (at 9) (c.stms (local 10 (scalar 14 int "x" (c.value (unary 16 u.Dereference (unary 17 u.AddressOf (name 18 "x")))) ∷ []) ∷ [])) ∷ [])) ≡ 1 ∷ []
known_in_its_initialiser = refl

-- of (int a,int b): {&a[0];&*b;}
elements_are_no_variables : function_taken (param 1 int "a" ∷ param 2 int "b" ∷ []) (c.stms (doing 1 (unary 1 u.AddressOf (c.index (at 3) (name 2 "a") (number 4 0))) ∷ doing 7 (unary 7 u.AddressOf (unary 8 u.Dereference (name 9 "b"))) ∷ [])) ≡ []
elements_are_no_variables = refl

-- {int i;for(int i=0;&i;);&i;}
own_scope_of_a_loop : function_taken [] (c.stms (local 1 (scalar 5 int "i" c.no_init ∷ []) ∷ c.for_loop (at 7) (c.start_local (scalar 15 int "i" (c.value (number 17 0)) ∷ [])) (c.given (unary 19 u.AddressOf (name 20 "i"))) c.missing (c.empty (at 23)) ∷ doing 24 (unary 24 u.AddressOf (name 25 "i")) ∷ [])) ≡ 1 ∷ 0 ∷ []
own_scope_of_a_loop = refl

-- ---- homes and frames

-- {char c;int a[2];long x;&c;}: the array behind the character, at a multiple of 4
homes_of_three : function_homes [] (c.stms (local 1 (scalar 6 char "c" c.no_init ∷ []) ∷ local 8 (array 12 int "a" 2 c.no_init ∷ []) ∷ local 17 (scalar 22 long "x" c.no_init ∷ []) ∷ doing 24 (unary 24 u.AddressOf (name 25 "c")) ∷ [])) ≡ h.Frame 0 ∷ h.Frame 4 ∷ h.Slot 0 ∷ []
homes_of_three = refl

twelve_bytes : frame_size [] (c.stms (local 1 (scalar 6 char "c" c.no_init ∷ []) ∷ local 8 (array 12 int "a" 2 c.no_init ∷ []) ∷ local 17 (scalar 22 long "x" c.no_init ∷ []) ∷ doing 24 (unary 24 u.AddressOf (name 25 "c")) ∷ [])) ≡ 16
twelve_bytes = refl

-- of (int a,int b): {{int x[4];}{int y[4];}&a;}, where blocks do not share bytes
parameters_first : function_homes (param 1 int "a" ∷ param 2 int "b" ∷ []) (c.stms (c.block (at 1) (c.stms (local 2 (array 6 int "x" 4 c.no_init ∷ []) ∷ [])) ∷ c.block (at 12) (c.stms (local 13 (array 17 int "y" 4 c.no_init ∷ []) ∷ [])) ∷ doing 23 (unary 23 u.AddressOf (name 24 "a")) ∷ [])) ≡ h.Frame 0 ∷ h.Slot 0 ∷ h.Frame 4 ∷ h.Frame 20 ∷ []
parameters_first = refl

-- of (int a,int): {int x;char y[3];int p=&x;{long a;&a;}}
abbrev two_params : List c.Par
two_params = param 1 int "a" ∷ unnamed 2 int ∷ []

abbrev four_locals : c.Stms
four_locals = c.stms (local 3 (scalar 7 int "x" c.no_init ∷ []) ∷ local 9 (array 14 char "y" 3 c.no_init ∷ []) ∷ local 18 (scalar 22 int "p" (c.value (unary 24 u.AddressOf (name 25 "x"))) ∷ []) ∷ c.block (at 27) (c.stms (local 28 (scalar 33 long "a" c.no_init ∷ []) ∷ doing 35 (unary 35 u.AddressOf (name 36 "a")) ∷ [])) ∷ [])

address_says_where : function_homes two_params four_locals ≡ h.Slot 0 ∷ h.Slot 1 ∷ h.Frame 0 ∷ h.Frame 4 ∷ h.Slot 2 ∷ h.Frame 8 ∷ []
address_says_where = refl

three_slots : function_given two_params four_locals ≡ record { slots = 3; bytes = 16 }
three_slots = refl

whole_frame : frame_size two_params four_locals ≡ 16
whole_frame = refl

-- ---- shapes

-- char s[]="ab";
length_of_string : declared_shape (c.declarator (at 6) char (codes "s") n.Missing (c.value (text 10 "ab"))) ≡ Array (v.Base Char) 3
length_of_string = refl

-- int a[]={7,8};
length_of_list : declared_shape (c.declarator (at 5) int (codes "a") n.Missing (c.elements (number 10 7 ∷ number 12 8 ∷ []))) ≡ Array (v.Base Int) 2
length_of_list = refl

-- int *a[3]
array_as_parameter : param_type (c.param (at 6) to_int (c.named (codes "a")) (n.Given (pos 3) false)) ≡ v.Pointer Int 2
array_as_parameter = refl
