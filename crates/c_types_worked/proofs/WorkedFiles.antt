-- The definitions on small sources.
use Rattle.std.specs.Prelude.{◌≡◌, refl, ℕ, ◌+◌, pos, Bool, true, false, List, [], ◌∷◌, codes}
use Rattle.ib_mem.specs.Memory.{zeros}
use Rattle.c_ast.specs.declared.tree.Base.TheVariants.{Int, Long}
use Rattle.c_ast.specs.declared.tree.BinaryOp.TheVariants as b
use Rattle.c_ast.specs.declared.tree.UnaryOp.TheVariants as u
use Rattle.c_ast.specs.declared.tree_unit.Length.TheVariants as n
use Rattle.c_ast.specs.Trees as c
use Rattle.c_typed.specs.declared.types.ValueType.TheVariants as v
use Rattle.c_typed.specs.declared.program.Home.TheVariants as h
use Rattle.c_typed.specs.declared.expr.Storage.TheVariants.{Global, Frame}
use Rattle.c_typed.specs.Tree as t
use Rattle.c_typed.specs.declared.rule.Rule.{Rule}
use Rattle.c_typed.specs.declared.rule.Rule.TheVariants.{UnknownName, Redeclared, NoMain, WrongSignature, BadType, NotAPlace, WrongOperands, NotAssignable, NotAFunction, ArgumentCount, OutsideALoop, ReturnValue, WrongInitialiser}
use Rattle.c_program.specs.Limits.{within, large_globals, large_frame}
use Rattle.c_types_units.specs.Typing.{Verdict, keeps_rules, breaks_rule, verdict}
use Rattle.c_types_worked.proofs.Small.{at, int, char, long, void, to_int, to_char, to_void, name, number, text, call, unary, binary, set, scalar, array, doing, return, local, param, unnamed, prototype, function}

abbrev return_zero : ℕ → c.Stm
return_zero col = return col (number (col + 7) 0)

-- int main(void){return 0;}, at the end of a file
abbrev main_at : ℕ → List c.Top
main_at col = function col int "main" [] (return_zero (col + 11) ∷ []) ∷ []

-- int main(void){..}, alone in its file
abbrev in_main : List c.Stm → List c.Top
in_main body = function 5 int "main" [] body ∷ []

-- ---- verdicts

abbrev breaks_at : ℕ → Rule → Verdict
breaks_at col rule = breaks_rule (record { rule = rule; place = at col })

-- no rule is broken, and the program is within the limits
abbrev is_kept : Verdict → Bool
is_kept (keeps_rules (within program)) = true
is_kept said = false

-- ---- 1, unknown name

-- int main(void){return x;}
unknown : verdict (in_main (return 16 (name 23 "x") ∷ [])) ≡ breaks_at 23 UnknownName
unknown = refl

-- int main(void){{int x;}return x;}
unknown_behind_its_block : verdict (in_main (c.block (at 16) (c.stms (local 17 (scalar 21 int "x" c.no_init ∷ []) ∷ [])) ∷ return 24 (name 31 "x") ∷ [])) ≡ breaks_at 31 UnknownName
unknown_behind_its_block = refl

-- int main(void){int x=x;return 0;}
known_in_its_initialiser : is_kept (verdict (in_main (local 16 (scalar 20 int "x" (c.value (name 22 "x")) ∷ []) ∷ return_zero 24 ∷ []))) ≡ true
known_in_its_initialiser = refl

-- int main(void){return f();}int f(void){return 0;}
known_in_the_whole_file : is_kept (verdict (function 5 int "main" [] (return 16 (call 23 "f" []) ∷ []) ∷ function 32 int "f" [] (return_zero 40 ∷ []) ∷ [])) ≡ true
known_in_the_whole_file = refl

-- ---- 2, redeclared

-- int a; int a; int main(void){return 0;}
twice : verdict (c.variables (scalar 5 int "a" c.no_init ∷ []) ∷ c.variables (scalar 12 int "a" c.no_init ∷ []) ∷ main_at 19) ≡ breaks_at 12 Redeclared
twice = refl

-- int main(void){return 0;}int main(void){return 0;}
two_bodies : verdict (function 5 int "main" [] (return_zero 16 ∷ []) ∷ main_at 30) ≡ breaks_at 30 Redeclared
two_bodies = refl

-- int putint;int main(void){return 0;}
built_in_as_variable : verdict (c.variables (scalar 5 int "putint" c.no_init ∷ []) ∷ main_at 16) ≡ breaks_at 5 Redeclared
built_in_as_variable = refl

-- int f(int a){int a;return a;}int main(void){return 0;}
parameter_and_local : verdict (function 5 int "f" (param 11 int "a" ∷ []) (local 14 (scalar 18 int "a" c.no_init ∷ []) ∷ return 20 (name 27 "a") ∷ []) ∷ main_at 34) ≡ breaks_at 18 Redeclared
parameter_and_local = refl

-- int a;int main(void){int a;{int a;}return 0;}
hides_outer_names : is_kept (verdict (c.variables (scalar 5 int "a" c.no_init ∷ []) ∷ function 11 int "main" [] (local 22 (scalar 26 int "a" c.no_init ∷ []) ∷ c.block (at 28) (c.stms (local 29 (scalar 33 int "a" c.no_init ∷ []) ∷ [])) ∷ return_zero 36 ∷ []) ∷ [])) ≡ true
hides_outer_names = refl

-- int f(void);int f(void);int f(void){return 0;}int main(void){return 0;}
prototype_twice : is_kept (verdict (prototype 5 int "f" [] ∷ prototype 17 int "f" [] ∷ function 29 int "f" [] (return_zero 37 ∷ []) ∷ main_at 51)) ≡ true
prototype_twice = refl

-- ---- 3, no main

-- int a;
no_body : verdict (c.variables (scalar 5 int "a" c.no_init ∷ []) ∷ []) ≡ breaks_at 1 NoMain
no_body = refl

-- ---- 4, signature

-- int f(char);int f(int a){return 0;}int main(void){return 0;}
unlike_its_body : verdict (prototype 5 int "f" (unnamed 7 char ∷ []) ∷ function 17 int "f" (param 23 int "a" ∷ []) (return_zero 26 ∷ []) ∷ main_at 40) ≡ breaks_at 5 WrongSignature
unlike_its_body = refl

-- int f(void);int main(void){return 0;}
without_body : verdict (prototype 5 int "f" [] ∷ main_at 17) ≡ breaks_at 5 WrongSignature
without_body = refl

-- int f(int){return 0;}int main(void){return 0;}
unnamed_parameter : verdict (function 5 int "f" (unnamed 7 int ∷ []) (return_zero 12 ∷ []) ∷ main_at 26) ≡ breaks_at 5 WrongSignature
unnamed_parameter = refl

-- int main(int a){return 0;}
main_takes_none : verdict (function 5 int "main" (param 14 int "a" ∷ []) (return_zero 17 ∷ []) ∷ []) ≡ breaks_at 5 WrongSignature
main_takes_none = refl

-- int f(int,int,int,int,int,int,int,int,int);int main(void){return 0;}
nine_parameters : verdict (prototype 5 int "f" (unnamed 7 int ∷ unnamed 11 int ∷ unnamed 15 int ∷ unnamed 19 int ∷ unnamed 23 int ∷ unnamed 27 int ∷ unnamed 31 int ∷ unnamed 35 int ∷ unnamed 39 int ∷ []) ∷ main_at 48) ≡ breaks_at 5 WrongSignature
nine_parameters = refl

-- int putchar(int);int main(void){return 0;}
like_the_built_in : is_kept (verdict (prototype 5 int "putchar" (unnamed 13 int ∷ []) ∷ main_at 22)) ≡ true
like_the_built_in = refl

-- ---- 5, bad type

-- int main(void){int a[0];return 0;}
no_length : verdict (in_main (local 16 (array 20 int "a" 0 c.no_init ∷ []) ∷ return_zero 25 ∷ [])) ≡ breaks_at 20 BadType
no_length = refl

-- int a[];int main(void){return 0;}
length_missing : verdict (c.variables (c.declarator (at 5) int (codes "a") n.Missing c.no_init ∷ []) ∷ main_at 13) ≡ breaks_at 5 BadType
length_missing = refl

-- void *p;int main(void){return 0;}
on_void : verdict (c.variables (scalar 7 to_void "p" c.no_init ∷ []) ∷ main_at 13) ≡ breaks_at 7 BadType
on_void = refl

-- int a[]={1};int main(void){return 0;}
length_from_list : is_kept (verdict (c.variables (c.declarator (at 5) int (codes "a") n.Missing (c.elements (number 10 1 ∷ [])) ∷ []) ∷ main_at 17)) ≡ true
length_from_list = refl

-- ---- 6, not a place

-- int main(void){1=2;return 0;}
assigned_number : verdict (in_main (doing 16 (set 17 (number 16 1) (number 18 2)) ∷ return_zero 20 ∷ [])) ≡ breaks_at 16 NotAPlace
assigned_number = refl

-- int a[2];int main(void){a=NULL;return 0;}
assigned_array : verdict (c.variables (array 5 int "a" 2 c.no_init ∷ []) ∷ function 14 int "main" [] (doing 25 (set 26 (name 25 "a") (c.null (at 27))) ∷ return_zero 32 ∷ []) ∷ []) ≡ breaks_at 25 NotAPlace
assigned_array = refl

-- int a[2];int main(void){int *p;*p=a[0];p=&a[1];return 0;}
element_and_pointer : is_kept (verdict (c.variables (array 5 int "a" 2 c.no_init ∷ []) ∷ function 14 int "main" [] (local 25 (scalar 30 to_int "p" c.no_init ∷ []) ∷ doing 32 (set 34 (unary 32 u.Dereference (name 33 "p")) (c.index (at 36) (name 35 "a") (number 37 0))) ∷ doing 40 (set 41 (name 40 "p") (unary 42 u.AddressOf (c.index (at 44) (name 43 "a") (number 45 1)))) ∷ return_zero 48 ∷ []) ∷ [])) ≡ true
element_and_pointer = refl

-- ---- 7, not a condition: a call that gives no value breaks rule 8 by itself

-- int main(void){if(putint(1));return 0;}
no_value_as_condition : verdict (in_main (c.if_then (at 16) (call 19 "putint" (number 26 1 ∷ [])) (c.empty (at 29)) ∷ return_zero 30 ∷ [])) ≡ breaks_at 19 WrongOperands
no_value_as_condition = refl

-- int main(void){int *p;if(p);return 0;}
pointer_as_condition : is_kept (verdict (in_main (local 16 (scalar 21 to_int "p" c.no_init ∷ []) ∷ c.if_then (at 23) (name 26 "p") (c.empty (at 28)) ∷ return_zero 29 ∷ []))) ≡ true
pointer_as_condition = refl

-- ---- 8, operands

-- int main(void){return 1+NULL;}
number_and_null : verdict (in_main (return 16 (binary 24 b.Add (number 23 1) (c.null (at 25))) ∷ [])) ≡ breaks_at 24 WrongOperands
number_and_null = refl

-- int main(void){return putint(1);}
void_value : verdict (in_main (return 16 (call 23 "putint" (number 30 1 ∷ [])) ∷ [])) ≡ breaks_at 23 WrongOperands
void_value = refl

-- int main(void){putint(1),putint(2);return 0;}
void_calls_in_comma : is_kept (verdict (in_main (doing 16 (c.comma (at 25) (c.exps (call 16 "putint" (number 23 1 ∷ []) ∷ call 26 "putint" (number 33 2 ∷ []) ∷ []))) ∷ return_zero 36 ∷ []))) ≡ true
void_calls_in_comma = refl

-- ---- 9, not assignable

-- int main(void){int *p=1;return 0;}
number_for_pointer : verdict (in_main (local 16 (scalar 21 to_int "p" (c.value (number 23 1)) ∷ []) ∷ return_zero 25 ∷ [])) ≡ breaks_at 23 NotAssignable
number_for_pointer = refl

-- int main(void){char *c;int *p=c;return 0;}
other_pointer : verdict (in_main (local 16 (scalar 22 to_char "c" c.no_init ∷ []) ∷ local 24 (scalar 29 to_int "p" (c.value (name 31 "c")) ∷ []) ∷ return_zero 33 ∷ [])) ≡ breaks_at 31 NotAssignable
other_pointer = refl

-- int main(void){int *p=0;p=NULL;return 0;}
null_for_pointer : is_kept (verdict (in_main (local 16 (scalar 21 to_int "p" (c.value (number 23 0)) ∷ []) ∷ doing 25 (set 26 (name 25 "p") (c.null (at 27))) ∷ return_zero 32 ∷ []))) ≡ true
null_for_pointer = refl

-- ---- 10, not a function

-- int main(void){return main;}
function_as_value : verdict (in_main (return 16 (name 23 "main") ∷ [])) ≡ breaks_at 23 NotAFunction
function_as_value = refl

-- int main(void){int x;return x();}
called_variable : verdict (in_main (local 16 (scalar 20 int "x" c.no_init ∷ []) ∷ return 22 (call 29 "x" []) ∷ [])) ≡ breaks_at 29 NotAFunction
called_variable = refl

-- ---- 11, argument count

-- int main(void){putint();return 0;}
too_few : verdict (in_main (doing 16 (call 16 "putint" []) ∷ return_zero 25 ∷ [])) ≡ breaks_at 16 ArgumentCount
too_few = refl

-- ---- 12, outside a loop

-- int main(void){break;}
loose : verdict (in_main (c.break (at 16) ∷ [])) ≡ breaks_at 16 OutsideALoop
loose = refl

-- int main(void){while(1)if(1)break;else continue;return 0;}
in_a_loop : is_kept (verdict (in_main (c.while_loop (at 16) (number 22 1) (c.if_else (at 24) (number 27 1) (c.break (at 29)) (c.continue (at 40))) ∷ return_zero 49 ∷ []))) ≡ true
in_a_loop = refl

-- ---- 13, return value

-- int main(void){return;}
gives_none : verdict (in_main (c.return (at 16) c.missing ∷ [])) ≡ breaks_at 16 ReturnValue
gives_none = refl

-- void f(void){return 1;}int main(void){return 0;}
gives_one : verdict (function 6 void "f" [] (return 14 (number 21 1) ∷ []) ∷ main_at 28) ≡ breaks_at 14 ReturnValue
gives_one = refl

-- void f(void){return;}int main(void){}
falls_off : is_kept (verdict (function 6 void "f" [] (c.return (at 14) c.missing ∷ []) ∷ function 26 int "main" [] [] ∷ [])) ≡ true
falls_off = refl

-- ---- 14, initialiser

-- int a;int b=a;int main(void){return 0;}
not_constant : verdict (c.variables (scalar 5 int "a" c.no_init ∷ []) ∷ c.variables (scalar 11 int "b" (c.value (name 13 "a")) ∷ []) ∷ main_at 19) ≡ breaks_at 11 WrongInitialiser
not_constant = refl

-- int a[1]={1,2};int main(void){return 0;}
too_many_elements : verdict (c.variables (array 5 int "a" 1 (c.elements (number 11 1 ∷ number 13 2 ∷ [])) ∷ []) ∷ main_at 20) ≡ breaks_at 5 WrongInitialiser
too_many_elements = refl

-- int main(void){int a[1]={1};return 0;}
local_list : verdict (in_main (local 16 (array 20 int "a" 1 (c.elements (number 26 1 ∷ [])) ∷ []) ∷ return_zero 29 ∷ [])) ≡ breaks_at 20 WrongInitialiser
local_list = refl

-- char s[2]="ab";int main(void){return 0;}
zero_dropped : is_kept (verdict (c.variables (array 6 char "s" 2 (c.value (text 11 "ab")) ∷ []) ∷ main_at 20)) ≡ true
zero_dropped = refl

-- ---- several broken rules: the first anchor, and there the least rule

-- int main(void){int a,a[0];return 0;}
least_rule : verdict (in_main (local 16 (scalar 20 int "a" c.no_init ∷ array 22 int "a" 0 c.no_init ∷ []) ∷ return_zero 27 ∷ [])) ≡ breaks_at 22 Redeclared
least_rule = refl

-- int main(void){return y+x;}
first_place : verdict (in_main (return 16 (binary 24 b.Add (name 23 "y") (name 25 "x")) ∷ [])) ≡ breaks_at 23 UnknownName
first_place = refl

-- int main(void){break;}int f(void){return x;}
first_of_two_functions : verdict (function 5 int "main" [] (c.break (at 16) ∷ []) ∷ function 27 int "f" [] (return 35 (name 42 "x") ∷ []) ∷ []) ≡ breaks_at 16 OutsideALoop
first_of_two_functions = refl

-- int f(void){return x;}
no_main_comes_first : verdict (function 5 int "f" [] (return 13 (name 20 "x") ∷ []) ∷ []) ≡ breaks_at 1 NoMain
no_main_comes_first = refl

-- int main(void){return NULL+x;}
without_type : verdict (in_main (return 16 (binary 27 b.Add (c.null (at 23)) (name 28 "x")) ∷ [])) ≡ breaks_at 28 UnknownName
without_type = refl

-- ---- limits: globals first, then the first frame that is too large

-- int main(void){int a[65537];return 0;}
frame_too_large : verdict (in_main (local 16 (array 20 int "a" 65537 c.no_init ∷ []) ∷ return_zero 29 ∷ [])) ≡ keeps_rules (large_frame 262160)
frame_too_large = refl

-- int main(void){int a[65536];return 0;}
largest_frame : is_kept (verdict (in_main (local 16 (array 20 int "a" 65536 c.no_init ∷ []) ∷ return_zero 29 ∷ []))) ≡ true
largest_frame = refl

-- void f(void){char a[262145];}int main(void){int a[65541];return 0;}
first_large_frame : verdict (function 6 void "f" [] (local 14 (array 19 char "a" 262145 c.no_init ∷ []) ∷ []) ∷ function 34 int "main" [] (local 45 (array 49 int "a" 65541 c.no_init ∷ []) ∷ return_zero 58 ∷ []) ∷ []) ≡ keeps_rules (large_frame 262160)
first_large_frame = refl

-- char a[524289];int main(void){return 0;}
globals_too_large : verdict (c.variables (array 6 char "a" 524289 c.no_init ∷ []) ∷ main_at 20) ≡ keeps_rules (large_globals 524289)
globals_too_large = refl

-- char a[524288];int main(void){return 0;}
largest_globals : is_kept (verdict (c.variables (array 6 char "a" 524288 c.no_init ∷ []) ∷ main_at 20)) ≡ true
largest_globals = refl

-- char a[524285];int main(void){putint("abc"!=NULL);return 0;}
string_too_large : verdict (c.variables (array 6 char "a" 524285 c.no_init ∷ []) ∷ function 20 int "main" [] (doing 31 (call 31 "putint" (binary 43 b.NotEqual (text 38 "abc") (c.null (at 45)) ∷ [])) ∷ return_zero 51 ∷ []) ∷ []) ≡ keeps_rules (large_globals 524289)
string_too_large = refl

-- int a[1048576];int main(void){int b[65537];return 0;}
longest_array : verdict (c.variables (array 5 int "a" 1048576 c.no_init ∷ []) ∷ function 20 int "main" [] (local 31 (array 35 int "b" 65537 c.no_init ∷ []) ∷ return_zero 44 ∷ []) ∷ []) ≡ keeps_rules (large_globals 4194304)
longest_array = refl

-- ---- whole programs

abbrev main_of : (slots frame : ℕ) → List t.Stm → t.Function
main_of slots frame body = record { name = codes "main"; result = v.Base Int; params = []; slots = slots; frame = frame; body = t.stms body }

abbrev give : ℕ → t.Exp → t.Stm
give n x = t.return n (t.given x)

abbrev zero : t.Exp
zero = t.constant (v.Base Int) (pos 0)

-- int main(void){return 0;}
returns : verdict (in_main (return_zero 16 ∷ []))
    ≡ keeps_rules (within (record {
      functions = main_of 0 0 (give 0 zero ∷ []) ∷ [];
      globals = [];
      strings = [];
      image = [];
      places = at 16 ∷ [];
    }))
returns = refl

-- int g=7;int main(void){return g;}
gives_a_global : verdict (c.variables (scalar 5 int "g" (c.value (number 7 7)) ∷ []) ∷ function 13 int "main" [] (return 24 (name 31 "g") ∷ []) ∷ [])
    ≡ keeps_rules (within (record {
      functions = main_of 0 0 (give 0 (t.load (v.Base Int) (t.address (v.Pointer Int 1) (Global 0))) ∷ []) ∷ [];
      globals = 4096 ∷ [];
      strings = [];
      image = 7 ∷ 0 ∷ 0 ∷ 0 ∷ [];
      places = at 24 ∷ [];
    }))
unfolding zeros
gives_a_global = refl

-- char c;int a[2]={1};char *s="hi";int main(void){return 0;}
lays_out_globals : verdict (c.variables (scalar 6 char "c" c.no_init ∷ []) ∷ c.variables (array 12 int "a" 2 (c.elements (number 18 1 ∷ [])) ∷ []) ∷ c.variables (scalar 27 to_char "s" (c.value (text 29 "hi")) ∷ []) ∷ main_at 38)
    ≡ keeps_rules (within (record {
      functions = main_of 0 0 (give 0 zero ∷ []) ∷ [];
      globals = 4096 ∷ 4100 ∷ 4112 ∷ [];
      strings = 4120 ∷ [];
      image = 0 ∷ 0 ∷ 0 ∷ 0 ∷ 1 ∷ 0 ∷ 0 ∷ 0 ∷ 0 ∷ 0 ∷ 0 ∷ 0 ∷ 0 ∷ 0 ∷ 0 ∷ 0 ∷ 24 ∷ 16 ∷ 0 ∷ 0 ∷ 0 ∷ 0 ∷ 0 ∷ 0 ∷ 104 ∷ 105 ∷ 0 ∷ [];
      places = at 49 ∷ [];
    }))
unfolding zeros
lays_out_globals = refl

-- int f(int a,long b){return *&a;}int main(void){f(1,2);return 0;}
calls_a_function : verdict (function 5 int "f" (param 11 int "a" ∷ param 18 long "b" ∷ []) (return 21 (unary 28 u.Dereference (unary 29 u.AddressOf (name 30 "a"))) ∷ []) ∷ function 37 int "main" [] (doing 48 (call 48 "f" (number 50 1 ∷ number 52 2 ∷ [])) ∷ return_zero 55 ∷ []) ∷ [])
    ≡ keeps_rules (within (record {
      functions =
          record {
            name = codes "f";
            result = v.Base Int;
            params = record { ty = v.Base Int; home = h.Frame 0 } ∷ record { ty = v.Base Long; home = h.Slot 0 } ∷ [];
            slots = 1;
            frame = 16;
            body = t.stms (give 0 (t.load (v.Base Int) (t.address (v.Pointer Int 1) (Frame 0))) ∷ []);
          }
          ∷ main_of 0 0 (t.expression 1 (t.call (v.Base Int) 0 (t.exps (t.constant (v.Base Int) (pos 1) ∷ t.convert (v.Base Long) (t.constant (v.Base Int) (pos 2)) ∷ []))) ∷ give 2 zero ∷ []) ∷ [];
      globals = [];
      strings = [];
      image = [];
      places = at 21 ∷ at 48 ∷ at 55 ∷ [];
    }))
calls_a_function = refl
