-- What small statements mean.
use Rattle.std.specs.Prelude.{◌≡◌, refl, pos, false, List, [], ◌∷◌, codes}
use Rattle.c_ast.specs.declared.tree.Base.TheVariants.{Char, Int}
use Rattle.c_ast.specs.Trees as c
use Rattle.c_typed.specs.declared.types.ValueType.TheVariants as v
use Rattle.c_typed.specs.declared.program.Home.TheVariants as h
use Rattle.c_typed.specs.declared.expr.Storage.TheVariants.{Frame}
use Rattle.c_typed.specs.Tree as t
use Rattle.c_typed.specs.declared.rule.Rule.TheVariants.{UnknownName, Redeclared, OutsideALoop, ReturnValue}
use Rattle.c_scopes.specs.Scopes.{outermost}
use Rattle.c_types_operators.specs.Parts.{breach}
use Rattle.c_types_operators.specs.Rules.{Judged, Fine, Broken}
use Rattle.c_types_statements.specs.Statements.{literals_in_all, places_of, statements}
use Rattle.c_types_worked.proofs.Small.{at, int, name, number, text, scalar, array, doing, return, local}

-- ---- numbers and strings

-- if(1);else{;}{;}
all_but_blocks : places_of (c.stms (c.if_else (at 1) (number 4 1) (c.empty (at 6)) (c.block (at 11) (c.stms (c.empty (at 12) ∷ []))) ∷ c.block (at 14) (c.stms (c.empty (at 15) ∷ [])) ∷ [])) ≡ at 1 ∷ at 6 ∷ at 12 ∷ at 15 ∷ []
all_but_blocks = refl

-- do;while(0);for(int i=0;;)break;
loops_before_their_bodies : places_of (c.stms (c.do_while (at 1) (c.empty (at 3)) (number 10 0) ∷ c.for_loop (at 13) (c.start_local (scalar 21 int "i" (c.value (number 23 0)) ∷ [])) c.missing c.missing (c.break (at 27)) ∷ [])) ≡ at 1 ∷ at 3 ∷ at 13 ∷ at 27 ∷ []
loops_before_their_bodies = refl

-- for("a";"b";"c")"d";do "e";while("f");
in_order_of_appearance : literals_in_all (c.stms (c.for_loop (at 1) (c.start_expr (c.given (text 5 "a"))) (c.given (text 9 "b")) (c.given (text 13 "c")) (doing 17 (text 17 "d")) ∷ c.do_while (at 21) (doing 24 (text 24 "e")) (text 34 "f") ∷ [])) ≡ codes "a" ∷ codes "b" ∷ codes "c" ∷ codes "d" ∷ codes "e" ∷ codes "f" ∷ []
in_order_of_appearance = refl

-- ---- meanings, in a function that gives a `char`, whose variables live in slot 0, in the frame from 8 on, and in slot 1

abbrev judged : List c.Stm → Judged t.Stms
judged xs =
    statements (v.Base Char) (h.Slot 0 ∷ h.Frame 8 ∷ h.Slot 1 ∷ []) (record { scopes = outermost; functions = [] }) (record { variable = 0; places = []; texts = [] }) false (c.stms xs)

abbrev zero : t.Exp
zero = t.constant (v.Base Int) (pos 0)

-- int x;return x;
converted_to_give : judged (local 1 (scalar 5 int "x" c.no_init ∷ []) ∷ return 7 (name 14 "x") ∷ []) ≡ Fine (t.stms (t.local 0 (t.exps (t.set_slot (v.Base Int) 0 zero ∷ [])) ∷ t.return 1 (t.given (t.convert (v.Base Char) (t.slot (v.Base Int) 0))) ∷ []))
converted_to_give = refl

-- int x=1,y=x;
by_their_homes : judged (local 1 (scalar 5 int "x" (c.value (number 7 1)) ∷ scalar 9 int "y" (c.value (name 11 "x")) ∷ []) ∷ []) ≡ Fine (t.stms (t.local 0 (t.exps (t.set_slot (v.Base Int) 0 (t.constant (v.Base Int) (pos 1)) ∷ t.store (v.Base Int) (t.address (v.Pointer Int 1) (Frame 8)) (t.slot (v.Base Int) 0) ∷ [])) ∷ []))
by_their_homes = refl

-- int x;int a[2];
arrays_begin_with_nothing : judged (local 1 (scalar 5 int "x" c.no_init ∷ []) ∷ local 7 (array 11 int "a" 2 c.no_init ∷ []) ∷ []) ≡ Fine (t.stms (t.local 0 (t.exps (t.set_slot (v.Base Int) 0 zero ∷ [])) ∷ t.local 1 t.no_exp ∷ []))
arrays_begin_with_nothing = refl

-- int x;{int x;x;}x;
hidden_in_a_block : judged (local 1 (scalar 5 int "x" c.no_init ∷ []) ∷ c.block (at 7) (c.stms (local 8 (scalar 12 int "x" c.no_init ∷ []) ∷ doing 14 (name 14 "x") ∷ [])) ∷ doing 17 (name 17 "x") ∷ []) ≡ Fine (t.stms (t.local 0 (t.exps (t.set_slot (v.Base Int) 0 zero ∷ [])) ∷ t.block (t.stms (t.local 1 (t.exps (t.store (v.Base Int) (t.address (v.Pointer Int 1) (Frame 8)) zero ∷ [])) ∷ t.expression 2 (t.load (v.Base Int) (t.address (v.Pointer Int 1) (Frame 8))) ∷ [])) ∷ t.expression 3 (t.slot (v.Base Int) 0) ∷ []))
hidden_in_a_block = refl

-- for(int x=0;x;)break;
loop_with_its_variable : judged (c.for_loop (at 1) (c.start_local (scalar 9 int "x" (c.value (number 11 0)) ∷ [])) (c.given (name 13 "x")) c.missing (c.break (at 16)) ∷ []) ≡ Fine (t.stms (t.for_loop 0 (t.exps (t.set_slot (v.Base Int) 0 zero ∷ [])) (t.given (t.slot (v.Base Int) 0)) t.missing (t.break 1) ∷ []))
loop_with_its_variable = refl

-- for(int x=0;;);x;break;
behind_its_loop : judged (c.for_loop (at 1) (c.start_local (scalar 9 int "x" (c.value (number 11 0)) ∷ [])) c.missing c.missing (c.empty (at 15)) ∷ doing 16 (name 16 "x") ∷ c.break (at 18) ∷ []) ≡ Broken (breach UnknownName (at 16)) (breach OutsideALoop (at 18) ∷ [])
behind_its_loop = refl

-- int x,x=y;return;
all_rules_in_order : judged (local 1 (scalar 5 int "x" c.no_init ∷ scalar 7 int "x" (c.value (name 9 "y")) ∷ []) ∷ c.return (at 11) c.missing ∷ []) ≡ Broken (breach Redeclared (at 7)) (breach UnknownName (at 9) ∷ breach ReturnValue (at 11) ∷ [])
all_rules_in_order = refl
