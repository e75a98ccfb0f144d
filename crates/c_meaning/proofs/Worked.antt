-- The meaning of small programs.
use Rattle.std.specs.Prelude.{◌≡◌, ℕ, pos, negsuc, List, [], ◌∷◌, codes, Ok, Err}
use Rattle.std.proofs.Common.{refl}
use Rattle.std.specs.Int.{int_wrap}
use Rattle.std.specs.Fmt.{digits}
use Rattle.ib_base.specs.declared.integers.Width.TheVariants.{W4}
use Rattle.ib_mem.specs.Memory.{zeros}
use Rattle.ib_meaning.specs.declared.place.Place.{Place}
use Rattle.ib_meaning.specs.declared.fault.FaultKind.TheVariants.{DivZero, DivOverflow, BadAddress, Bounds}
use Rattle.ib_meaning.specs.Agreement.{Report, More, Over, Returned, Faulted}
use Rattle.c_ast.specs.declared.tree.Base.TheVariants.{Char, Int}
use Rattle.c_typed.specs.declared.types.ValueType.{ValueType}
use Rattle.c_typed.specs.declared.types.ValueType.TheVariants.{Base}
use Rattle.c_typed.specs.declared.expr.Storage.TheVariants as st
use Rattle.c_typed.specs.declared.expr.Reach.TheVariants.{Inside, ToEnd}
use Rattle.c_typed.specs.declared.operation.Rank.TheVariants as r
use Rattle.c_typed.specs.declared.operation.Arithmetic.{Arithmetic}
use Rattle.c_typed.specs.declared.operation.Arithmetic.TheVariants as a
use Rattle.c_typed.specs.declared.operation.Comparison.TheVariants as c
use Rattle.c_typed.specs.declared.operation.Operation.TheVariants as o
use Rattle.c_typed.specs.declared.operation.Sign.TheVariants as s
use Rattle.c_typed.specs.declared.program.Param.{Param}
use Rattle.c_typed.specs.declared.program.Home.TheVariants as h
use Rattle.c_typed.specs.Tree as t
use Rattle.c_typed.specs.Tree.{Exp, exps, Stm, stms, Function}
use Rattle.c_typed.specs.Program.{Program}
use Rattle.c_meaning.specs.Meaning.{source_meaning, first_memory}

abbrev int : ValueType
int = Base Int

abbrev n : ℕ → Exp
n k = t.constant int (pos k)

abbrev slot : ℕ → Exp
slot k = t.slot int k

abbrev set : ℕ → Exp → Exp
set k e = t.set_slot int k e

abbrev two : Arithmetic → Exp → Exp → Exp
two op a b = t.binary int (o.Integer op r.Int) a b

abbrev add_to : ℕ → Exp → Exp
add_to k e = t.update_slot int k int (o.Integer a.Add r.Int) e

abbrev less : Exp → Exp → Exp
less a b = t.binary int (o.Compare c.Less) a b

abbrev show : ℕ → Exp → Stm
show s e = t.expression s (t.put_number e)

abbrev give : ℕ → Exp → Stm
give s e = t.return s (t.given e)

abbrev function : List ℕ → List Param → List Stm → Function
function name params body = record { name = name; result = int; params = params; slots = 4; frame = 16; body = stms body }

-- statement k stands in line k
abbrev program : List Function → List Stm → Program
program others body = record {
  functions = function (codes "main") [] body ∷ others;
  globals = 4096 ∷ [];
  strings = [];
  image = [];
  places = (record { line = 0; col = 1 }) ∷ (record { line = 1; col = 1 }) ∷ (record { line = 2; col = 1 }) ∷ (record { line = 3; col = 1 }) ∷ [];
}

abbrev run : List Stm → (budget : ℕ) → Report
run body budget = source_meaning (program [] body) [] budget

abbrev at : ℕ → Place
at line = record { line = line; col = 1 }

-- `x=1; return x+(x=5)+x;`
operands_in_order : run (t.expression 0 (set 0 (n 1)) ∷ give 1 (two a.Add (two a.Add (slot 0) (set 0 (n 5))) (slot 0)) ∷ []) 0 ≡ Over (Returned (pos 11)) [] []
unfolding source_meaning int_wrap
operands_in_order = refl

-- `x=1; return x+=(x=5);`
update_reads_first : run (t.expression 0 (set 0 (n 1)) ∷ give 1 (add_to 0 (set 0 (n 5))) ∷ []) 0 ≡ Over (Returned (pos 6)) [] []
unfolding source_meaning int_wrap
update_reads_first = refl

-- `return x++ * 10 + x;`
step_gives_old : run (give 0 (two a.Add (two a.Mul (t.step_slot int 0 int (o.Integer a.Add r.Int)) (n 10)) (slot 0)) ∷ []) 0 ≡ Over (Returned (pos 1)) [] []
unfolding source_meaning int_wrap
step_gives_old = refl

-- `putint(1); putint(7/0); putint(2);`
fault_of_statement : run (show 1 (n 1) ∷ show 2 (two a.Div (n 7) (n 0)) ∷ show 3 (n 2) ∷ []) 0 ≡ Over (Faulted (at 2) DivZero) (codes "1") []
unfolding source_meaning int_wrap digits
fault_of_statement = refl

-- `for(;1/0;);`
fault_of_head : run (t.for_loop 1 (exps []) (t.given (two a.Div (n 1) (n 0))) t.missing (t.empty 2) ∷ []) 0 ≡ Over (Faulted (at 1) DivZero) [] []
unfolding source_meaning int_wrap
fault_of_head = refl

-- `x=0; y=0&&(x=5); return x*10+y;`, and `||`
both_stops : run (t.expression 0 (set 1 (t.both (n 0) (set 0 (n 5)))) ∷ give 1 (two a.Add (two a.Mul (slot 0) (n 10)) (slot 1)) ∷ []) 0 ≡ Over (Returned (pos 0)) [] []
unfolding source_meaning int_wrap
both_stops = refl

either_stops : run (t.expression 0 (set 1 (t.either (n 7) (set 0 (n 5)))) ∷ give 1 (two a.Add (two a.Mul (slot 0) (n 10)) (slot 1)) ∷ []) 0 ≡ Over (Returned (pos 1)) [] []
unfolding source_meaning int_wrap
either_stops = refl

-- `return (3&&4)+!0+!9;`
truths : run (give 0 (two a.Add (two a.Add (t.both (n 3) (n 4)) (t.not (n 0))) (t.not (n 9))) ∷ []) 0 ≡ Over (Returned (pos 2)) [] []
unfolding source_meaning int_wrap
truths = refl

-- `while(1)putchar('x');`
abbrev endless : Stm
endless = t.while_loop 0 (n 1) (t.expression 1 (t.put_byte (n 120)))

spent : run (endless ∷ []) 3 ≡ More (codes "xxx") []
unfolding source_meaning int_wrap
spent = refl

-- `for(x=0;x<9;x+=1){if(x<2)continue;if(2<x)break;putint(x);} return x;`
abbrev turns : List Stm
turns = t.for_loop 0 (exps (set 0 (n 0) ∷ [])) (t.given (less (slot 0) (n 9))) (t.given (add_to 0 (n 1)))
    (t.block (stms (t.if_then 1 (less (slot 0) (n 2)) (t.continue 2) ∷ t.if_then 1 (less (n 2) (slot 0)) (t.break 2) ∷ show 3 (slot 0) ∷ [])))
    ∷ give 1 (slot 0) ∷ []

turns_four : run turns 4 ≡ Over (Returned (pos 3)) (codes "2") []
unfolding source_meaning int_wrap digits
turns_four = refl

turns_three : run turns 3 ≡ More (codes "2") []
unfolding source_meaning int_wrap digits
turns_three = refl

-- `do putint(7); while(0);`
once : run (t.do_while 0 (show 1 (n 7)) (n 0) ∷ []) 1 ≡ Over (Returned (pos 0)) (codes "7") []
unfolding source_meaning int_wrap digits
once = refl

-- `int f(int a,int b){return a-b;}`, called by `return f(putchar('a'),putchar('b'));`
abbrev difference : Function
difference = function (codes "f") (record { ty = int; home = h.Slot 0 } ∷ record { ty = int; home = h.Slot 1 } ∷ []) (give 1 (two a.Sub (slot 0) (slot 1)) ∷ [])

abbrev caller : List Stm
caller = give 0 (t.call int 1 (exps (t.put_byte (n 97) ∷ t.put_byte (n 98) ∷ []))) ∷ []

called : source_meaning (program (difference ∷ []) caller) [] 1 ≡ Over (Returned (negsuc 0)) (codes "ab") []
unfolding source_meaning int_wrap
called = refl

-- the arguments come before the unit
not_called : source_meaning (program (difference ∷ []) caller) [] 0 ≡ More (codes "ab") []
unfolding source_meaning int_wrap
not_called = refl

-- `return getchar()*1000+getchar();`, with one byte of input
reads : source_meaning (program [] (give 0 (two a.Add (two a.Mul t.get_byte (n 1000)) t.get_byte) ∷ [])) (7 ∷ []) 0 ≡ Over (Returned (pos 6999)) [] []
unfolding source_meaning int_wrap
reads = refl

-- `*(int*)0;`, and an access that is not aligned
null_read : run (t.expression 1 (t.load int (n 0)) ∷ []) 0 ≡ Over (Faulted (at 1) BadAddress) [] []
unfolding source_meaning int_wrap
null_read = refl

between : run (t.expression 1 (t.store int (n 4098) (n 1)) ∷ []) 0 ≡ Over (Faulted (at 1) BadAddress) [] []
unfolding source_meaning int_wrap
between = refl

-- `int f(int a){int b[1]; int x=b[0]; b[0]=a; return x+a;}`, with `a` in the frame, called by `return f(3)+f(4)*10;`
abbrev first_cell : Exp
first_cell = t.element int (st.Frame 4) 1 4 Inside (n 0)

abbrev leaves_bytes : Function
leaves_bytes = function (codes "f") (record { ty = int; home = h.Frame 0 } ∷ [])
    (t.local 0 (exps (set 0 (t.load int first_cell) ∷ [])) ∷ t.expression 1 (t.store int first_cell (t.load int (t.address int (st.Frame 0)))) ∷ give 2 (two a.Add (slot 0) (t.load int (t.address int (st.Frame 0)))) ∷ [])

frame_cleared : source_meaning (program (leaves_bytes ∷ []) (give 0 (two a.Add (t.call int 1 (exps (n 3 ∷ []))) (two a.Mul (t.call int 1 (exps (n 4 ∷ []))) (n 10))) ∷ [])) [] 2 ≡ Over (Returned (pos 43)) [] []
unfolding source_meaning int_wrap first_memory zeros
frame_cleared = refl
