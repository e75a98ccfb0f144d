-- Small trees and their code.
use Rattle.std.proofs.Common.{◌≡◌, suc, ◌+◌, pos, List, [], ◌∷◌, Some, None, codes, refl}
use Rattle.ib_base.specs.declared.integers.Width.TheVariants.{W4}
use Rattle.ib_act.specs.declared.act.Size.TheVariants.{Four, Eight}
use Rattle.ib_act.specs.declared.act.Act.TheVariants.{Const, Mov, Add, Mul, Less, ExtByte, FrameAddress, Bounds, Load, Store, PutByte}
use Rattle.c_ast.specs.declared.tree.Base.TheVariants.{Char}
use Rattle.c_typed.specs.declared.types.ValueType.TheVariants.{Base}
use Rattle.c_typed.specs.declared.expr.Storage.TheVariants.{Global, Frame}
use Rattle.c_typed.specs.declared.expr.Reach.TheVariants.{Inside}
use Rattle.c_typed.specs.declared.operation.Rank.TheVariants as r
use Rattle.c_typed.specs.declared.operation.Arithmetic.TheVariants as a
use Rattle.c_typed.specs.declared.operation.Comparison.TheVariants as c
use Rattle.c_typed.specs.declared.operation.Operation.TheVariants.{Integer, Compare, Distance}
use Rattle.c_typed.specs.declared.program.Home.TheVariants as h
use Rattle.c_typed.specs.ValueTypes.{int, long}
use Rattle.c_typed.specs.Tree.{Exp, Stm, constant, slot, binary, not, both, update_slot, update, set_slot, step_slot, element, load, address, put_byte, call, no_exp, an_exp, given, missing, block, empty, expression, if_then, while_loop, do_while, for_loop, break, continue, return, local, stms, Function}
use Rattle.c_typed.specs.Program.{Program}
use Rattle.tac_core.specs.declared.code.End.TheVariants.{Jump, Branch, Call, Ret}
use Rattle.tac_core.specs.Program.{func_ops}
use Rattle.tac_lowered.specs.Items.{Item, Do, Close, onward, items, is_full}
use Rattle.tac_lowered.specs.Statements.{low_stm}
use Rattle.tac_lowered.specs.Lowered.{lowered_function}
use Rattle.tac_lowered.specs.Slots.{declared}

-- a program with one statement and one global
none : Program
none = record { functions = []; globals = 4096 ∷ []; strings = []; image = []; places = record { line = 1; col = 1 } ∷ [] }

-- The code of a statement in a loop: two variables are the registers 0 and 1, `break` leads to 9 and `continue` to 8.
of : Stm → List Item
unfolding none
of a = items (low_stm none a 2) (record { on_break = 9; on_continue = 8 }) onward (record { label = 3; count = 0 })

abbrev x : Exp
x = slot int 0

abbrev y : Exp
y = slot int 1

abbrev print : Stm
print = expression 0 (put_byte x)

-- x = x + 1;
adds : of (expression 0 (set_slot int 0 (binary int (Integer a.Add r.Int) x (constant int (pos 1))))) ≡ Do 0 (Const 3 (pos 1)) ∷ Do 0 (Add Four 0 0 3) ∷ []
unfolding of none is_full
adds = refl

-- x = x; something is done
itself : of (expression 0 (set_slot int 0 x)) ≡ Do 0 (Mov 0 0) ∷ []
unfolding of none is_full
itself = refl

-- y += x; where y is a char: the result is cut to its type
cut_again : of (expression 0 (update_slot (Base Char) 1 int (Integer a.Add r.Int) x)) ≡ Do 0 (Add Four 4 1 0) ∷ Do 0 (ExtByte 1 4) ∷ []
unfolding of none is_full
cut_again = refl

-- if (x && y) putchar(x);
two_tests : of (if_then 0 (both x y) print) ≡ Close 0 (Branch 0 4 6) ∷ Close 0 (Branch 1 5 6) ∷ Do 0 (PutByte 0) ∷ Close 0 (Jump 6) ∷ []
unfolding of none is_full
two_tests = refl

-- if (!(x && y)) break;
leaving : of (if_then 0 (not (both x y)) (break 0)) ≡ Close 0 (Branch 0 4 9) ∷ Close 0 (Branch 1 5 9) ∷ []
unfolding of none is_full
leaving = refl

-- if (x) ; leads to one block either way
no_choice : of (if_then 0 x (empty 0)) ≡ Close 0 (Jump 4) ∷ []
unfolding of none is_full
no_choice = refl

-- while (x) while (y) { if (x) break; if (y) continue; putchar(x); }
nested : of (while_loop 0 x (while_loop 0 y (block (stms (if_then 0 x (break 0) ∷ if_then 0 y (continue 0) ∷ print ∷ [])))))
    ≡ Close 0 (Jump 4) ∷ Close 0 (Branch 0 5 10) ∷ Close 0 (Jump 6) ∷ Close 0 (Branch 1 7 4) ∷ Close 0 (Branch 0 4 8) ∷ Close 0 (Branch 1 6 9) ∷ Do 0 (PutByte 0) ∷ Close 0 (Jump 6) ∷ []
unfolding of none is_full
nested = refl

-- do while (x) putchar(x); while (y);
begins_with_a_loop : of (do_while 0 (while_loop 0 x print) y)
    ≡ Close 0 (Jump 4) ∷ Close 0 (Jump 5) ∷ Close 0 (Branch 0 6 7) ∷ Do 0 (PutByte 0) ∷ Close 0 (Jump 5) ∷ Close 0 (Branch 1 4 8) ∷ []
unfolding of none is_full
begins_with_a_loop = refl

-- do do putchar(x); while (0); while (0); each head has a jump of its own
heads : of (do_while 0 (do_while 0 print (constant int (pos 0))) (constant int (pos 0)))
    ≡ Close 0 (Jump 4) ∷ Close 0 (Jump 5) ∷ Do 0 (PutByte 0) ∷ Close 0 (Jump 6) ∷ Close 0 (Jump 7) ∷ []
unfolding of none is_full
heads = refl

-- for (;;) if (x) break;
for_ever : of (for_loop 0 no_exp missing missing (if_then 0 x (break 0))) ≡ Close 0 (Jump 4) ∷ Close 0 (Jump 5) ∷ Close 0 (Branch 0 6 4) ∷ []
unfolding of none is_full
for_ever = refl

-- for (; x < y; x++) f(x); the step goes on where the body ends
counting : of (for_loop 0 no_exp (given (binary int (Compare c.Less) x y)) (given (step_slot int 0 int (Integer a.Add r.Int))) (expression 0 (call int 5 (an_exp x no_exp))))
    ≡ Close 0 (Jump 4) ∷ Do 0 (Less 2 0 1) ∷ Close 0 (Branch 2 5 7) ∷ Close 0 (Call None 5 (0 ∷ []) 6) ∷ Do 0 (Const 2 (pos 1)) ∷ Do 0 (Add Four 0 0 2) ∷ Close 0 (Jump 4) ∷ []
unfolding of none is_full
counting = refl

-- for (; x < y; x++) { if (y) continue; f(x); } the step is a block of its own
skipping : of (for_loop 0 no_exp (given (binary int (Compare c.Less) x y)) (given (step_slot int 0 int (Integer a.Add r.Int))) (block (stms (if_then 0 y (continue 0) ∷ print ∷ []))))
    ≡ Close 0 (Jump 4) ∷ Do 0 (Less 2 0 1) ∷ Close 0 (Branch 2 5 8) ∷ Close 0 (Branch 1 7 6) ∷ Do 0 (PutByte 0) ∷ Close 0 (Jump 7) ∷ Do 0 (Const 2 (pos 1)) ∷ Do 0 (Add Four 0 0 2) ∷ Close 0 (Jump 4) ∷ []
unfolding of none is_full
skipping = refl

-- f(g(x), y);
inner_call : of (expression 0 (call int 5 (an_exp (call int 6 (an_exp x no_exp)) (an_exp y no_exp)))) ≡ Close 0 (Call (Some 2) 6 (0 ∷ []) 4) ∷ Close 0 (Call None 5 (2 ∷ 1 ∷ []) 5) ∷ []
unfolding of none is_full
inner_call = refl

-- f(x, g(y, x)); a variable takes no register where nothing sets it
variables_passed : of (expression 0 (call int 5 (an_exp x (an_exp (call int 6 (an_exp y (an_exp x no_exp))) no_exp)))) ≡ Close 0 (Call (Some 2) 6 (1 ∷ 0 ∷ []) 4) ∷ Close 0 (Call None 5 (0 ∷ 2 ∷ []) 5) ∷ []
unfolding of none is_full
variables_passed = refl

-- g[x] += f(); the element is read before the call
element_updated : of (expression 0 (update int (element int (Global 0) 10 4 Inside x) int (Integer a.Add r.Int) (call int 5 no_exp)))
    ≡ Do 0 (Bounds 2 0 (pos 10)) ∷ Do 0 (Const 3 (pos 4)) ∷ Do 0 (Mul Eight 3 2 3) ∷ Do 0 (Const 4 (pos 4096)) ∷ Do 0 (Add Eight 2 4 3) ∷ Do 0 (Load W4 3 2 (pos 0))
    ∷ Close 0 (Call (Some 4) 5 [] 4) ∷ Do 0 (Add Four 3 3 4) ∷ Do 0 (Store W4 2 (pos 0) 3) ∷ []
unfolding of none is_full
element_updated = refl

-- if (x) return y; putchar(x);
returns_early : of (block (stms (if_then 0 x (return 0 (given y)) ∷ print ∷ []))) ≡ Close 0 (Branch 0 4 5) ∷ Close 0 (Ret (Some 1)) ∷ Do 0 (PutByte 0) ∷ []
unfolding of none is_full
returns_early = refl

-- int f(int a, int b) { return *&a; } with a in the frame and b in a slot
stored_first : lowered_function none (record {
  name = codes "f";
  result = int;
  params = record { ty = int; home = h.Frame 8 } ∷ record { ty = int; home = h.Slot 0 } ∷ [];
  slots = 1;
  frame = 16;
  body = stms (return 0 (given (load int (address int (Frame 8)))) ∷ []);
}) ≡ record {
  name = codes "f";
  params = 1 ∷ 0 ∷ [];
  regs = 3;
  frame = 16;
  blocks = record {
    ops = record { stmt = 1; act = FrameAddress 2 (pos 8) } ∷ record { stmt = 1; act = Store W4 2 (pos 0) 1 } ∷ record { stmt = 0; act = FrameAddress 2 (pos 8) } ∷ record { stmt = 0; act = Load W4 2 2 (pos 0) } ∷ [];
    «end» = Ret (Some 2);
    end_stmt = 0;
  } ∷ record { ops = []; «end» = Ret None; end_stmt = 1 } ∷ [];
}
unfolding none is_full
stored_first = refl

-- int d = x; declares a variable, d = x; does not
two_declared : declared (block (stms (local 0 (an_exp (set_slot int 2 x) (an_exp (set_slot int 3 y) no_exp)) ∷ expression 0 (set_slot int 2 y) ∷ []))) ≡ 2
two_declared = refl

-- void f(long *p, long *q) { long d = p - q; } has one register more than parameters and operations
difference : Function
difference = record {
  name = codes "f";
  result = int;
  params = record { ty = long; home = h.Slot 0 } ∷ record { ty = long; home = h.Slot 1 } ∷ [];
  slots = 3;
  frame = 0;
  body = stms (local 0 (an_exp (set_slot long 2 (binary long (Distance 8) (slot long 0) (slot long 1))) no_exp) ∷ []);
}

most_registers : (lowered_function none difference).regs ≡ suc (2 + func_ops (lowered_function none difference))
unfolding none is_full difference
most_registers = refl
