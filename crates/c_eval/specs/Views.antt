-- The frames and tasks of the code as plain data.
use Rattle.std.specs.Prelude.{List, map, Option, Some, None}
use Rattle.std.specs.Borrow.{Bor}
use Rattle.c_typed.specs.declared.expr.Expr.{Expr}
use Rattle.c_typed.specs.declared.stmt.Stmt.{Stmt}
use Rattle.c_typed.specs.Tree.{Maybe, missing, given, Stm, Stms, stms, while_loop, do_while, for_loop, if_then, if_else}
use Rattle.c_typed.specs.Views.{expr_of, list_exps, stmt_of}
use Rattle.c_eval.specs.declared.frame.Turns as r
use Rattle.c_eval.specs.declared.frame.Caller as rc
use Rattle.c_eval.specs.declared.frame.Frame as rf
use Rattle.c_eval.specs.declared.frame.Frame.TheVariants as f
use Rattle.c_eval.specs.declared.frame.Phase as rh
use Rattle.c_eval.specs.declared.frame.Phase.TheVariants as h
use Rattle.c_eval.specs.declared.frame.Exit as re
use Rattle.c_eval.specs.declared.frame.Exit.TheVariants as e
use Rattle.c_eval.specs.declared.frame.Task as rt
use Rattle.c_eval.specs.declared.frame.Task.TheVariants as t
use Rattle.c_eval.specs.declared.frame.Ask as ra
use Rattle.c_eval.specs.declared.frame.Ask.TheVariants as a
use Rattle.c_eval.specs.declared.frame.Want as rw
use Rattle.c_eval.specs.declared.frame.Want.TheVariants as w
use Rattle.c_eval.specs.declared.frame.Move as rm
use Rattle.c_eval.specs.declared.frame.Move.TheVariants as m
use Rattle.c_eval.specs.Pending as p
use Rattle.c_eval.specs.Pending.{Turns, Caller, Frame, Exit, Task, Machine, Move}

abbrev pub list_stms : List Stmt → Stms
list_stms all = stms (map stmt_of all)

abbrev pub maybe_of : Option (Bor Expr) → Maybe
maybe_of None = missing
maybe_of (Some x) = given (expr_of x.now)

abbrev pub turns_of : r.Turns → Turns
turns_of a = record { number = a.number; test = maybe_of a.test; last = maybe_of a.last; body = stmt_of a.body.now }

abbrev pub caller_of : rc.Caller → Caller
caller_of c = record { depth = c.depth; base = c.base; top = c.top; slots = c.slots }

-- the parts of a loop; of no other statement there is one
abbrev pub turns_in : Stm → Turns
turns_in (while_loop s a b) = record { number = s; test = given a; last = missing; body = b }
turns_in (do_while s b a) = record { number = s; test = given a; last = missing; body = b }
turns_in (for_loop s all a c b) = record { number = s; test = a; last = c; body = b }
turns_in stm = record { number = 0; test = missing; last = missing; body = stm }

-- what an `if` does with the value of its test
abbrev pub choice_frame : Stm → Frame
choice_frame (if_then s a b) = p.if_then b
choice_frame (if_else s a b c) = p.if_else b c
choice_frame stm = p.discard

abbrev pub control_frame : rh.Phase → Stm → Frame
control_frame h.Choice stm = choice_frame stm
control_frame h.Begin stm = p.begin (turns_in stm)
control_frame h.Test stm = p.turn_test (turns_in stm)
control_frame h.Last stm = p.turn_last (turns_in stm)
control_frame h.Body stm = p.in_turn (turns_in stm)

abbrev pub frame_of : rf.Frame → Frame
frame_of (f.Element array length size reach number) = p.element array length size reach number
frame_of (f.Load ty number) = p.load ty number
frame_of (f.Convert ty) = p.convert ty
frame_of (f.Unary op rank) = p.unary op rank
frame_of f.Not = p.not
frame_of (f.Left op right number) = p.left op (expr_of right.now) number
frame_of (f.Right op left number) = p.right op left number
frame_of (f.Both right number) = p.both (expr_of right.now) number
frame_of (f.Either right number) = p.either (expr_of right.now) number
frame_of f.Truth = p.truth
frame_of (f.Choice here other number) = p.choice (expr_of here.now) (expr_of other.now) number
frame_of (f.SetSlot slot) = p.set_slot slot
frame_of (f.StoreAt ty value number) = p.store_at ty (expr_of value.now) number
frame_of (f.StoreValue ty address number) = p.store_value ty address number
frame_of (f.UpdateSlot ty slot within op old number) = p.update_slot ty slot within op old number
frame_of (f.UpdateAt ty within op value number) = p.update_at ty within op (expr_of value.now) number
frame_of (f.UpdateValue ty address within op old number) = p.update_value ty address within op old number
frame_of (f.StepAt ty within op number) = p.step_at ty within op number
frame_of (f.Argument rest number) = p.argument (list_exps rest.now) number
frame_of f.PutByte = p.put_byte
frame_of f.PutNumber = p.put_number
frame_of (f.Comma rest last number) = p.comma (list_exps rest.now) (expr_of last.now) number
frame_of f.Discard = p.discard
frame_of (f.Parts rest number) = p.parts (list_exps rest.now) number
frame_of f.GiveBack = p.give_back
frame_of (f.Held value) = p.held value
frame_of (f.Callee function number) = p.callee function number
frame_of (f.Rest stmts) = p.rest (list_stms stmts.now)
frame_of (f.Control phase stmt) = control_frame phase (stmt_of stmt.now)
frame_of (f.Called caller) = p.called (caller_of caller)

abbrev pub exit_of : re.Exit → Exit
exit_of e.Next = p.next
exit_of e.OnBreak = p.on_break
exit_of e.OnContinue = p.on_continue
exit_of (e.OnReturn value) = p.on_return value

abbrev pub task_of : rt.Task → Task
task_of (t.Eval expr number) = p.eval (expr_of expr.now) number
task_of (t.Give value) = p.give value
task_of t.Pass = p.pass
task_of (t.Exec stmt) = p.exec (stmt_of stmt.now)
task_of (t.Leave exit) = p.leave (exit_of exit)

abbrev pub ask_of : ra.Ask → Task
ask_of a.GetByte = p.get_byte
ask_of (a.PutByte value) = p.put_byte_of value
ask_of (a.PutNumber value) = p.put_number_of value

abbrev pub want_of : rw.Want → Task
want_of (w.Call function number) = p.call function number
want_of (w.Turn stmt) = p.turn (turns_in (stmt_of stmt.now))

abbrev pub move_of : rm.Move → Machine → Move
move_of (m.Goes task) machine = p.Goes (task_of task) machine
move_of (m.Asks ask) machine = p.Goes (ask_of ask) machine
move_of (m.Wants want) machine = p.Goes (want_of want) machine
move_of (m.Faults number kind) machine = p.Faults number kind
move_of (m.Ends result) machine = p.Ends result
move_of m.Stops machine = p.Stops
