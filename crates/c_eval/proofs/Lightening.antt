-- Each move leaves less to do.
use Rattle.std.proofs.Common.{ℕ, ◌+◌, ◌<◌, ℤ, pos, Bool, true, false, List, [], ◌∷◌, Result, Ok, Err, arith, if◌then◌else◌}
use Rattle.std.specs.Prelude.{slice_index_or}
use Rattle.std.specs.Int.{w64, cast_unsigned}
use Rattle.ib_mem.specs.Memory.{stored}
use Rattle.ib_meaning.specs.declared.fault.FaultKind.{FaultKind}
use Rattle.c_typed.specs.declared.types.ValueType.{ValueType}
use Rattle.c_typed.specs.declared.operation.Operation.{Operation}
use Rattle.c_typed.specs.Tree as t
use Rattle.c_typed.specs.Tree.{Exp, Exps, Maybe, Stm, Stms}
use Rattle.c_typed.specs.Program.{Program}
use Rattle.c_typed.specs.ValueTypes.{size_of}
use Rattle.c_typed.specs.Values.{converted, operated, is_true, accessed, element}
use Rattle.c_meaning.specs.Doing.{storage}
use Rattle.c_eval.specs.Pending as p
use Rattle.c_eval.specs.Pending.{Turns, Frame, Exit, Task, Machine, Move, Goes, Faults, Ends, Stops}
use Rattle.c_eval.specs.Moves as moves
use Rattle.c_eval.specs.Weights.{weight, weights, part_weight, stms_weight, frame_weight, frames_weight, work, Lightens}

module _ (m : Machine) (top : ℕ) where
  abbrev rest : ℕ
  rest = frames_weight m.frames

  given_less : (r : Result ℤ FaultKind) (s : ℕ) → 2 + rest < top → Lightens top (moves.given_or r s m)
  unfolding work
  given_less (Ok v) s lt = lt
  given_less (Err kind) s lt = tt

  set_less : (r : Result ℤ FaultKind) (ty : ValueType) (j : ℕ) (give : ℤ → ℤ) (s : ℕ) → 2 + rest < top → Lightens top (moves.set_or r ty j give s m)
  unfolding work
  set_less (Ok v) ty j give s lt = lt
  set_less (Err kind) ty j give s lt = tt

  written_less : (r : Result (List ℕ) FaultKind) (give : ℤ) (s : ℕ) → 2 + rest < top → Lightens top (moves.written_or r give s m)
  unfolding work
  written_less (Ok memory) give s lt = lt
  written_less (Err kind) give s lt = tt

  store_or_less : (r : Result ℤ FaultKind) (ty : ValueType) (a : ℤ) (give : ℤ → ℤ) (s : ℕ) → 2 + rest < top → Lightens top (moves.store_or r ty a give s m)
  store_or_less (Ok v) ty a give s lt = written_less (accessed (stored m.memory a (size_of ty) (cast_unsigned w64 (converted ty v)))) (give (converted ty v)) s lt
  store_or_less (Err kind) ty a give s lt = tt

  old_less : (r : Result ℤ FaultKind) (ty : ValueType) (a : ℤ) (within : ValueType) (op : Operation) (e : Exp) (s : ℕ) → weight e + 1 + rest < top → Lightens top (moves.old_or r ty a within op e s m)
  unfolding work
  old_less (Ok v) ty a within op e s lt = omega arith
  old_less (Err kind) ty a within op e s lt = tt

  stepped_less : (r : Result ℤ FaultKind) (ty : ValueType) (a : ℤ) (within : ValueType) (op : Operation) (s : ℕ) → 2 + rest < top → Lightens top (moves.stepped_or r ty a within op s m)
  stepped_less (Ok v) ty a within op s lt = store_or_less (operated op (converted within v) (pos 1)) ty a (λ new. v) s lt
  stepped_less (Err kind) ty a within op s lt = tt

  pass_less : (all : Exps) (s : ℕ) → weights all + 1 + rest < top → Lightens top (moves.pass_first all s m)
  unfolding work
  pass_less t.no_exp s lt = omega arith
  pass_less (t.an_exp a others) s lt = omega arith

  comma_less : (all : Exps) (e : Exp) (s : ℕ) → weights all + weight e + rest < top → Lightens top (moves.comma_first all e s m)
  unfolding work
  comma_less t.no_exp e s lt = omega arith
  comma_less (t.an_exp a others) e s lt = omega arith

  parts_less : (all : Exps) (s : ℕ) → weights all + 2 + rest < top → Lightens top (moves.parts_first all s m)
  unfolding work
  parts_less t.no_exp s lt = omega arith
  parts_less (t.an_exp a others) s lt = omega arith

  rest_less : (all : Stms) → stms_weight all + rest < top → Lightens top (moves.rest_first all m)
  unfolding work
  rest_less t.no_stm lt = omega arith
  rest_less (t.a_stm a others) lt = omega arith

  again_less : (a : Turns) → part_weight a.test + rest < top → Lightens top (moves.again a m)
  unfolding work
  again_less a = go a.test
    where
      go : (e : Maybe) → part_weight e + rest < top → Lightens top (moves.again_by e a m)
      go t.missing lt = lt
      go (t.given e) lt = omega arith

  onward_less : (a : Turns) → part_weight a.last + part_weight a.test + rest < top → Lightens top (moves.onward a m)
  unfolding work
  onward_less a = go a.last
    where
      go : (e : Maybe) → part_weight e + part_weight a.test + rest < top → Lightens top (moves.onward_by e a m)
      go t.missing lt = again_less a (omega arith)
      go (t.given e) lt = omega arith

  chosen : (v : ℤ) (x y : Move) → Lightens top x → Lightens top y → Lightens top (if is_true v then x else y)
  chosen v x y h g = go (is_true v)
    where
      go : (c : Bool) → Lightens top (if c then x else y)
      go true = h
      go false = g

pub eval_less : (q : Program) (e : Exp) (s : ℕ) (m : Machine) → Lightens (work (p.eval e s) m.frames) (moves.eval q e s m)
unfolding work
eval_less q (t.constant ty v) s m = omega arith
eval_less q (t.text j) s m = omega arith
eval_less q (t.address ty of) s m = omega arith
eval_less q (t.element ty array length size reach a) s m = omega arith
eval_less q (t.slot ty j) s m = omega arith
eval_less q (t.load ty a) s m = omega arith
eval_less q (t.convert ty a) s m = omega arith
eval_less q (t.unary op rank a) s m = omega arith
eval_less q (t.not a) s m = omega arith
eval_less q (t.binary ty op a e) s m = omega arith
eval_less q (t.both a e) s m = omega arith
eval_less q (t.either a e) s m = omega arith
eval_less q (t.conditional ty a e f) s m = omega arith
eval_less q (t.set_slot ty j a) s m = omega arith
eval_less q (t.store ty a e) s m = omega arith
eval_less q (t.update_slot ty j within op a) s m = omega arith
eval_less q (t.update ty a within op e) s m = omega arith
eval_less q (t.step_slot ty j within op) s m =
    set_less m _ (operated op (converted within (slice_index_or m.slots j (pos 0))) (pos 1)) ty j (λ new. slice_index_or m.slots j (pos 0)) s (omega arith)
eval_less q (t.step ty a within op) s m = omega arith
eval_less q (t.call ty f all) s m = pass_less (moves.push (p.callee f s) m) _ all s (omega arith)
eval_less q t.get_byte s m = omega arith
eval_less q (t.put_byte a) s m = omega arith
eval_less q (t.put_number a) s m = omega arith
eval_less q (t.comma all a) s m = comma_less m _ all a s (omega arith)

give_to_less : (q : Program) (frame : Frame) (v : ℤ) (m : Machine) → Lightens (2 + (frame_weight frame + frames_weight m.frames)) (moves.give_to q frame v m)
unfolding work
give_to_less q (p.element array length size reach s) v m = given_less m _ (element (storage q m.base array) length size reach v) s (omega arith)
give_to_less q (p.load ty s) v m = given_less m _ (moves.read ty v m) s (omega arith)
give_to_less q (p.convert ty) v m = omega arith
give_to_less q (p.unary op rank) v m = omega arith
give_to_less q p.not v m = omega arith
give_to_less q (p.left op e s) v m = omega arith
give_to_less q (p.right op x s) v m = given_less m _ (operated op x v) s (omega arith)
give_to_less q (p.both e s) v m = chosen m _ v _ _ (omega arith) (omega arith)
give_to_less q (p.either e s) v m = chosen m _ v _ _ (omega arith) (omega arith)
give_to_less q p.truth v m = omega arith
give_to_less q (p.choice e f s) v m = chosen m _ v _ _ (omega arith) (omega arith)
give_to_less q (p.set_slot j) v m = omega arith
give_to_less q (p.store_at ty e s) v m = omega arith
give_to_less q (p.store_value ty a s) v m = written_less m _ (accessed (stored m.memory a (size_of ty) (cast_unsigned w64 v))) v s (omega arith)
give_to_less q (p.update_slot ty j within op old s) v m = set_less m _ (operated op (converted within old) v) ty j (λ new. new) s (omega arith)
give_to_less q (p.update_at ty within op e s) v m = old_less m _ (moves.read ty v m) ty v within op e s (omega arith)
give_to_less q (p.update_value ty a within op old s) v m = store_or_less m _ (operated op (converted within old) v) ty a (λ new. new) s (omega arith)
give_to_less q (p.step_at ty within op s) v m = stepped_less m _ (moves.read ty v m) ty v within op s (omega arith)
give_to_less q (p.argument others s) v m = pass_less (moves.push (p.held v) m) _ others s (omega arith)
give_to_less q p.put_byte v m = omega arith
give_to_less q p.put_number v m = omega arith
give_to_less q (p.comma others e s) v m = comma_less m _ others e s (omega arith)
give_to_less q p.discard v m = omega arith
give_to_less q (p.if_then a) v m = chosen m _ v _ _ (omega arith) (omega arith)
give_to_less q (p.if_else a c) v m = chosen m _ v _ _ (omega arith) (omega arith)
give_to_less q (p.parts others s) v m = parts_less m _ others s (omega arith)
give_to_less q (p.turn_test a) v m = chosen m _ v _ _ (omega arith) (omega arith)
give_to_less q (p.turn_last a) v m = again_less m _ a (omega arith)
give_to_less q p.give_back v m = omega arith
give_to_less q (p.held w) v m = omega arith
give_to_less q (p.callee f s) v m = omega arith
give_to_less q (p.rest all) v m = omega arith
give_to_less q (p.begin a) v m = omega arith
give_to_less q (p.in_turn a) v m = omega arith
give_to_less q (p.called c) v m = omega arith

pub exec_less : (a : Stm) (m : Machine) → Lightens (work (p.exec a) m.frames) (moves.exec a m)
unfolding work
exec_less (t.block all) m = rest_less m _ all (omega arith)
exec_less (t.empty s) m = omega arith
exec_less (t.expression s a) m = omega arith
exec_less (t.if_then s a c) m = omega arith
exec_less (t.if_else s a c d) m = omega arith
exec_less (t.while_loop s a c) m = again_less m _ (record { number = s; test = t.given a; last = t.missing; body = c }) (omega arith)
exec_less (t.do_while s c a) m = omega arith
exec_less (t.for_loop s all a e c) m = parts_less (moves.push (p.begin (record { number = s; test = a; last = e; body = c })) m) _ all s (omega arith)
exec_less (t.break s) m = omega arith
exec_less (t.continue s) m = omega arith
exec_less (t.return s t.missing) m = omega arith
exec_less (t.return s (t.given a)) m = omega arith
exec_less (t.local s all) m = parts_less m _ all s (omega arith)

pub give_less : (q : Program) (v : ℤ) (m : Machine) → Lightens (work (p.give v) m.frames) (moves.give q v m.frames m)
unfolding work
give_less q v m = go m.frames
  where
    go : (frames : List Frame) → Lightens (2 + frames_weight frames) (moves.give q v frames m)
    go [] = tt
    go (frame ∷ frames) = give_to_less q frame v (moves.popped m frames)

leave_to_less : (frame : Frame) (exit : Exit) (m : Machine) → Lightens (2 + (frame_weight frame + frames_weight m.frames)) (moves.leave_to frame exit m)
unfolding work
leave_to_less (p.rest all) p.next m = rest_less m _ all (omega arith)
leave_to_less (p.begin a) p.next m = again_less m _ a (omega arith)
leave_to_less (p.in_turn a) p.next m = onward_less m _ a (omega arith)
leave_to_less (p.in_turn a) p.on_continue m = onward_less m _ a (omega arith)
leave_to_less frame exit m = omega arith

pub leave_less : (exit : Exit) (m : Machine) → Lightens (work (p.leave exit) m.frames) (moves.leave exit m.frames m)
unfolding work
leave_less exit m = go m.frames
  where
    go : (frames : List Frame) → Lightens (2 + frames_weight frames) (moves.leave exit frames m)
    go [] = tt
    go (frame ∷ frames) = leave_to_less frame exit (moves.popped m frames)

pub pass_less_by : (m : Machine) → Lightens (work p.pass m.frames) (moves.pass m.frames m)
unfolding work
pass_less_by m = go m.frames
  where
    go : (frames : List Frame) → Lightens (1 + frames_weight frames) (moves.pass frames m)
    go [] = tt
    go (p.held v ∷ frames) = omega arith
    go (p.callee f s ∷ frames) = omega arith
    go (frame ∷ frames) = omega arith
