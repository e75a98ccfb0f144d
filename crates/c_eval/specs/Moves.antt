-- The moves of the interpreter.
use Rattle.std.specs.Prelude.{ℕ, suc, ◌+◌, ℤ, pos, Bool, not, if◌then◌else◌, List, [], ◌∷◌, Option, Some, None, Result, Ok, Err, replicate, slice_get, slice_index_or, slice_set}
use Rattle.std.specs.Int.{w64, cast_unsigned}
use Rattle.ib_mem.specs.Memory.{cleared, loaded, stored}
use Rattle.ib_meaning.specs.declared.fault.FaultKind.{FaultKind}
use Rattle.ib_meaning.specs.declared.fault.FaultKind.TheVariants.{StackOverflow}
use Rattle.c_typed.specs.declared.types.ValueType.{ValueType}
use Rattle.c_typed.specs.declared.operation.Operation.{Operation}
use Rattle.c_typed.specs.declared.program.Param.{Param}
use Rattle.c_typed.specs.Tree as t
use Rattle.c_typed.specs.Tree.{Exp, Exps, Maybe, Stm, Stms, Function}
use Rattle.c_typed.specs.Program.{Program, first_frame, main_of}
use Rattle.c_typed.specs.ValueTypes.{size_of}
use Rattle.c_typed.specs.Values.{converted, is_true, truth, ranked, operated, signed, element, accessed}
use Rattle.c_meaning.specs.Doing.{storage}
use Rattle.c_meaning.specs.Meaning.{overflows, set_in_slots, set_in_frame, slots_passed, frame_passed, first_memory}
use Rattle.c_eval.specs.Pending as p
use Rattle.c_eval.specs.Pending.{Turns, Caller, Frame, Exit, Task, Machine, Move, Goes, Faults, Ends, Stops}

abbrev pub push : Frame → Machine → Machine
push f m = record m { frames = f ∷ m.frames }

-- a value, or a fault of the statement
abbrev pub given_or : Result ℤ FaultKind → ℕ → Machine → Move
given_or (Ok v) s m = Goes (p.give v) m
given_or (Err kind) s m = Faults s kind

-- an element of the machine is set to the converted value, and `v` is given
abbrev pub with_slot : ℕ → ℤ → Machine → Machine
with_slot k v m = record m { slots = slice_set m.slots k v }

abbrev pub set_or : Result ℤ FaultKind → ValueType → (slot : ℕ) → (given : ℤ → ℤ) → ℕ → Machine → Move
set_or (Ok new) ty k given s m = Goes (p.give (given (converted ty new))) (with_slot k (converted ty new) m)
set_or (Err kind) ty k given s m = Faults s kind

abbrev pub written_or : Result (List ℕ) FaultKind → (given : ℤ) → ℕ → Machine → Move
written_or (Ok memory) given s m = Goes (p.give given) (record m { memory = memory })
written_or (Err kind) given s m = Faults s kind

-- `v` is stored, and `given` is given
abbrev pub store : ValueType → (address v given : ℤ) → ℕ → Machine → Move
store ty address v given s m = written_or (accessed (stored m.memory address (size_of ty) (cast_unsigned w64 v))) given s m

abbrev pub store_or : Result ℤ FaultKind → ValueType → (address : ℤ) → (given : ℤ → ℤ) → ℕ → Machine → Move
store_or (Ok new) ty address given s m = store ty address (converted ty new) (given (converted ty new)) s m
store_or (Err kind) ty address given s m = Faults s kind

abbrev pub loaded_as : ValueType → Result ℕ FaultKind → Result ℤ FaultKind
loaded_as ty (Ok n) = Ok (converted ty (pos n))
loaded_as ty (Err kind) = Err kind

abbrev pub read : ValueType → ℤ → Machine → Result ℤ FaultKind
read ty address m = loaded_as ty (accessed (loaded m.memory address (size_of ty)))

-- the old value waits for the right side
abbrev pub old_or : Result ℤ FaultKind → ValueType → (address : ℤ) → ValueType → Operation → Exp → ℕ → Machine → Move
old_or (Ok old) ty address within op e s m = Goes (p.eval e s) (push (p.update_value ty address within op old s) m)
old_or (Err kind) ty address within op e s m = Faults s kind

abbrev pub stepped_or : Result ℤ FaultKind → ValueType → (address : ℤ) → ValueType → Operation → ℕ → Machine → Move
stepped_or (Ok old) ty address within op s m = store_or (operated op (converted within old) (pos 1)) ty address (λ new. old) s m
stepped_or (Err kind) ty address within op s m = Faults s kind

-- the first of some arguments
abbrev pub pass_first : Exps → ℕ → Machine → Move
pass_first t.no_exp s m = Goes p.pass (record m { arguments = [] })
pass_first (t.an_exp a rest) s m = Goes (p.eval a s) (push (p.argument rest s) m)

abbrev pub comma_first : Exps → Exp → ℕ → Machine → Move
comma_first t.no_exp last s m = Goes (p.eval last s) m
comma_first (t.an_exp a rest) last s m = Goes (p.eval a s) (push (p.comma rest last s) m)

abbrev pub parts_first : Exps → ℕ → Machine → Move
parts_first t.no_exp s m = Goes (p.leave p.next) m
parts_first (t.an_exp a rest) s m = Goes (p.eval a s) (push (p.parts rest s) m)

-- the test of a loop
abbrev pub again_by : Maybe → Turns → Machine → Move
again_by t.missing a m = Goes (p.turn a) m
again_by (t.given e) a m = Goes (p.eval e a.number) (push (p.turn_test a) m)

abbrev pub again : Turns → Machine → Move
again a m = again_by a.test a m

-- what comes behind a turn
abbrev pub onward_by : Maybe → Turns → Machine → Move
onward_by t.missing a m = again a m
onward_by (t.given e) a m = Goes (p.eval e a.number) (push (p.turn_last a) m)

abbrev pub onward : Turns → Machine → Move
onward a m = onward_by a.last a m

-- `++` and `--` behind a variable of the environment
abbrev pub step_slot : ValueType → (slot : ℕ) → ValueType → Operation → ℕ → Machine → Move
step_slot ty k within op s m = set_or (operated op (converted within (slice_index_or m.slots k (pos 0))) (pos 1)) ty k (λ new. slice_index_or m.slots k (pos 0)) s m

abbrev pub eval_call : (function : ℕ) → Exps → ℕ → Machine → Move
eval_call f all s m = pass_first all s (push (p.callee f s) m)

-- an expression
abbrev pub eval : Program → Exp → (number : ℕ) → Machine → Move
eval q (t.constant ty v) s m = Goes (p.give v) m
eval q (t.text k) s m = Goes (p.give (pos (slice_index_or q.strings k 0))) m
eval q (t.address ty of) s m = Goes (p.give (storage q m.base of)) m
eval q (t.element ty array length size reach a) s m = Goes (p.eval a s) (push (p.element array length size reach s) m)
eval q (t.slot ty k) s m = Goes (p.give (slice_index_or m.slots k (pos 0))) m
eval q (t.load ty a) s m = Goes (p.eval a s) (push (p.load ty s) m)
eval q (t.convert ty a) s m = Goes (p.eval a s) (push (p.convert ty) m)
eval q (t.unary op rank a) s m = Goes (p.eval a s) (push (p.unary op rank) m)
eval q (t.not a) s m = Goes (p.eval a s) (push p.not m)
eval q (t.binary ty op a b) s m = Goes (p.eval a s) (push (p.left op b s) m)
eval q (t.both a b) s m = Goes (p.eval a s) (push (p.both b s) m)
eval q (t.either a b) s m = Goes (p.eval a s) (push (p.either b s) m)
eval q (t.conditional ty a b c) s m = Goes (p.eval a s) (push (p.choice b c s) m)
eval q (t.set_slot ty k a) s m = Goes (p.eval a s) (push (p.set_slot k) m)
eval q (t.store ty a b) s m = Goes (p.eval a s) (push (p.store_at ty b s) m)
eval q (t.update_slot ty k within op a) s m = Goes (p.eval a s) (push (p.update_slot ty k within op (slice_index_or m.slots k (pos 0)) s) m)
eval q (t.update ty a within op b) s m = Goes (p.eval a s) (push (p.update_at ty within op b s) m)
eval q (t.step_slot ty k within op) s m = step_slot ty k within op s m
eval q (t.step ty a within op) s m = Goes (p.eval a s) (push (p.step_at ty within op s) m)
eval q (t.call ty f all) s m = eval_call f all s m
eval q t.get_byte s m = Goes p.get_byte m
eval q (t.put_byte a) s m = Goes (p.eval a s) (push p.put_byte m)
eval q (t.put_number a) s m = Goes (p.eval a s) (push p.put_number m)
eval q (t.comma all a) s m = comma_first all a s m

-- the second operand of `&&` or `||`
abbrev pub decide : Exp → ℕ → Machine → Move
decide b s m = Goes (p.eval b s) (push p.truth m)

-- an argument has its value
abbrev pub hold : (rest : Exps) → ℤ → ℕ → Machine → Move
hold rest v s m = pass_first rest s (push (p.held v) m)

-- a value, for what waits first; the machine is without it
abbrev pub give_to : Program → Frame → ℤ → Machine → Move
give_to q (p.element array length size reach s) v m = given_or (element (storage q m.base array) length size reach v) s m
give_to q (p.load ty s) v m = given_or (read ty v m) s m
give_to q (p.convert ty) v m = Goes (p.give (converted ty v)) m
give_to q (p.unary op rank) v m = Goes (p.give (signed op (ranked rank) v)) m
give_to q p.not v m = Goes (p.give (truth (not (is_true v)))) m
give_to q (p.left op b s) v m = Goes (p.eval b s) (push (p.right op v s) m)
give_to q (p.right op x s) v m = given_or (operated op x v) s m
give_to q (p.both b s) v m = if is_true v then decide b s m else Goes (p.give (pos 0)) m
give_to q (p.either b s) v m = if is_true v then Goes (p.give (pos 1)) m else decide b s m
give_to q p.truth v m = Goes (p.give (truth (is_true v))) m
give_to q (p.choice b c s) v m = if is_true v then Goes (p.eval b s) m else Goes (p.eval c s) m
give_to q (p.set_slot k) v m = Goes (p.give v) (with_slot k v m)
give_to q (p.store_at ty b s) v m = Goes (p.eval b s) (push (p.store_value ty v s) m)
give_to q (p.store_value ty address s) v m = store ty address v v s m
give_to q (p.update_slot ty k within op old s) v m = set_or (operated op (converted within old) v) ty k (λ new. new) s m
give_to q (p.update_at ty within op b s) v m = old_or (read ty v m) ty v within op b s m
give_to q (p.update_value ty address within op old s) v m = store_or (operated op (converted within old) v) ty address (λ new. new) s m
give_to q (p.step_at ty within op s) v m = stepped_or (read ty v m) ty v within op s m
give_to q (p.argument rest s) v m = hold rest v s m
give_to q p.put_byte v m = Goes (p.put_byte_of v) m
give_to q p.put_number v m = Goes (p.put_number_of v) m
give_to q (p.comma rest last s) v m = comma_first rest last s m
give_to q p.discard v m = Goes (p.leave p.next) m
give_to q (p.if_then a) v m = if is_true v then Goes (p.exec a) m else Goes (p.leave p.next) m
give_to q (p.if_else a b) v m = if is_true v then Goes (p.exec a) m else Goes (p.exec b) m
give_to q (p.parts rest s) v m = parts_first rest s m
give_to q (p.turn_test a) v m = if is_true v then Goes (p.turn a) m else Goes (p.leave p.next) m
give_to q (p.turn_last a) v m = again a m
give_to q p.give_back v m = Goes (p.leave (p.on_return v)) m
give_to q frame v m = Goes (p.give v) m

-- the first of some statements
abbrev pub rest_first : Stms → Machine → Move
rest_first t.no_stm m = Goes (p.leave p.next) m
rest_first (t.a_stm a rest) m = Goes (p.exec a) (push (p.rest rest) m)

abbrev pub begin : Turns → Exps → ℕ → Machine → Move
begin a all s m = parts_first all s (push (p.begin a) m)

abbrev pub give_back : Maybe → ℕ → Machine → Move
give_back t.missing s m = Goes (p.leave (p.on_return (pos 0))) m
give_back (t.given a) s m = Goes (p.eval a s) (push p.give_back m)

-- a statement
abbrev pub exec : Stm → Machine → Move
exec (t.block all) m = rest_first all m
exec (t.empty s) m = Goes (p.leave p.next) m
exec (t.expression s a) m = Goes (p.eval a s) (push p.discard m)
exec (t.if_then s a b) m = Goes (p.eval a s) (push (p.if_then b) m)
exec (t.if_else s a b c) m = Goes (p.eval a s) (push (p.if_else b c) m)
exec (t.while_loop s a b) m = again (record { number = s; test = t.given a; last = t.missing; body = b }) m
exec (t.do_while s b a) m = Goes (p.turn (record { number = s; test = t.given a; last = t.missing; body = b })) m
exec (t.for_loop s all a c b) m = begin (record { number = s; test = a; last = c; body = b }) all s m
exec (t.break s) m = Goes (p.leave p.on_break) m
exec (t.continue s) m = Goes (p.leave p.on_continue) m
exec (t.return s a) m = give_back a s m
exec (t.local s all) m = parts_first all s m

abbrev pub back_to : Caller → Machine → Machine
back_to c m = record m { depth = c.depth; base = c.base; top = c.top; slots = c.slots }

abbrev pub returned : Exit → ℤ
returned (p.on_return v) = v
returned exit = pos 0

abbrev pub leave_begin : Turns → Exit → Machine → Move
leave_begin a p.next m = again a m
leave_begin a exit m = Goes (p.leave exit) m

abbrev pub leave_turn : Turns → Exit → Machine → Move
leave_turn a p.on_break m = Goes (p.leave p.next) m
leave_turn a (p.on_return v) m = Goes (p.leave (p.on_return v)) m
leave_turn a exit m = onward a m

abbrev pub leave_rest : Stms → Exit → Machine → Move
leave_rest all p.next m = rest_first all m
leave_rest all exit m = Goes (p.leave exit) m

-- what an `if` does behind its test
abbrev pub choice : Stm → Bool → Machine → Move
choice (t.if_then s a b) holds m = if holds then Goes (p.exec b) m else Goes (p.leave p.next) m
choice (t.if_else s a b c) holds m = if holds then Goes (p.exec b) m else Goes (p.exec c) m
choice stm holds m = Goes (p.leave p.next) m

-- a statement was left, for what waits first
abbrev pub leave_to : Frame → Exit → Machine → Move
leave_to (p.rest all) exit m = leave_rest all exit m
leave_to (p.begin a) exit m = leave_begin a exit m
leave_to (p.in_turn a) exit m = leave_turn a exit m
leave_to (p.called c) exit m = Goes (p.give (returned exit)) (back_to c m)
leave_to frame exit m = Goes (p.leave exit) m

-- the arguments are complete, for what waits first
abbrev pub pass_to : Frame → Machine → Move
pass_to (p.held v) m = Goes p.pass (record m { arguments = v ∷ m.arguments })
pass_to (p.callee f s) m = Goes (p.call f s) m
pass_to frame m = Goes p.pass m

-- what is at hand meets what waits first
abbrev pub popped : Machine → List Frame → Machine
popped m frames = record m { frames = frames }

abbrev pub give : Program → ℤ → List Frame → Machine → Move
give q v [] m = Ends v
give q v (frame ∷ frames) m = give_to q frame v (popped m frames)

abbrev pub leave : Exit → List Frame → Machine → Move
leave exit [] m = Ends (returned exit)
leave exit (frame ∷ frames) m = leave_to frame exit (popped m frames)

abbrev pub pass : List Frame → Machine → Move
pass [] m = Ends (pos 0)
pass (frame ∷ frames) m = pass_to frame (popped m frames)

-- one unit was spent on a turn
abbrev pub turned : Turns → Machine → Move
turned a m = Goes (p.exec a.body) (push (p.in_turn a) m)

abbrev pub caller_of : Machine → Caller
caller_of m = record { depth = m.depth; base = m.base; top = m.top; slots = m.slots }

abbrev pub is_full : Function → Machine → Bool
is_full f m = overflows f (record { budget = 0; depth = m.depth; base = m.base; top = m.top; slots = m.slots; memory = m.memory; left = []; out = [] })

abbrev pub parameter_set : Param → ℤ → Machine → Machine
parameter_set q v m = record m { slots = set_in_slots q.home v m.slots; memory = set_in_frame m.base q.ty q.home v m.memory }

abbrev pub with_parameters : List Param → (arguments : List ℤ) → Machine → Machine
with_parameters params vs m = record m { slots = slots_passed params vs m.slots; memory = frame_passed m.base params vs m.memory; arguments = [] }

-- in the frame of a function, whose environment is there
abbrev pub opened : Function → Machine → Machine
opened f m = with_parameters f.params m.arguments (record m { depth = suc m.depth; base = m.top; top = m.top + f.frame; memory = cleared m.memory m.top f.frame })

abbrev pub entered : Function → Machine → Machine
entered f m = opened f (record m { frames = p.called (caller_of m) ∷ m.frames; slots = replicate f.slots (pos 0) })

-- one unit was spent on a call
abbrev pub called : Option Function → ℕ → Machine → Move
called None s m = Stops
called (Some f) s m = if is_full f m then Faults s StackOverflow else rest_first f.body (entered f m)

-- `main` begins, in the first frame
abbrev pub before_main : Program → Machine
before_main q = record { frames = []; arguments = []; depth = 0; base = first_frame q; top = first_frame q; slots = []; memory = first_memory q.image }

abbrev pub begun_at : Option Function → Machine → Move
begun_at None m = Stops
begun_at (Some f) m = rest_first f.body (opened f (record m { slots = replicate f.slots (pos 0) }))

-- from what an interpreter starts
abbrev pub started : Program → Move
started q = begun_at (slice_get q.functions (main_of q)) (before_main q)

-- what is at hand is done, unless a host or a unit of the budget is needed for it
abbrev pub advanced : Program → Task → Machine → Move
advanced q (p.eval e s) m = eval q e s m
advanced q (p.give v) m = give q v m.frames m
advanced q p.pass m = pass m.frames m
advanced q (p.exec a) m = exec a m
advanced q (p.leave exit) m = leave exit m.frames m
advanced q task m = Goes task m

-- a unit of the budget was spent on what needs one
abbrev pub unit_spent : Program → Task → Machine → Move
unit_spent q (p.turn a) m = turned a m
unit_spent q (p.call f s) m = called (slice_get q.functions f) s m
unit_spent q task m = Goes task m
