-- What an interpreter has at hand, and what waits for it.
use Rattle.std.specs.Prelude.{ℕ, ℤ, List}
use Rattle.ib_meaning.specs.declared.fault.FaultKind.{FaultKind}
use Rattle.c_typed.specs.declared.types.ValueType.{ValueType}
use Rattle.c_typed.specs.declared.expr.Storage.{Storage}
use Rattle.c_typed.specs.declared.expr.Reach.{Reach}
use Rattle.c_typed.specs.declared.operation.Operation.{Operation}
use Rattle.c_typed.specs.declared.operation.Rank.{Rank}
use Rattle.c_typed.specs.declared.operation.Sign.{Sign}
use Rattle.c_typed.specs.Tree.{Exp, Exps, Maybe, Stm, Stms}

-- a loop of the statement with this number
pub record Turns : Type 0 where
  pub number : ℕ
  pub test : Maybe
  pub last : Maybe
  pub body : Stm

-- a call that waits for another: its frame and its environment
pub record Caller : Type 0 where
  pub depth : ℕ
  pub base : ℕ
  pub top : ℕ
  pub slots : List ℤ

-- the numbers are those of the statements, which faults name
pub data Frame : Type 0 where
  -- what is done with a value
  element : Storage → (length size : ℕ) → Reach → (number : ℕ) → Frame
  load : ValueType → (number : ℕ) → Frame
  convert : ValueType → Frame
  unary : Sign → Rank → Frame
  not : Frame
  left : Operation → (right : Exp) → (number : ℕ) → Frame
  right : Operation → (left : ℤ) → (number : ℕ) → Frame
  both : (right : Exp) → (number : ℕ) → Frame
  either : (right : Exp) → (number : ℕ) → Frame
  truth : Frame
  choice : (here other : Exp) → (number : ℕ) → Frame
  set_slot : (slot : ℕ) → Frame
  store_at : ValueType → (value : Exp) → (number : ℕ) → Frame
  store_value : ValueType → (address : ℤ) → (number : ℕ) → Frame
  update_slot : ValueType → (slot : ℕ) → (within : ValueType) → Operation → (old : ℤ) → (number : ℕ) → Frame
  update_at : ValueType → (within : ValueType) → Operation → (value : Exp) → (number : ℕ) → Frame
  update_value : ValueType → (address : ℤ) → (within : ValueType) → Operation → (old : ℤ) → (number : ℕ) → Frame
  step_at : ValueType → (within : ValueType) → Operation → (number : ℕ) → Frame
  argument : (rest : Exps) → (number : ℕ) → Frame
  put_byte : Frame
  put_number : Frame
  comma : (rest : Exps) → (last : Exp) → (number : ℕ) → Frame
  discard : Frame
  if_then : (here : Stm) → Frame
  if_else : (here other : Stm) → Frame
  parts : (rest : Exps) → (number : ℕ) → Frame
  turn_test : Turns → Frame
  turn_last : Turns → Frame
  give_back : Frame
  -- arguments that have their values, and the function that they are for
  held : ℤ → Frame
  callee : (function : ℕ) → (number : ℕ) → Frame
  -- where control goes behind a statement
  rest : Stms → Frame
  begin : Turns → Frame
  in_turn : Turns → Frame
  called : Caller → Frame

-- how control leaves a statement
pub data Exit : Type 0 where
  next : Exit
  on_break : Exit
  on_continue : Exit
  on_return : ℤ → Exit

pub data Task : Type 0 where
  eval : Exp → (number : ℕ) → Task
  give : ℤ → Task
  -- the arguments are complete
  pass : Task
  exec : Stm → Task
  leave : Exit → Task
  get_byte : Task
  put_byte_of : ℤ → Task
  put_number_of : ℤ → Task
  -- what spends a unit of the budget
  call : (function : ℕ) → (number : ℕ) → Task
  turn : Turns → Task

pub record Machine : Type 0 where
  -- the last to have come first
  pub frames : List Frame
  pub arguments : List ℤ
  pub depth : ℕ
  pub base : ℕ
  pub top : ℕ
  pub slots : List ℤ
  pub memory : List ℕ

-- what a move comes to
pub data Move : Type 0 where
  Goes : Task → Machine → Move
  Faults : (number : ℕ) → FaultKind → Move
  Ends : (result : ℤ) → Move
  -- a function is missing
  Stops : Move
