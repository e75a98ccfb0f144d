-- Typed programs as plain data. What lies in memory is named by its address.
use Rattle.std.specs.Prelude.{ℕ, ℤ, List, [], ◌∷◌}
use Rattle.c_typed.specs.declared.types.ValueType.{ValueType}
use Rattle.c_typed.specs.declared.expr.Storage.{Storage}
use Rattle.c_typed.specs.declared.expr.Reach.{Reach}
use Rattle.c_typed.specs.declared.operation.Operation.{Operation}
use Rattle.c_typed.specs.declared.operation.Rank.{Rank}
use Rattle.c_typed.specs.declared.operation.Sign.{Sign}
use Rattle.c_typed.specs.declared.program.Param.{Param}

mutual
  pub data Exp : Type 0 where
    constant : ValueType → ℤ → Exp
    text : (ordinal : ℕ) → Exp
    address : ValueType → Storage → Exp
    element : ValueType → Storage → (length size : ℕ) → Reach → Exp → Exp
    slot : ValueType → ℕ → Exp
    load : ValueType → Exp → Exp
    convert : ValueType → Exp → Exp
    unary : Sign → Rank → Exp → Exp
    not : Exp → Exp
    binary : ValueType → Operation → Exp → Exp → Exp
    both : Exp → Exp → Exp
    either : Exp → Exp → Exp
    conditional : ValueType → Exp → Exp → Exp → Exp
    set_slot : ValueType → ℕ → Exp → Exp
    store : ValueType → Exp → Exp → Exp
    update_slot : ValueType → ℕ → (within : ValueType) → Operation → Exp → Exp
    update : ValueType → Exp → (within : ValueType) → Operation → Exp → Exp
    step_slot : ValueType → ℕ → (within : ValueType) → Operation → Exp
    step : ValueType → Exp → (within : ValueType) → Operation → Exp
    call : ValueType → (function : ℕ) → Exps → Exp
    get_byte : Exp
    put_byte : Exp → Exp
    put_number : Exp → Exp
    comma : Exps → Exp → Exp

  pub data Exps : Type 0 where
    no_exp : Exps
    an_exp : Exp → Exps → Exps

abbrev pub exps : List Exp → Exps
exps [] = no_exp
exps (x ∷ xs) = an_exp x (exps xs)

-- an expression that may be missing
pub data Maybe : Type 0 where
  missing : Maybe
  given : Exp → Maybe

mutual
  -- each but a block with its number
  pub data Stm : Type 0 where
    block : Stms → Stm
    empty : ℕ → Stm
    expression : ℕ → Exp → Stm
    if_then : ℕ → Exp → Stm → Stm
    if_else : ℕ → Exp → Stm → Stm → Stm
    while_loop : ℕ → Exp → Stm → Stm
    do_while : ℕ → Stm → Exp → Stm
    for_loop : ℕ → Exps → Maybe → Maybe → Stm → Stm
    break : ℕ → Stm
    continue : ℕ → Stm
    return : ℕ → Maybe → Stm
    local : ℕ → Exps → Stm

  pub data Stms : Type 0 where
    no_stm : Stms
    a_stm : Stm → Stms → Stms

abbrev pub stms : List Stm → Stms
stms [] = no_stm
stms (x ∷ xs) = a_stm x (stms xs)

-- a function with a body
pub record Function : Type 0 where
  pub name : List ℕ
  pub result : ValueType
  pub params : List Param
  pub slots : ℕ
  pub frame : ℕ
  pub body : Stms
