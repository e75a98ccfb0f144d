-- Trees as plain data: what a source says, without where it lies in the machine's memory.
use Rattle.std.specs.Prelude.{ℕ, ℤ, Bool, true, false, List, [], ◌∷◌}
use Rattle.ib_meaning.specs.declared.place.Place.{Place}
use Rattle.c_ast.specs.declared.tree.Base.{Base}
use Rattle.c_ast.specs.declared.tree.UnaryOp.{UnaryOp}
use Rattle.c_ast.specs.declared.tree.PostfixOp.{PostfixOp}
use Rattle.c_ast.specs.declared.tree.BinaryOp.{BinaryOp}
use Rattle.c_ast.specs.declared.tree.AssignOp.{AssignOp}
use Rattle.c_ast.specs.declared.tree_unit.Length.{Length}

pub data Ty : Type 0 where
  plain : Base → Ty
  pointer : Ty → Ty

mutual
  pub data Exp : Type 0 where
    name : Place → List ℕ → Exp
    number : Place → ℤ → Bool → Exp
    character : Place → ℕ → Exp
    string : Place → List ℕ → Exp
    null : Place → Exp
    eof : Place → Exp
    call : Place → List ℕ → Exps → Exp
    index : Place → Exp → Exp → Exp
    postfix : Place → PostfixOp → Exp → Exp
    unary : Place → UnaryOp → Exp → Exp
    cast : Place → Ty → Exp → Exp
    binary : Place → BinaryOp → Exp → Exp → Exp
    conditional : Place → Exp → Exp → Exp → Exp
    assign : Place → AssignOp → Exp → Exp → Exp
    comma : Place → Exps → Exp

  pub data Exps : Type 0 where
    no_exp : Exps
    an_exp : Exp → Exps → Exps

abbrev pub exps : List Exp → Exps
exps [] = no_exp
exps (x ∷ xs) = an_exp x (exps xs)

pub data Initial : Type 0 where
  no_init : Initial
  value : Exp → Initial
  elements : List Exp → Initial

pub data Decl : Type 0 where
  declarator : Place → Ty → List ℕ → Length → Initial → Decl

pub data ParName : Type 0 where
  unnamed : ParName
  named : List ℕ → ParName

pub data Par : Type 0 where
  param : Place → Ty → ParName → Length → Par

-- an expression that may be missing
pub data Maybe : Type 0 where
  missing : Maybe
  given : Exp → Maybe

pub data Start : Type 0 where
  start_expr : Maybe → Start
  start_local : List Decl → Start

mutual
  pub data Stm : Type 0 where
    block : Place → Stms → Stm
    empty : Place → Stm
    expression : Place → Exp → Stm
    if_then : Place → Exp → Stm → Stm
    if_else : Place → Exp → Stm → Stm → Stm
    while_loop : Place → Exp → Stm → Stm
    do_while : Place → Stm → Exp → Stm
    for_loop : Place → Start → Maybe → Maybe → Stm → Stm
    break : Place → Stm
    continue : Place → Stm
    return : Place → Maybe → Stm
    local : Place → List Decl → Stm

  pub data Stms : Type 0 where
    no_stm : Stms
    a_stm : Stm → Stms → Stms

abbrev pub stms : List Stm → Stms
stms [] = no_stm
stms (x ∷ xs) = a_stm x (stms xs)

-- a statement that can take no `else` behind it
abbrev pub closed : Stm → Bool
closed (if_then p e a) = false
closed (if_else p e a b) = closed b
closed (while_loop p e a) = closed a
closed (for_loop p start test next a) = closed a
closed (block p xs) = true
closed (empty p) = true
closed (expression p e) = true
closed (do_while p a e) = true
closed (break p) = true
closed (continue p) = true
closed (return p e) = true
closed (local p ds) = true

pub data Top : Type 0 where
  prototype : Place → Ty → List ℕ → List Par → Top
  function : Place → Ty → List ℕ → List Par → List Stm → Top
  variables : List Decl → Top
