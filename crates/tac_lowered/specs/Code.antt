-- Structured code: what a tree is lowered to, before it is cut into blocks.
use Rattle.std.specs.Prelude.{ℕ, List, Option, Bool}
use Rattle.ib_act.specs.declared.act.Act.{Act}

-- how a part of a body is left early
pub data Exit : Type 0 where
  breaks : Exit
  continues : Exit
  returns : Option ℕ → Exit

-- numbers `s` are those of statements
mutual
  pub data Code : Type 0 where
    nothing : Code
    does : (s : ℕ) → Act → Code
    both : Code → Code → Code
    calls : (s : ℕ) → (to : Option ℕ) → (function : ℕ) → (args : List ℕ) → Code
    when : (s : ℕ) → Test → Code → Code
    choose : (s : ℕ) → Test → Code → Code → Code
    -- A body, and what is done behind each turn. Where that is a block of its own, `continue` leads to it.
    repeat : (s : ℕ) → (own : Bool) → Test → (body last : Code) → Code
    -- The test behind the body is a block of its own, or goes on where the body ends.
    until : (s : ℕ) → (own : Bool) → (body : Code) → Test → Code
    leave : (s : ℕ) → Exit → Code

  -- where control goes: no number is made for a test
  pub data Test : Type 0 where
    settled : (s : ℕ) → Bool → Test
    on : (s : ℕ) → Code → (register : ℕ) → Test
    all_of : Test → Test → Test
    one_of : Test → Test → Test
    inverse : Test → Test

infixr 20 ◌⨾◌
abbrev pub ◌⨾◌ : Code → Code → Code
a ⨾ b = both a b
