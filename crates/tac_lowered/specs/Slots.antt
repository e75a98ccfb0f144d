-- The variables that a body gives a value where it declares them.
use Rattle.std.specs.Prelude.{ℕ, ◌+◌, ◌≤◌, length}
use Rattle.std.specs.List.{All}
use Rattle.c_typed.specs.Tree as t
use Rattle.c_typed.specs.Tree.{Exp, Exps, Stm, Stms}
use Rattle.c_typed.specs.Program.{Program}

abbrev pub given : Exp → ℕ
given (t.set_slot ty k a) = 1
given (t.store ty a b) = 1
given e = 0

abbrev pub given_in : Exps → ℕ
given_in t.no_exp = 0
given_in (t.an_exp a rest) = given a + given_in rest

abbrev mutual
  pub declared : Stm → ℕ
  declared (t.block all) = declared_in all
  declared (t.if_then s a b) = declared b
  declared (t.if_else s a b c) = declared b + declared c
  declared (t.while_loop s a b) = declared b
  declared (t.do_while s b a) = declared b
  declared (t.for_loop s all a c b) = given_in all + declared b
  declared (t.local s all) = given_in all
  declared b = 0

  pub declared_in : Stms → ℕ
  declared_in t.no_stm = 0
  declared_in (t.a_stm a rest) = declared a + declared_in rest

-- A slot is that of a parameter, or of a variable that the body declares.
abbrev pub HaveFewSlots : Program → Type 0
HaveFewSlots p = All (λ f. f.slots ≤ length f.params + declared_in f.body) p.functions
