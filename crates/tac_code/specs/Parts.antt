-- How many parts code has: a walk ends that goes to parts alone.
use Rattle.std.specs.Prelude.{ℕ, suc, ◌+◌, List, [], ◌∷◌}
use Rattle.tac_code.specs.declared.code.Code.{Code, Row_of-Code, end_of-Code, more_of-Code}
use Rattle.tac_code.specs.declared.code.Code as c
use Rattle.tac_code.specs.declared.code.Test.{Test}
use Rattle.tac_code.specs.declared.code.Test as t

abbrev mutual
  pub parts : Code → ℕ
  parts c.Nothing = 1
  parts (c.Does s act) = 1
  parts (c.Both' _ a _ b) = suc (parts a + parts b)
  parts (c.Row' _ first _ last) = suc (row_parts first + parts last)
  parts (c.Calls s to f args) = 1
  parts (c.When' s _ t _ a) = suc (parts_test t + parts a)
  parts (c.Choose' s _ t _ a _ b) = suc (parts_test t + (parts a + parts b))
  parts (c.Repeat' s own _ t _ a _ b) = suc (parts_test t + (parts a + parts b))
  parts (c.Until' s own _ a _ t) = suc (parts a + parts_test t)
  parts (c.Leave s x) = 1

  pub parts_test : Test → ℕ
  parts_test (t.Settled s b) = 1
  parts_test (t.On' s _ a r) = suc (parts a)
  parts_test (t.AllOf' _ t _ u) = suc (parts_test t + parts_test u)
  parts_test (t.OneOf' _ t _ u) = suc (parts_test t + parts_test u)
  parts_test (t.Inverse' _ t) = suc (parts_test t)

  pub row_parts : {m : _} → Row_of-Code m → ℕ
  row_parts end_of-Code = 0
  row_parts (more_of-Code a rest) = parts a + row_parts rest

-- of all in a list
abbrev pub list_parts : List Code → ℕ
list_parts [] = 0
list_parts (a ∷ rest) = parts a + list_parts rest
