-- How many parts code has, itself among them: walks over code come to an end.
use Rattle.std.specs.Prelude.{ℕ, suc, ◌+◌, List, [], ◌∷◌}
use Rattle.tac_code.specs.declared.code.Code.{Code, Row_of-Code, end_of-Code, more_of-Code}
use Rattle.tac_code.specs.declared.code.Code as c
use Rattle.tac_code.specs.declared.code.Test.{Test}
use Rattle.tac_code.specs.declared.code.Test as t

abbrev mutual
  pub parts : Code → ℕ
  parts c.Nothing = 1
  parts (c.Does s act) = 1
  parts (c.Both' _ a _ b) = suc (parts a + parts b)
  parts (c.Row' _ first _ last) = suc (parts_row first + parts last)
  parts (c.Calls s to f args) = 1
  parts (c.When' s _ test _ a) = suc (parts_test test + parts a)
  parts (c.Choose' s _ test _ a _ b) = suc (parts_test test + (parts a + parts b))
  parts (c.Repeat' s own _ test _ a _ b) = suc (parts_test test + (parts a + parts b))
  parts (c.Until' s own _ a _ test) = suc (parts_test test + parts a)
  parts (c.Leave s x) = 1

  pub parts_test : Test → ℕ
  parts_test (t.Settled s b) = 1
  parts_test (t.On' s _ a r) = suc (parts a)
  parts_test (t.AllOf' _ t _ u) = suc (parts_test t + parts_test u)
  parts_test (t.OneOf' _ t _ u) = suc (parts_test t + parts_test u)
  parts_test (t.Inverse' _ t) = suc (parts_test t)

  pub parts_row : {m : _} → Row_of-Code m → ℕ
  parts_row end_of-Code = 0
  parts_row (more_of-Code a rest) = suc (parts a + parts_row rest)

abbrev pub parts_in : List Code → ℕ
parts_in [] = 0
parts_in (a ∷ more) = suc (parts a + parts_in more)
