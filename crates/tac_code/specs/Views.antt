-- The structured code of the code as plain data.
use Rattle.std.proofs.Common.{Box, Global}
use Rattle.std.specs.Prelude.{List, [], ◌∷◌}
use Rattle.tac_code.specs.declared.code.Exit.{Exit}
use Rattle.tac_code.specs.declared.code.Exit.TheVariants as x
use Rattle.tac_code.specs.declared.code.Code.{Code, Row_of-Code, end_of-Code, more_of-Code}
use Rattle.tac_code.specs.declared.code.Code as c
use Rattle.tac_code.specs.declared.code.Test.{Test}
use Rattle.tac_code.specs.declared.code.Test as t
use Rattle.tac_lowered.specs.Code as plain
use Rattle.tac_lowered.specs.Code.{nothing, does, both, calls, when, choose, repeat, until, leave, breaks, continues, returns, settled, on, all_of, one_of, inverse, ◌⨾◌}

abbrev pub exit_of : Exit → plain.Exit
exit_of x.Breaks = breaks
exit_of x.Continues = continues
exit_of (x.Returns r) = returns r

abbrev mutual
  pub code_of : Code → plain.Code
  code_of c.Nothing = nothing
  code_of (c.Does s act) = does s act
  code_of (c.Both' _ a _ b) = code_of a ⨾ code_of b
  code_of (c.Row' _ first _ last) = row_code first (code_of last)
  code_of (c.Calls s to f args) = calls s to f args
  code_of (c.When' s _ test _ a) = when s (test_of test) (code_of a)
  code_of (c.Choose' s _ test _ a _ b) = choose s (test_of test) (code_of a) (code_of b)
  code_of (c.Repeat' s own _ test _ a _ b) = repeat s own (test_of test) (code_of a) (code_of b)
  code_of (c.Until' s own _ a _ test) = until s own (code_of a) (test_of test)
  code_of (c.Leave s x) = leave s (exit_of x)

  pub test_of : Test → plain.Test
  test_of (t.Settled s b) = settled s b
  test_of (t.On' s _ a r) = on s (code_of a) r
  test_of (t.AllOf' _ t _ u) = all_of (test_of t) (test_of u)
  test_of (t.OneOf' _ t _ u) = one_of (test_of t) (test_of u)
  test_of (t.Inverse' _ t) = inverse (test_of t)

  -- one after the other, and then the last
  pub row_code : {m : _} → Row_of-Code m → plain.Code → plain.Code
  row_code end_of-Code last = last
  row_code (more_of-Code a rest) last = code_of a ⨾ row_code rest last

abbrev pub boxed_of : Box Code Global → plain.Code
boxed_of code = code_of code.value

abbrev pub boxed_test_of : Box Test Global → plain.Test
boxed_test_of test = test_of test.value

-- one after the other, and then the last
abbrev pub nested : List plain.Code → plain.Code → plain.Code
nested [] last = last
nested (a ∷ rest) last = a ⨾ nested rest last
