-- What statements are lowered to.
use Rattle.std.specs.Prelude.{ℕ, Some, None, Bool, true, false, ◌||◌}
use Rattle.c_typed.specs.Tree as t
use Rattle.c_typed.specs.Tree.{Exps, Maybe, Stm, Stms}
use Rattle.c_typed.specs.Program.{Program}
use Rattle.tac_lowered.specs.Code.{Code, nothing, when, choose, repeat, until, leave, Test, settled, breaks, continues, returns, ◌⨾◌}
use Rattle.tac_lowered.specs.Expressions.{held, at, low, effects, tested}

-- a `continue` of the loop around it
abbrev mutual
  pub goes_on : Stm → Bool
  goes_on (t.block all) = go_on all
  goes_on (t.if_then s a b) = goes_on b
  goes_on (t.if_else s a b c) = goes_on b || goes_on c
  goes_on (t.continue s) = true
  goes_on b = false

  pub go_on : Stms → Bool
  go_on t.no_stm = false
  go_on (t.a_stm a rest) = goes_on a || go_on rest

module _ (p : Program) where
  abbrev pub test_part : Maybe → (s r : ℕ) → Test
  test_part t.missing s r = settled s true
  test_part (t.given a) s r = tested p a s r

  abbrev pub returned : Maybe → (s r : ℕ) → Code
  returned t.missing s r = leave s (returns None)
  returned (t.given a) s r = held true a (low p a s (Some r) r) ⨾ leave s (returns (Some (at true a r)))

  -- registers from r on are free
  abbrev mutual
    pub low_stm : Stm → (r : ℕ) → Code
    low_stm (t.block all) r = low_stms all r
    low_stm (t.empty s) r = nothing
    low_stm (t.expression s a) r = low p a s None r
    low_stm (t.if_then s a b) r = when s (tested p a s r) (low_stm b r)
    low_stm (t.if_else s a b c) r = choose s (tested p a s r) (low_stm b r) (low_stm c r)
    low_stm (t.while_loop s a b) r = repeat s true (tested p a s r) (low_stm b r) nothing
    low_stm (t.do_while s b a) r = until s (goes_on b) (low_stm b r) (tested p a s r)
    low_stm (t.for_loop s all a t.missing b) r = effects p all s r ⨾ repeat s true (test_part a s r) (low_stm b r) nothing
    low_stm (t.for_loop s all a (t.given c) b) r = effects p all s r ⨾ repeat s (goes_on b) (test_part a s r) (low_stm b r) (low p c s None r)
    low_stm (t.break s) r = leave s breaks
    low_stm (t.continue s) r = leave s continues
    low_stm (t.return s a) r = returned a s r
    low_stm (t.local s all) r = effects p all s r

    pub low_stms : Stms → (r : ℕ) → Code
    low_stms t.no_stm r = nothing
    low_stms (t.a_stm a t.no_stm) r = low_stm a r
    low_stms (t.a_stm a rest) r = low_stm a r ⨾ low_stms rest r
