-- How many nodes a typed program has: one for each expression, statement, parameter and function.
use Rattle.std.specs.Prelude.{ℕ, suc, ◌+◌, ◌*◌, ◌≤◌, List, [], ◌∷◌, length}
use Rattle.std.specs.List.{All}
use Rattle.c_typed.specs.Program.{Program}
use Rattle.c_typed.specs.Tree as t
use Rattle.c_typed.specs.Tree.{Exp, Exps, Maybe, Stm, Stms, Function}

abbrev mutual
  pub weight : Exp → ℕ
  weight (t.constant ty v) = 1
  weight (t.text k) = 1
  weight (t.address ty of) = 1
  weight (t.element ty array length size reach a) = suc (weight a)
  weight (t.slot ty k) = 1
  weight (t.load ty a) = suc (weight a)
  weight (t.convert ty a) = suc (weight a)
  weight (t.unary op rank a) = suc (weight a)
  weight (t.not a) = suc (weight a)
  weight (t.binary ty op a b) = suc (weight a + weight b)
  weight (t.both a b) = suc (weight a + weight b)
  weight (t.either a b) = suc (weight a + weight b)
  weight (t.conditional ty a b c) = suc (weight a + (weight b + weight c))
  weight (t.set_slot ty k a) = suc (weight a)
  weight (t.store ty a b) = suc (weight a + weight b)
  weight (t.update_slot ty k within op a) = suc (weight a)
  weight (t.update ty a within op b) = suc (weight a + weight b)
  weight (t.step_slot ty k within op) = 1
  weight (t.step ty a within op) = suc (weight a)
  weight (t.call ty f all) = suc (weights all)
  weight t.get_byte = 1
  weight (t.put_byte a) = suc (weight a)
  weight (t.put_number a) = suc (weight a)
  weight (t.comma all a) = suc (weights all + weight a)

  pub weights : Exps → ℕ
  weights t.no_exp = 0
  weights (t.an_exp a rest) = weight a + weights rest

abbrev pub weight_part : Maybe → ℕ
weight_part t.missing = 0
weight_part (t.given a) = weight a

abbrev mutual
  pub weight_stm : Stm → ℕ
  weight_stm (t.block all) = suc (weight_stms all)
  weight_stm (t.empty s) = 1
  weight_stm (t.expression s a) = suc (weight a)
  weight_stm (t.if_then s a b) = suc (weight a + weight_stm b)
  weight_stm (t.if_else s a b c) = suc (weight a + (weight_stm b + weight_stm c))
  weight_stm (t.while_loop s a b) = suc (weight a + weight_stm b)
  weight_stm (t.do_while s b a) = suc (weight_stm b + weight a)
  weight_stm (t.for_loop s all a c b) = suc (weights all + (weight_part a + (weight_part c + weight_stm b)))
  weight_stm (t.break s) = 1
  weight_stm (t.continue s) = 1
  weight_stm (t.return s a) = suc (weight_part a)
  weight_stm (t.local s all) = suc (weights all)

  pub weight_stms : Stms → ℕ
  weight_stms t.no_stm = 0
  weight_stms (t.a_stm a rest) = weight_stm a + weight_stms rest

-- a function, its parameters and its body
abbrev pub weight_function : Function → ℕ
weight_function f = suc (length f.params + weight_stms f.body)

abbrev pub weight_functions : List Function → ℕ
weight_functions [] = 0
weight_functions (f ∷ fs) = weight_function f + weight_functions fs

-- The program has at most four nodes for each of its source's, and a slot is a parameter's or one that the body sets.
pub record KeepsWeights (nodes : ℕ) (p : Program) : Type 0 where
  pub light : weight_functions p.functions ≤ 4 * nodes
  pub slots : All (λ f. f.slots ≤ length f.params + weight_stms f.body) p.functions
