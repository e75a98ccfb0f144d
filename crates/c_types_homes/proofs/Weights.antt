-- How large a part of a tree is: a walk calls itself on smaller ones alone.
use Rattle.std.proofs.Common.{ℕ, suc, ◌+◌}
use Rattle.c_ast.specs.Trees as c

abbrev mutual
  pub weight : c.Exp → ℕ
  weight (c.name p x) = 1
  weight (c.number p n long) = 1
  weight (c.character p n) = 1
  weight (c.string p bytes) = 1
  weight (c.null p) = 1
  weight (c.eof p) = 1
  weight (c.call p x xs) = suc (weights xs)
  weight (c.index p a i) = suc (weight a + weight i)
  weight (c.postfix p op a) = suc (weight a)
  weight (c.unary p op a) = suc (weight a)
  weight (c.cast p ty a) = suc (weight a)
  weight (c.binary p op x y) = suc (weight x + weight y)
  weight (c.conditional p x y z) = suc (weight x + (weight y + weight z))
  weight (c.assign p op x y) = suc (weight x + weight y)
  weight (c.comma p xs) = suc (weights xs)

  pub weights : c.Exps → ℕ
  weights c.no_exp = 0
  weights (c.an_exp x xs) = suc (weight x + weights xs)

abbrev mutual
  pub statement_weight : c.Stm → ℕ
  statement_weight (c.block p xs) = suc (statement_weights xs)
  statement_weight (c.empty p) = 1
  statement_weight (c.expression p x) = 1
  statement_weight (c.if_then p x a) = suc (statement_weight a)
  statement_weight (c.if_else p x a b) = suc (statement_weight a + statement_weight b)
  statement_weight (c.while_loop p x a) = suc (statement_weight a)
  statement_weight (c.do_while p a x) = suc (statement_weight a)
  statement_weight (c.for_loop p start x y a) = suc (statement_weight a)
  statement_weight (c.break p) = 1
  statement_weight (c.continue p) = 1
  statement_weight (c.return p x) = 1
  statement_weight (c.local p ds) = 1

  pub statement_weights : c.Stms → ℕ
  statement_weights c.no_stm = 0
  statement_weights (c.a_stm s rest) = suc (statement_weight s + statement_weights rest)
