-- How many nodes a tree has: one for each item, parameter, declarator, statement and declaration in a function, and one for
-- each expression.
use Rattle.std.specs.Prelude.{ℕ, suc, ◌+◌, List, [], ◌∷◌, length}
use Rattle.c_ast.specs.Trees as c

abbrev mutual
  pub nodes : c.Exp → ℕ
  nodes (c.name p x) = 1
  nodes (c.number p n long) = 1
  nodes (c.character p n) = 1
  nodes (c.string p bytes) = 1
  nodes (c.null p) = 1
  nodes (c.eof p) = 1
  nodes (c.call p x xs) = suc (nodes_of xs)
  nodes (c.index p a i) = suc (nodes a + nodes i)
  nodes (c.postfix p op a) = suc (nodes a)
  nodes (c.unary p op a) = suc (nodes a)
  nodes (c.cast p ty a) = suc (nodes a)
  nodes (c.binary p op x y) = suc (nodes x + nodes y)
  nodes (c.conditional p x y z) = suc (nodes x + (nodes y + nodes z))
  nodes (c.assign p op x y) = suc (nodes x + nodes y)
  nodes (c.comma p xs) = suc (nodes_of xs)

  pub nodes_of : c.Exps → ℕ
  nodes_of c.no_exp = 0
  nodes_of (c.an_exp x xs) = nodes x + nodes_of xs

abbrev pub nodes_maybe : c.Maybe → ℕ
nodes_maybe c.missing = 0
nodes_maybe (c.given x) = nodes x

abbrev pub nodes_init : c.Initial → ℕ
nodes_init c.no_init = 0
nodes_init (c.value x) = nodes x
nodes_init (c.elements xs) = nodes_of (c.exps xs)

abbrev pub nodes_decl : c.Decl → ℕ
nodes_decl (c.declarator p ty name m init) = suc (nodes_init init)

abbrev pub nodes_decls : List c.Decl → ℕ
nodes_decls [] = 0
nodes_decls (d ∷ ds) = nodes_decl d + nodes_decls ds

-- a declaration is a node beside its declarators
abbrev pub nodes_start : c.Start → ℕ
nodes_start (c.start_expr x) = nodes_maybe x
nodes_start (c.start_local ds) = suc (nodes_decls ds)

abbrev mutual
  pub nodes_in : c.Stm → ℕ
  nodes_in (c.block p xs) = suc (nodes_in_all xs)
  nodes_in (c.empty p) = 1
  nodes_in (c.expression p x) = suc (nodes x)
  nodes_in (c.if_then p x a) = suc (nodes x + nodes_in a)
  nodes_in (c.if_else p x a b) = suc (nodes x + (nodes_in a + nodes_in b))
  nodes_in (c.while_loop p x a) = suc (nodes x + nodes_in a)
  nodes_in (c.do_while p a x) = suc (nodes_in a + nodes x)
  nodes_in (c.for_loop p start x y a) = suc (nodes_start start + (nodes_maybe x + (nodes_maybe y + nodes_in a)))
  nodes_in (c.break p) = 1
  nodes_in (c.continue p) = 1
  nodes_in (c.return p x) = suc (nodes_maybe x)
  nodes_in (c.local p ds) = suc (nodes_decls ds)

  pub nodes_in_all : c.Stms → ℕ
  nodes_in_all c.no_stm = 0
  nodes_in_all (c.a_stm s rest) = nodes_in s + nodes_in_all rest

abbrev pub nodes_item : c.Top → ℕ
nodes_item (c.prototype p ty name params) = suc (length params)
nodes_item (c.function p ty name params xs) = suc (length params + nodes_in_all (c.stms xs))
nodes_item (c.variables ds) = suc (nodes_decls ds)

abbrev pub nodes_unit : List c.Top → ℕ
nodes_unit [] = 0
nodes_unit (item ∷ items) = nodes_item item + nodes_unit items
