-- A block holds a list of statements.
use Rattle.std.proofs.Common.{◌≡◌, ℕ, suc, ◌+◌, ◌*◌, ◌<◌, List, map, sym, ap, ◌∙◌, arith, Vec, Global}
use Rattle.ib_meaning.specs.declared.place.Place.{Place}
use Rattle.c_ast.specs.declared.tree_unit.Stmt.{Stmt, Block}
use Rattle.c_ast.specs.Trees.{stms}
use Rattle.c_ast.specs.TreeViews.{stmt_of}
use Rattle.c_ast.proofs.Rows.{block_stmts}
use Rattle.c_program.specs.Nodes.{nodes_in, nodes_in_all}

abbrev in_list : List Stmt → ℕ
in_list list = nodes_in_all (stms (map stmt_of list))

pub block_counted : (s : Stmt) (list : List Stmt) (place : Place) (xs : Vec Stmt Global) → s ≡ Block place xs → list ≡ xs.items → nodes_in (stmt_of s) ≡ suc (in_list list)
block_counted s list place xs is same = ap nodes_in (ap stmt_of is ∙ block_stmts place xs) ∙ ap (λ l. suc (in_list l)) (sym same)

pub block_lighter : (s : Stmt) (list : List Stmt) (place : Place) (xs : Vec Stmt Global) → s ≡ Block place xs → list ≡ xs.items → 3 * in_list list + 1 < 3 * nodes_in (stmt_of s)
block_lighter s list place xs is same = let counted = block_counted s list place xs is same in omega arith
