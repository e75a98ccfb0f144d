-- Statements that hold statements, and the names behind them.
use Rattle.std.proofs.Common.{◌≡◌, ℕ, suc, ◌+◌, ◌*◌, ◌<◌, List, [], ◌∷◌, map, length, ◌++◌, refl, sym, ap, ap₂, ◌∙◌, subst, arith, append-nil, Vec, Global}
use Rattle.ib_meaning.specs.declared.place.Place.{Place}
use Rattle.c_ast.specs.declared.tree_unit.Stmt.{Stmt, Block}
use Rattle.c_ast.specs.Trees as c
use Rattle.c_ast.specs.Trees.{Stm, Stms, stms}
use Rattle.c_ast.specs.TreeViews.{stmt_of}
use Rattle.c_ast.proofs.Rows.{block_stmts}
use Rattle.c_scopes.specs.Scopes.{entered, left}
use Rattle.c_types_homes.specs.Addressed.{Names, variables, with_names, with_names_of, with_declarator, with_declarators, with_start}
use Rattle.c_layout.specs.declared.shape.Shape.{Shape}
use Rattle.c_types_homes.specs.Walking.{Seen, Walks}
use Rattle.c_types_homes.proofs.Weights.{statement_weight, statement_weights}

abbrev Lighter : List Stmt → Stm → Type 0
Lighter list s = 4 * statement_weights (stms (map stmt_of list)) + 2 < 4 * statement_weight s

pub block_lighter : (s : Stmt) (list : List Stmt) (place : Place) (xs : Vec Stmt Global) → s ≡ Block place xs → list ≡ xs.items → Lighter list (stmt_of s)
block_lighter s list place xs is same =
    subst (λ l. Lighter l (stmt_of s)) (sym same) (subst (λ x. Lighter xs.items x) (sym (ap stmt_of is ∙ block_stmts place xs)) (omega arith))

pub block_tree : (s : Stmt) (list : List Stmt) (place : Place) (xs : Vec Stmt Global) → s ≡ Block place xs → list ≡ xs.items → c.block place (stms (map stmt_of list)) ≡ stmt_of s
block_tree s list place xs is same = ap (λ l. c.block place (stms (map stmt_of l))) same ∙ sym (ap stmt_of is ∙ block_stmts place xs)

-- A part adds names to the innermost scope alone.
abbrev IsWithin : (ℕ → Names → Names) → Type 0
IsWithin f = (k : ℕ) (names : Names) → left (f k names) ≡ left names

by_declarators : (ds : List c.Decl) → IsWithin (with_declarators ds)
by_declarators [] k names = refl
by_declarators (d ∷ ds) k names = by_declarators ds (suc k) (with_declarator d k names)

pub by_start : (start : c.Start) → IsWithin (with_start start)
by_start (c.start_expr x) k names = refl
by_start (c.start_local ds) k names = by_declarators ds k names

pub by_statement : (s : Stm) → IsWithin (with_names s)
by_statement (c.block p xs) k names = refl
by_statement (c.empty p) k names = refl
by_statement (c.expression p x) k names = refl
by_statement (c.if_then p x a) k names = refl
by_statement (c.if_else p x a b) k names = refl
by_statement (c.while_loop p x a) k names = refl
by_statement (c.do_while p a x) k names = refl
by_statement (c.for_loop p start x y a) k names = refl
by_statement (c.break p) k names = refl
by_statement (c.continue p) k names = refl
by_statement (c.return p x) k names = refl
by_statement (c.local p ds) k names = by_declarators ds k names

pub by_statements : (all : Stms) → IsWithin (with_names_of all)
by_statements c.no_stm k names = refl
by_statements (c.a_stm s rest) k names = by_statements rest (k + length (variables s)) (with_names s k names) ∙ by_statement s k names

-- a part in a scope of its own
pub scoped : (a b d e : Seen) (f : ℕ → Names → Names) (shapes : List Shape) (g : ℕ → Names → List ℕ) → IsWithin f
    → Walks a b (entered a.names) [] [] → Walks b d (f b.next b.names) shapes (g b.next b.names) → Walks d e (left d.names) [] []
    → Walks a e a.names shapes (g a.next (entered a.names))
scoped a b d e f shapes g within enters goes leaves =
    let next : b.next ≡ a.next = omega (arith, enters.next) in record {
      known = leaves.known ∙ ap left (goes.known ∙ ap₂ f next enters.known) ∙ within a.next (entered a.names);
      next = omega (arith, enters.next, goes.next, leaves.next);
      declares = leaves.declares ∙ append-nil d.shapes ∙ goes.declares ∙ ap (λ xs. xs ++ shapes) (enters.declares ∙ append-nil a.shapes);
      takes = leaves.takes ∙ append-nil d.taken ∙ goes.takes ∙ ap₂ (λ xs ys. xs ++ ys) (enters.takes ∙ append-nil a.taken) (ap₂ g next enters.known);
    }
