-- The lists in trees, seen as lists.
use Rattle.std.proofs.Common.{◌≡◌, ◌+◌, ◌<◌, List, map, ap, sym, ◌∙◌, refl, rules, arith, Vec, Box, Global}
use Rattle.c_typed.specs.declared.types.ValueType.{ValueType}
use Rattle.c_typed.specs.declared.expr.Expr.{Expr, Call, Comma, Row_of-Expr, end_of-Expr, more_of-Expr, items-the_row-Expr, the_lemmas}
use Rattle.c_typed.specs.declared.stmt.Stmt.{Stmt, Block, Row_of-Stmt, end_of-Stmt, more_of-Stmt, items-the_row-Stmt, the_lemmas as stmt_lemmas}
use Rattle.c_typed.specs.Tree.{an_exp, call, comma, block, stms, a_stm}
use Rattle.c_typed.specs.Views.{expr_of, row_exps, list_exps, stmt_of, row_stms}
use Rattle.c_kept.specs.Weights.{weight, weights, weight_stm, weight_stms}

pub exps_items : (m : _) (row : Row_of-Expr m) → row_exps row ≡ list_exps (items-the_row-Expr m row)
exps_items m end_of-Expr = refl
exps_items m (more_of-Expr {n = k} x rest) = ap (an_exp (expr_of x)) (exps_items k rest)

pub stms_items : (m : _) (row : Row_of-Stmt m) → row_stms row ≡ stms (map stmt_of (items-the_row-Stmt m row))
stms_items m end_of-Stmt = refl
stms_items m (more_of-Stmt {n = k} x rest) = ap (a_stm (stmt_of x)) (stms_items k rest)

view_call : (ty : ValueType) (f : _) (v : Vec Expr Global) → expr_of (Call ty f v) ≡ call ty f (list_exps v.items)
view_call ty f v = search (rules, the_lemmas, exps_items)

view_comma : (v : Vec Expr Global) (b : _) → expr_of (Comma v b) ≡ comma (list_exps v.items) (expr_of b.value)
view_comma v b = search (rules, the_lemmas, exps_items)

view_block : (v : Vec Stmt Global) → stmt_of (Block v) ≡ block (stms (map stmt_of v.items))
view_block v = search (rules, stmt_lemmas, stms_items)

-- ---- what a node with a list is

pub call_tree : (e : Expr) (list : List Expr) (ty : ValueType) (f : _) (v : Vec Expr Global) → e ≡ Call ty f v → list ≡ v.items → expr_of e ≡ call ty f (list_exps list)
call_tree e list ty f v is same = ap expr_of is ∙ view_call ty f v ∙ ap (λ l. call ty f (list_exps l)) (sym same)

pub comma_tree : (e : Expr) (list : List Expr) (a : Expr) (v : Vec Expr Global) (b : Box Expr Global) → e ≡ Comma v b → list ≡ v.items → a ≡ b.value → expr_of e ≡ comma (list_exps list) (expr_of a)
comma_tree e list a v b is same at =
    ap expr_of is ∙ view_comma v b ∙ ap (λ l. comma (list_exps l) (expr_of b.value)) (sym same) ∙ ap (λ x. comma (list_exps list) (expr_of x)) (sym at)

pub block_tree : (e : Stmt) (list : List Stmt) (v : Vec Stmt Global) → e ≡ Block v → list ≡ v.items → stmt_of e ≡ block (stms (map stmt_of list))
block_tree e list v is same = ap stmt_of is ∙ view_block v ∙ ap (λ l. block (stms (map stmt_of l))) (sym same)

-- ---- what has less weight

pub call_weight : (e : Expr) (list : List Expr) (ty : ValueType) (f : _) (v : Vec Expr Global) → e ≡ Call ty f v → list ≡ v.items → weights (list_exps list) < weight (expr_of e)
call_weight e list ty f v is same = let e1 = ap weight (call_tree e list ty f v is same) in omega (arith, e1)

pub comma_weight : (e : Expr) (list : List Expr) (v : Vec Expr Global) (b : Box Expr Global) → e ≡ Comma v b → list ≡ v.items → weights (list_exps list) < weight (expr_of e)
comma_weight e list v b is same = let e1 = ap weight (comma_tree e list b.value v b is same refl) in omega (arith, e1)

pub last_weight : (e a : Expr) (v : Vec Expr Global) (b : Box Expr Global) → e ≡ Comma v b → a ≡ b.value → weight (expr_of a) < weight (expr_of e)
last_weight e a v b is at = let e1 = ap weight (comma_tree e v.items a v b is refl at) in omega (arith, e1)

pub comma_weighs : (e : Expr) (list : List Expr) (a : Expr) (v : Vec Expr Global) (b : Box Expr Global) → e ≡ Comma v b → list ≡ v.items → a ≡ b.value → weights (list_exps list) + weight (expr_of a) < weight (expr_of e)
comma_weighs e list a v b is same at = let e1 = ap weight (comma_tree e list a v b is same at) in omega (arith, e1)

pub block_weight : (e : Stmt) (list : List Stmt) (v : Vec Stmt Global) → e ≡ Block v → list ≡ v.items → weight_stms (stms (map stmt_of list)) < weight_stm (stmt_of e)
block_weight e list v is same = let e1 = ap weight_stm (block_tree e list v is same) in omega (arith, e1)
