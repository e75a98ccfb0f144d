-- Lists of statements.
use Rattle.std.proofs.Common.{◌≡◌, ℕ, zero, suc, get_or, ◌+◌, ◌<◌, ◌≤◌, List, [], ◌∷◌, ◌++◌, length, map, ap, sym, ◌∙◌, refl, arith, Vec, Global}
use Rattle.c_typed.specs.declared.stmt.Stmt.{Stmt, Block}
use Rattle.c_typed.specs.Tree.{stms}
use Rattle.c_typed.specs.Program.{Program}
use Rattle.c_typed.specs.Views.{stmt_of}
use Rattle.c_kept.specs.Weights.{weight_stm, weight_stms}
use Rattle.tac_lowered.specs.Code.{Code, ◌⨾◌}
use Rattle.tac_lowered.specs.Statements.{low_stm, low_stms}
use Rattle.tac_code.specs.Views.{nested}
use Rattle.tac_trees.proofs.Rows.{block_tree}

abbrev pub weighed : List Stmt → ℕ
weighed list = weight_stms (stms (map stmt_of list))

pub block_weight : (e : Stmt) (list : List Stmt) (v : Vec Stmt Global) → e ≡ Block v → list ≡ v.items → weight_stms (stms (map stmt_of list)) < weight_stm (stmt_of e)
block_weight e list v is same = let e1 = ap weight_stm (block_tree e list v is same) in omega (arith, e1)

snoc_weighs : (rest : List Stmt) (a : Stmt) → weighed (rest ++ a ∷ []) ≡ weighed rest + weight_stm (stmt_of a)
snoc_weighs [] a = omega arith
snoc_weighs (x ∷ xs) a = let e1 = snoc_weighs xs a in omega (arith, e1)

pub last_weighs : (list : List Stmt) (a : Stmt) (rest : List Stmt) → list ≡ rest ++ a ∷ [] → weight_stms (stms (map stmt_of list)) ≡ weight_stms (stms (map stmt_of rest)) + weight_stm (stmt_of a)
last_weighs list a rest is = ap weighed is ∙ snoc_weighs rest a

pub member_weighs : (list : List Stmt) (i : ℕ) (a : Stmt) → i < length list → a ≡ get_or list i a → weight_stm (stmt_of a) ≤ weight_stms (stms (map stmt_of list))
member_weighs [] i a below is = absurd (omega arith)
member_weighs (x ∷ xs) zero a below is = let same : weight_stm (stmt_of a) ≡ weight_stm (stmt_of x) = ap (λ (y : Stmt). weight_stm (stmt_of y)) is in omega arith
member_weighs (x ∷ xs) (suc i) a below is = let rest : weight_stm (stmt_of a) ≤ weighed xs = member_weighs xs i a (omega arith) is in omega arith

-- statements one after the other: a row
module _ (p : Program) (r : ℕ) where
  abbrev pub code_in : Stmt → Code
  code_in a = low_stm p (stmt_of a) r

  snoc_stms : (rest : List Stmt) (a : Stmt) → nested (map code_in rest) (code_in a) ≡ low_stms p (stms (map stmt_of (rest ++ a ∷ []))) r
  snoc_stms [] a = refl
  snoc_stms (x ∷ []) a = refl
  snoc_stms (x ∷ y ∷ ys) a = ap (λ b. code_in x ⨾ b) (snoc_stms (y ∷ ys) a)

  pub row_of_stms : (list : List Stmt) (a : Stmt) (rest : List Stmt) → list ≡ rest ++ a ∷ [] → nested (map code_in rest) (code_in a) ≡ low_stms p (stms (map stmt_of list)) r
  row_of_stms list a rest is = snoc_stms rest a ∙ ap (λ l. low_stms p (stms (map stmt_of l)) r) (sym is)
