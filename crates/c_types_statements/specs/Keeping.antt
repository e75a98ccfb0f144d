-- What the code keeps while it judges a file, and what it answers for a part.
use Rattle.std.specs.Prelude.{◌≡◌, ℕ, suc, ◌+◌, Bool, true, false, List, [], ◌∷◌, ◌++◌, length, map, Option, Some, None}
use Rattle.std.proofs.Common.{Vec, Global}
use Rattle.c_ast.specs.Trees as c
use Rattle.c_typed.specs.declared.program.Home.{Home}
use Rattle.c_typed.specs.declared.stmt.Stmt.{Stmt}
use Rattle.c_typed.specs.Tree as t
use Rattle.c_typed.specs.Tree.{Exps, Stms, stms}
use Rattle.c_typed.specs.Views.{stmt_of}
use Rattle.c_types_homes.specs.Addressed.{variables, variables_of, declared_in}
use Rattle.c_types_homes.specs.Declarators.{init_of}
use Rattle.c_types_operators.specs.declared.rule.Breach.{Breach}
use Rattle.c_types_operators.specs.Rules.{Judged, breaches, first_from}
use Rattle.c_types_operators.specs.Scopes.{Scope}
use Rattle.c_types_operators.specs.Operators.{and_then}
use Rattle.c_types_operators.specs.Judging.{kept}
use Rattle.c_types_statements.specs.Statements.{At, past_texts, literals_init, literals_decls, literals_in_all, places_of, with_names}

-- ---- what a walk has seen

-- the names that are known, what came before, and the first breach so far
pub record Seen : Type 0 where
  pub scope : Scope
  pub at : At
  pub first : Option Breach

-- Behind a part these names are known and that came before, and these breaches are noted.
pub record Passes (old new : Seen) (scope : Scope) (at : At) (found : List Breach) : Type 0 where
  pub known : new.scope ≡ scope
  pub behind : new.at ≡ at
  pub noted : new.first ≡ first_from old.first found

-- The answer is what a part means, if it breaks no rule. Behind it these names are known and that came before, and its
-- breaches are noted.
pub record Types {A : Type 0} (old new : Seen) (scope : Scope) (at : At) (judged : Judged A) (answer : Option A) : Type 0 where
  pub known : new.scope ≡ scope
  pub behind : new.at ≡ at
  pub noted : new.first ≡ first_from old.first (breaches judged)
  pub means : answer ≡ kept judged

abbrev pub is_empty : {A : Type 0} → List A → Bool
is_empty [] = true
is_empty (x ∷ xs) = false

-- These breaches are noted, and the answer says whether there are none. These names are known.
pub record Finds (old new : Seen) (scope : Scope) (found : List Breach) (fine : Bool) : Type 0 where
  pub noted : new ≡ record old { scope = scope; first = first_from old.first found }
  pub tells : fine ≡ is_empty found

-- ---- what is made of answers

-- with one part more, where all are there
infixl 10 ◌<?>◌
abbrev pub ◌<?>◌ : {A B : Type 0} → Option (A → B) → Option A → Option B
Some f <?> Some a = Some (f a)
f <?> a = None

abbrev pub rows_of : Vec Stmt Global → Stms
rows_of row = stms (map stmt_of row.items)

-- with one more at the end
abbrev pub and_statement : Stms → t.Stm → Stms
and_statement t.no_stm s = t.a_stm s t.no_stm
and_statement (t.a_stm x xs) s = t.a_stm x (and_statement xs s)

abbrev pub and_given : Exps → t.Maybe → Exps
and_given xs t.missing = xs
and_given xs (t.given x) = and_then xs x

-- ---- behind parts

-- behind one more variable
abbrev pub counted : At → At
counted at = record at { variable = suc at.variable }

abbrev pub past_local : c.Decl → At → At
past_local d at = past_texts (literals_init (init_of d)) (counted at)

abbrev pub past_locals : List c.Decl → At → At
past_locals ds at = record at { variable = at.variable + length (declared_in ds); texts = at.texts ++ literals_decls ds }

abbrev pub past_all : c.Stms → At → At
past_all xs at = record at { variable = at.variable + length (variables_of xs); places = at.places ++ places_of xs; texts = at.texts ++ literals_in_all xs }

abbrev pub with_names_of : List Home → (k : ℕ) → c.Stms → Scope → Scope
with_names_of homes k c.no_stm Γ = Γ
with_names_of homes k (c.a_stm s rest) Γ = with_names_of homes (k + length (variables s)) rest (with_names homes k s Γ)
