-- What statements mean, and which rules they break.
use Rattle.std.specs.Prelude.{ℕ, suc, ◌+◌, Bool, true, false, ℤ, pos, List, [], ◌∷◌, ◌++◌, length, slice_index_or, not, if◌then◌else◌}
use Rattle.ib_meaning.specs.declared.place.Place.{Place}
use Rattle.c_ast.specs.Trees as c
use Rattle.c_typed.specs.declared.types.ValueType.{ValueType}
use Rattle.c_typed.specs.declared.program.Home.{Home}
use Rattle.c_typed.specs.declared.program.Home.TheVariants as h
use Rattle.c_typed.specs.declared.expr.Storage.TheVariants.{Frame}
use Rattle.c_typed.specs.Tree as t
use Rattle.c_typed.specs.Tree.{Exp, Exps}
use Rattle.c_typed.specs.ValueTypes.{pointer_to}
use Rattle.c_scopes.specs.Scopes.{is_own}
use Rattle.c_layout.specs.declared.shape.Shape.{Shape}
use Rattle.c_layout.specs.declared.shape.Shape.TheVariants.{Scalar, Array}
use Rattle.c_layout.specs.Layout.{Texts}
use Rattle.c_types_homes.specs.Addressed.{variables, started_in}
use Rattle.c_types_homes.specs.Declarators.{declared_name, declared_place, declared_shape, init_of}
use Rattle.c_typed.specs.declared.rule.Rule.TheVariants.{Redeclared, OutsideALoop, ReturnValue, WrongInitialiser}
use Rattle.c_types_operators.specs.declared.rule.Breach.{Breach}
use Rattle.c_types_operators.specs.declared.scope.Lives.{Lives}
use Rattle.c_types_operators.specs.declared.scope.Lives.TheVariants.{InSlot, InMemory}
use Rattle.c_types_operators.specs.Rules.{Judged, Fine}
use Rattle.c_types_operators.specs.Scopes.{Scope, inner, with_variable}
use Rattle.c_typed.specs.ValueTypes.{is_void}
use Rattle.c_types_expressions.specs.Expressions.{literals, literals_of, value, values, stored_value, tested_value, effect}
use Rattle.c_types_declarators.specs.Declarations.{declarator_breaches}
use Rattle.c_types_operators.specs.Parts.{broken_if, ◌<*>◌, also, misplaced}

-- ---- string literals, in order

abbrev pub literals_maybe : c.Maybe → Texts
literals_maybe c.missing = []
literals_maybe (c.given x) = literals x

abbrev pub literals_init : c.Initial → Texts
literals_init c.no_init = []
literals_init (c.value x) = literals x
literals_init (c.elements xs) = literals_of (c.exps xs)

abbrev pub literals_decls : List c.Decl → Texts
literals_decls [] = []
literals_decls (d ∷ ds) = literals_init (init_of d) ++ literals_decls ds

abbrev pub literals_start : c.Start → Texts
literals_start (c.start_expr x) = literals_maybe x
literals_start (c.start_local ds) = literals_decls ds

abbrev mutual
  pub literals_in : c.Stm → Texts
  literals_in (c.block p xs) = literals_in_all xs
  literals_in (c.empty p) = []
  literals_in (c.expression p x) = literals x
  literals_in (c.if_then p x a) = literals x ++ literals_in a
  literals_in (c.if_else p x a b) = literals x ++ (literals_in a ++ literals_in b)
  literals_in (c.while_loop p x a) = literals x ++ literals_in a
  literals_in (c.do_while p a x) = literals_in a ++ literals x
  literals_in (c.for_loop p start x y a) = literals_start start ++ (literals_maybe x ++ (literals_maybe y ++ literals_in a))
  literals_in (c.break p) = []
  literals_in (c.continue p) = []
  literals_in (c.return p x) = literals_maybe x
  literals_in (c.local p ds) = literals_decls ds

  pub literals_in_all : c.Stms → Texts
  literals_in_all c.no_stm = []
  literals_in_all (c.a_stm s rest) = literals_in s ++ literals_in_all rest

-- ---- statements by their numbers

-- the places of the statements that have a number, in the order of their first tokens: all but blocks
abbrev mutual
  pub places : c.Stm → List Place
  places (c.block p xs) = places_of xs
  places (c.empty p) = p ∷ []
  places (c.expression p x) = p ∷ []
  places (c.if_then p x a) = p ∷ places a
  places (c.if_else p x a b) = p ∷ (places a ++ places b)
  places (c.while_loop p x a) = p ∷ places a
  places (c.do_while p a x) = p ∷ places a
  places (c.for_loop p start x y a) = p ∷ places a
  places (c.break p) = p ∷ []
  places (c.continue p) = p ∷ []
  places (c.return p x) = p ∷ []
  places (c.local p ds) = p ∷ []

  pub places_of : c.Stms → List Place
  places_of c.no_stm = []
  places_of (c.a_stm s rest) = places s ++ places_of rest

-- What comes before a part of a source: how many variables of its function, or globals of its file, the statements' places,
-- and the string literals.
pub record At : Type 0 where
  pub variable : ℕ
  pub places : List Place
  pub texts : Texts

-- the number of the statement that is next
abbrev pub number : At → ℕ
number at = length at.places

-- behind the first token of a statement
abbrev pub numbered : Place → At → At
numbered p at = record at { places = at.places ++ (p ∷ []) }

-- behind string literals
abbrev pub past_texts : Texts → At → At
past_texts xs at = record at { texts = at.texts ++ xs }

-- behind the first token and the condition of a statement
abbrev pub past_test : Place → c.Exp → At → At
past_test p x at = past_texts (literals x) (numbered p at)

abbrev pub past_start : c.Start → At → At
past_start s at = record at { variable = at.variable + length (started_in s); texts = at.texts ++ literals_start s }

-- behind the head of a `for`
abbrev pub past_head : Place → c.Start → c.Maybe → c.Maybe → At → At
past_head p s x y at = past_texts (literals_maybe y) (past_texts (literals_maybe x) (past_start s (numbered p at)))

abbrev pub past : c.Stm → At → At
past s at = record at { variable = at.variable + length (variables s); places = at.places ++ places s; texts = at.texts ++ literals_in s }

-- ---- declarations

abbrev pub lives : Home → Lives
lives (h.Slot n) = InSlot n
lives (h.Frame n) = InMemory (Frame n)

-- what stores a value in a variable
abbrev pub stored_at : ValueType → Home → Exp → Exp
stored_at ty (h.Slot n) x = t.set_slot ty n x
stored_at ty (h.Frame n) x = t.store ty (t.address (pointer_to ty) (Frame n)) x

abbrev pub zero_of : ValueType → Exp
zero_of ty = t.constant ty (pos 0)

-- what a scalar holds first
abbrev pub first_value : Scope → Texts → Place → ValueType → c.Initial → Judged Exp
first_value Γ n p ty c.no_init = Fine (zero_of ty)
first_value Γ n p ty (c.value e) = stored_value Γ n ty e
first_value Γ n p ty (c.elements xs) = misplaced WrongInitialiser p (values Γ n (c.exps xs))

-- A local array has no initialiser.
abbrev pub no_first_value : Scope → Texts → Place → c.Initial → Judged t.Maybe
no_first_value Γ n p c.no_init = Fine t.missing
no_first_value Γ n p (c.value e) = misplaced WrongInitialiser p (value Γ n e)
no_first_value Γ n p (c.elements xs) = misplaced WrongInitialiser p (values Γ n (c.exps xs))

abbrev pub given_stored : ValueType → Home → Exp → t.Maybe
given_stored ty home x = t.given (stored_at ty home x)

-- what a declaration stores
abbrev pub stored_first : Scope → Texts → Place → Shape → Home → c.Initial → Judged t.Maybe
stored_first Γ n p (Scalar ty) home init = Fine (given_stored ty home) <*> first_value Γ n p ty init
stored_first Γ n p (Array ty m) home init = no_first_value Γ n p init

-- with one that is not missing
abbrev pub given_before : t.Maybe → Exps → Exps
given_before t.missing xs = xs
given_before (t.given x) xs = t.an_exp x xs

abbrev pub as_list : t.Maybe → Exps
as_list x = given_before x t.no_exp

-- a name that its scope has declared already
abbrev pub redeclared_in : Scope → List ℕ → Place → List Breach
redeclared_in Γ name p = broken_if (is_own name Γ.scopes) Redeclared p

-- by the variable's number
abbrev pub home_at : List Home → (k : ℕ) → Home
home_at homes k = slice_index_or homes k (h.Slot 0)

abbrev pub test_part : Scope → Texts → c.Maybe → Judged t.Maybe
test_part Γ n c.missing = Fine t.missing
test_part Γ n (c.given x) = Fine t.given <*> tested_value Γ n x

abbrev pub effect_part : Scope → Texts → c.Maybe → Judged t.Maybe
effect_part Γ n c.missing = Fine t.missing
effect_part Γ n (c.given x) = Fine t.given <*> effect Γ n x

-- in a function whose variables have these homes
module _ (homes : List Home) where
  -- with variable k
  abbrev pub with_local : (k : ℕ) → c.Decl → Scope → Scope
  with_local k d Γ = with_variable (declared_name d) (record { shape = declared_shape d; lives = lives (home_at homes k) }) Γ

  abbrev pub with_locals : (k : ℕ) → List c.Decl → Scope → Scope
  with_locals k [] Γ = Γ
  with_locals k (d ∷ ds) Γ = with_locals (suc k) ds (with_local k d Γ)

  abbrev pub with_start : (k : ℕ) → c.Start → Scope → Scope
  with_start k (c.start_expr x) Γ = Γ
  with_start k (c.start_local ds) Γ = with_locals k ds Γ

  -- the names behind a statement
  abbrev pub with_names : (k : ℕ) → c.Stm → Scope → Scope
  with_names k (c.local p ds) Γ = with_locals k ds Γ
  with_names k s Γ = Γ

  -- A variable is known in its own initialiser.
  abbrev pub local : Scope → (k : ℕ) → Texts → c.Decl → Judged t.Maybe
  local Γ k n d =
      also (redeclared_in Γ (declared_name d) (declared_place d) ++ declarator_breaches d)
      (stored_first (with_local k d Γ) n (declared_place d) (declared_shape d) (home_at homes k) (init_of d))

  abbrev pub locals : Scope → (k : ℕ) → Texts → List c.Decl → Judged Exps
  locals Γ k n [] = Fine t.no_exp
  locals Γ k n (d ∷ ds) = Fine given_before <*> local Γ k n d <*> locals (with_local k d Γ) (suc k) (n ++ literals_init (init_of d)) ds

  abbrev pub start : Scope → (k : ℕ) → Texts → c.Start → Judged Exps
  start Γ k n (c.start_expr x) = Fine as_list <*> effect_part Γ n x
  start Γ k n (c.start_local ds) = locals Γ k n ds

abbrev pub returned : (result : ValueType) → Scope → Texts → Place → c.Maybe → Judged t.Maybe
returned result Γ n p c.missing = also (broken_if (not (is_void result)) ReturnValue p) (Fine t.missing)
returned result Γ n p (c.given x) = if is_void result then misplaced ReturnValue p (value Γ n x) else Fine t.given <*> stored_value Γ n result x

-- what stands in loops alone
abbrev pub loop_only : Bool → Place → t.Stm → Judged t.Stm
loop_only loops p s = also (broken_if (not loops) OutsideALoop p) (Fine s)

-- statements of several parts, with their numbers
abbrev pub if_of : ℕ → Exp → t.Stm → t.Stm
if_of n x a = t.if_then n x a

abbrev pub if_else_of : ℕ → Exp → t.Stm → t.Stm → t.Stm
if_else_of n x a b = t.if_else n x a b

abbrev pub while_of : ℕ → Exp → t.Stm → t.Stm
while_of n x a = t.while_loop n x a

abbrev pub do_of : ℕ → t.Stm → Exp → t.Stm
do_of n a x = t.do_while n a x

abbrev pub for_of : ℕ → Exps → t.Maybe → t.Maybe → t.Stm → t.Stm
for_of n start x y a = t.for_loop n start x y a

abbrev pub before : t.Stm → t.Stms → t.Stms
before s rest = t.a_stm s rest

-- in a function that gives this type, whose variables have these homes
module _ (result : ValueType) (homes : List Home) where
  -- A statement, which may stand in a loop. One that belongs to another is a scope of its own.
  abbrev mutual
    pub statement : Scope → At → Bool → c.Stm → Judged t.Stm
    statement Γ at loops (c.block p xs) = Fine t.block <*> statements (inner Γ) at loops xs
    statement Γ at loops (c.empty p) = Fine (t.empty (number at))
    statement Γ at loops (c.expression p x) = Fine (t.expression (number at)) <*> effect Γ at.texts x
    statement Γ at loops (c.if_then p x a) =
        Fine (if_of (number at)) <*> tested_value Γ at.texts x <*> statement (inner Γ) (past_test p x at) loops a
    statement Γ at loops (c.if_else p x a b) =
        Fine (if_else_of (number at)) <*> tested_value Γ at.texts x
        <*> statement (inner Γ) (past_test p x at) loops a
        <*> statement (inner Γ) (past a (past_test p x at)) loops b
    statement Γ at loops (c.while_loop p x a) =
        Fine (while_of (number at)) <*> tested_value Γ at.texts x <*> statement (inner Γ) (past_test p x at) true a
    statement Γ at loops (c.do_while p a x) =
        Fine (do_of (number at)) <*> statement (inner Γ) (numbered p at) true a <*> tested_value Γ (at.texts ++ literals_in a) x
    statement Γ at loops (c.for_loop p s x y a) =
        let inside = with_start homes at.variable s (inner Γ) in
        Fine (for_of (number at)) <*> start homes (inner Γ) at.variable at.texts s
        <*> test_part inside (at.texts ++ literals_start s) x
        <*> effect_part inside (at.texts ++ literals_start s ++ literals_maybe x) y
        <*> statement (inner inside) (past_head p s x y at) true a
    statement Γ at loops (c.break p) = loop_only loops p (t.break (number at))
    statement Γ at loops (c.continue p) = loop_only loops p (t.continue (number at))
    statement Γ at loops (c.return p x) = Fine (t.return (number at)) <*> returned result Γ at.texts p x
    statement Γ at loops (c.local p ds) = Fine (t.local (number at)) <*> locals homes Γ at.variable at.texts ds

    pub statements : Scope → At → Bool → c.Stms → Judged t.Stms
    statements Γ at loops c.no_stm = Fine t.no_stm
    statements Γ at loops (c.a_stm s rest) =
        Fine before <*> statement Γ at loops s <*> statements (with_names homes at.variable s Γ) (past s at) loops rest
