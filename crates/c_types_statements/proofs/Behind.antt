-- What comes before the part behind a statement, from what comes before each of its parts.
use Rattle.std.proofs.Common.{◌≡◌, refl, ap, sym, ◌∙◌, ℕ, zero, suc, ◌+◌, arith, List, [], ◌∷◌, ◌++◌, length, length-append}
use Rattle.std.proofs.lemmas.List.{append-nil, append_assoc}
use Rattle.ib_meaning.specs.declared.place.Place.{Place}
use Rattle.c_ast.specs.Trees as c
use Rattle.c_typed.specs.declared.program.Home.{Home}
use Rattle.c_layout.specs.Layout.{Texts}
use Rattle.c_layout.specs.declared.shape.Shape.{Shape}
use Rattle.c_types_homes.specs.Addressed.{variables, variables_of, started_in, declared_in}
use Rattle.c_types_homes.specs.Declarators.{declared_shape, init_of}
use Rattle.c_types_operators.specs.Scopes.{Scope, inner, outer}
use Rattle.c_types_expressions.specs.Expressions.{literals}
use Rattle.c_types_statements.specs.Statements.{At, numbered, past_texts, past_test, past_start, past_head, past, places, places_of, literals_in, literals_in_all, literals_init, literals_decls, literals_start, literals_maybe, with_local, with_locals, with_start, with_names}
use Rattle.c_types_statements.specs.Keeping.{counted, past_local, past_locals, past_all, with_names_of}

abbrev at_with : ℕ → List Place → Texts → At
at_with n places texts = record { variable = n; places = places; texts = texts }

same_at : {m n : ℕ} {ps qs : List Place} {xs ys : Texts} → m ≡ n → ps ≡ qs → xs ≡ ys → at_with m ps xs ≡ at_with n qs ys
same_at {m} {n} {ps} {qs} {xs} {ys} e f g = ap (λ k. at_with k ps xs) e ∙ (ap (λ l. at_with n l xs) f ∙ ap (λ l. at_with n qs l) g)

none-more : (n : ℕ) → n ≡ n + 0
none-more n = omega arith

more-join : (n : ℕ) (xs ys : List Shape) → (n + length xs) + length ys ≡ n + length (xs ++ ys)
more-join n xs ys = omega (arith, length-append {A = Shape})

pub past_no_texts : (at : At) → at ≡ past_texts [] at
past_no_texts at = same_at refl refl (sym (append-nil at.texts))

-- statements that hold no others
pub past_empty : (p : Place) (at : At) → numbered p at ≡ past (c.empty p) at
past_empty p at = same_at (none-more at.variable) refl (sym (append-nil at.texts))

pub past_break : (p : Place) (at : At) → numbered p at ≡ past (c.break p) at
past_break p at = same_at (none-more at.variable) refl (sym (append-nil at.texts))

pub past_continue : (p : Place) (at : At) → numbered p at ≡ past (c.continue p) at
past_continue p at = same_at (none-more at.variable) refl (sym (append-nil at.texts))

pub past_expression : (p : Place) (x : c.Exp) (at : At) → past_texts (literals x) (numbered p at) ≡ past (c.expression p x) at
past_expression p x at = same_at (none-more at.variable) refl refl

pub past_return : (p : Place) (x : c.Maybe) (at : At) → past_texts (literals_maybe x) (numbered p at) ≡ past (c.return p x) at
past_return p x at = same_at (none-more at.variable) refl refl

pub past_start_part : (x : c.Maybe) (at : At) → past_texts (literals_maybe x) at ≡ past_start (c.start_expr x) at
past_start_part x at = same_at (none-more at.variable) refl refl

-- statements that hold others
pub past_if : (p : Place) (x : c.Exp) (a : c.Stm) (at : At) → past a (past_test p x at) ≡ past (c.if_then p x a) at
past_if p x a at = same_at refl (append_assoc at.places (p ∷ []) (places a)) (append_assoc at.texts (literals x) (literals_in a))

pub past_while : (p : Place) (x : c.Exp) (a : c.Stm) (at : At) → past a (past_test p x at) ≡ past (c.while_loop p x a) at
past_while p x a at = same_at refl (append_assoc at.places (p ∷ []) (places a)) (append_assoc at.texts (literals x) (literals_in a))

pub past_do : (p : Place) (a : c.Stm) (x : c.Exp) (at : At) → past_texts (literals x) (past a (numbered p at)) ≡ past (c.do_while p a x) at
past_do p a x at = same_at refl (append_assoc at.places (p ∷ []) (places a)) (append_assoc at.texts (literals_in a) (literals x))

pub past_if_else : (p : Place) (x : c.Exp) (a b : c.Stm) (at : At) → past b (past a (past_test p x at)) ≡ past (c.if_else p x a b) at
past_if_else p x a b at =
    same_at (more-join at.variable (variables a) (variables b))
    (append_assoc (at.places ++ (p ∷ [])) (places a) (places b) ∙ append_assoc at.places (p ∷ []) (places a ++ places b))
    (append_assoc (at.texts ++ literals x) (literals_in a) (literals_in b) ∙ append_assoc at.texts (literals x) (literals_in a ++ literals_in b))

pub past_for : (p : Place) (start : c.Start) (x y : c.Maybe) (a : c.Stm) (at : At) → past a (past_head p start x y at) ≡ past (c.for_loop p start x y a) at
past_for p start x y a at =
    same_at (more-join at.variable (started_in start) (variables a))
    (append_assoc at.places (p ∷ []) (places a))
    (append_assoc (at.texts ++ literals_start start ++ literals_maybe x) (literals_maybe y) (literals_in a)
    ∙ append_assoc (at.texts ++ literals_start start) (literals_maybe x) (literals_maybe y ++ literals_in a)
    ∙ append_assoc at.texts (literals_start start) (literals_maybe x ++ (literals_maybe y ++ literals_in a)))

-- lists
pub past_no_locals : (at : At) → at ≡ past_locals [] at
past_no_locals at = same_at (none-more at.variable) refl (sym (append-nil at.texts))

pub past_more_locals : (d : c.Decl) (ds : List c.Decl) (at : At) → past_locals ds (past_local d at) ≡ past_locals (d ∷ ds) at
past_more_locals d ds at = same_at (omega arith) refl (append_assoc at.texts (literals_init (init_of d)) (literals_decls ds))

pub past_none : (at : At) → at ≡ past_all c.no_stm at
past_none at = same_at (none-more at.variable) (sym (append-nil at.places)) (sym (append-nil at.texts))

pub past_more : (s : c.Stm) (rest : c.Stms) (at : At) → past_all rest (past s at) ≡ past_all (c.a_stm s rest) at
past_more s rest at =
    same_at (more-join at.variable (variables s) (variables_of rest)) (append_assoc at.places (places s) (places_of rest))
    (append_assoc at.texts (literals_in s) (literals_in_all rest))

-- ---- names

-- A part adds names to the innermost scope alone.
by_locals : (homes : List Home) (k : ℕ) (ds : List c.Decl) (Γ : Scope) → outer (with_locals homes k ds Γ) ≡ outer Γ
by_locals homes k [] Γ = refl
by_locals homes k (d ∷ ds) Γ = by_locals homes (suc k) ds (with_local homes k d Γ)

by_start : (homes : List Home) (k : ℕ) (start : c.Start) (Γ : Scope) → outer (with_start homes k start Γ) ≡ outer Γ
by_start homes k (c.start_expr x) Γ = refl
by_start homes k (c.start_local ds) Γ = by_locals homes k ds Γ

by_statement : (homes : List Home) (k : ℕ) (x : c.Stm) (Γ : Scope) → outer (with_names homes k x Γ) ≡ outer Γ
by_statement homes k (c.block p xs) Γ = refl
by_statement homes k (c.empty p) Γ = refl
by_statement homes k (c.expression p x) Γ = refl
by_statement homes k (c.if_then p x a) Γ = refl
by_statement homes k (c.if_else p x a b) Γ = refl
by_statement homes k (c.while_loop p x a) Γ = refl
by_statement homes k (c.do_while p a x) Γ = refl
by_statement homes k (c.for_loop p start x y a) Γ = refl
by_statement homes k (c.break p) Γ = refl
by_statement homes k (c.continue p) Γ = refl
by_statement homes k (c.return p x) Γ = refl
by_statement homes k (c.local p ds) Γ = by_locals homes k ds Γ

pub by_statements : (homes : List Home) (k : ℕ) (all : c.Stms) (Γ : Scope) → outer (with_names_of homes k all Γ) ≡ outer Γ
by_statements homes k c.no_stm Γ = refl
by_statements homes k (c.a_stm x rest) Γ = by_statements homes (k + length (variables x)) rest (with_names homes k x Γ) ∙ by_statement homes k x Γ

-- So a scope is closed behind its parts.
pub start_closes : (homes : List Home) (k : ℕ) (start : c.Start) (Γ : Scope) → outer (with_start homes k start (inner Γ)) ≡ Γ
start_closes homes k start Γ = by_start homes k start (inner Γ)

pub statement_closes : (homes : List Home) (x : c.Stm) (Γ : Scope) (at : At) → outer (with_names homes at.variable x (inner Γ)) ≡ Γ
statement_closes homes x Γ at = by_statement homes at.variable x (inner Γ)

pub statements_close : (homes : List Home) (all : c.Stms) (Γ : Scope) (at : At) → outer (with_names_of homes at.variable all (inner Γ)) ≡ Γ
statements_close homes all Γ at = by_statements homes at.variable all (inner Γ)
