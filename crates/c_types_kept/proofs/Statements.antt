-- What a statement that breaks no rule means keeps its rules.
use Rattle.std.proofs.Common.{◌≡◌, ℕ, zero, suc, ◌≤◌, ◌||◌, not, Bool, true, false, ℤ, pos, negsuc, List, [], ◌∷◌, ◌++◌, length, refl, arith, le_refl}
use Rattle.std.specs.Prelude.{unsigned_abs}
use Rattle.std.specs.Int.{int_wrap}
use Rattle.ib_base.specs.declared.integers.Width.{Width}
use Rattle.ib_base.specs.declared.integers.Width.TheVariants.{W1, W4, W8}
use Rattle.ib_base.specs.Integers.{wrapped}
use Rattle.ib_meaning.specs.declared.place.Place.{Place}
use Rattle.c_ast.specs.declared.tree_unit.Length.{Length}
use Rattle.c_ast.specs.declared.tree_unit.Length.TheVariants as n
use Rattle.c_ast.specs.Trees as c
use Rattle.c_typed.specs.declared.types.ValueType.{ValueType}
use Rattle.c_typed.specs.declared.program.Home.{Home}
use Rattle.c_typed.specs.declared.program.Home.TheVariants as h
use Rattle.c_typed.specs.Program.{Program}
use Rattle.c_typed.specs.Tree as t
use Rattle.c_typed.specs.Tree.{Exp, Exps}
use Rattle.c_typed.specs.ValueTypes.{written, is_void}
use Rattle.c_typed.specs.Values.{width_of}
use Rattle.c_layout.specs.declared.shape.Shape.{Shape}
use Rattle.c_layout.specs.declared.shape.Shape.TheVariants.{Scalar, Array}
use Rattle.c_layout.specs.Layout.{Texts}
use Rattle.c_types_homes.specs.Addressed.{declared_in, started_in, variables, variables_of}
use Rattle.c_types_homes.specs.Declarators.{is_bad_length, element_number, shape_of, declared_name, declared_shape, init_of}
use Rattle.c_types_declarators.specs.Declarations.{is_on_void, has_bad_length, declarator_breaches}
use Rattle.c_typed.specs.declared.rule.Rule.TheVariants.{BadType, OutsideALoop, ReturnValue}
use Rattle.c_types_operators.specs.Rules.{Fine}
use Rattle.c_types_operators.specs.Parts.{broken_if}
use Rattle.c_types_operators.specs.Scopes.{Scope, inner}
use Rattle.c_types_expressions.specs.Expressions.{literals, stored_value, tested_value, effect}
use Rattle.c_types_statements.specs.Statements.{At, number, numbered, past, past_test, past_head, literals_maybe, literals_init, literals_decls, literals_start, literals_in, literals_in_all, lives, stored_at, zero_of, first_value, no_first_value, given_stored, stored_first, given_before, as_list, redeclared_in, home_at, test_part, effect_part, with_local, with_locals, with_start, with_names, local, locals, start, returned, loop_only, if_of, if_else_of, while_of, do_of, for_of, before, statement, statements}
use Rattle.c_kept.specs.Kept.{KeepsExp, KeepsExps, KeepsPart, Returns, KeepsStm, KeepsStms}
use Rattle.c_kept.specs.WellFormed.{FormedInit, FormedDecl, FormedDecls, FormedMaybe, FormedStart, FormedStm, FormedStms}
use Rattle.c_types_kept.proofs.Judgements.{differ, by_test, Gives, fine, broken, beside, of_one, of_two, of_two_then, of_three, of_four, second_none, not_so}
use Rattle.c_types_kept.proofs.Types.{IsFirm, firm_value}
use Rattle.c_types_kept.proofs.Operators.{fits_same, Suits, KeepsVariable}
use Rattle.c_types_kept.proofs.Scopes.{KeepsScope, with_variable_kept, inner_kept}
use Rattle.c_types_kept.proofs.Expressions.{tested_kept, stored_value_kept, effect_kept}
use Rattle.c_types_kept.proofs.Room.{Room, room_first, room_second}
use Rattle.c_types_kept.proofs.Homes.{HomeFits, HomesFit, first_fit, second_fit}

pub or_first : (a b : Bool) → (a || b) ≡ false → a ≡ false
or_first true b h = h
or_first false b h = refl

pub or_second : (a b : Bool) → (a || b) ≡ false → b ≡ false
or_second true b h = absurd (differ h)
or_second false b h = h

pub not_false : (b : Bool) → not b ≡ false → b ≡ true
not_false true h = refl
not_false false h = absurd (differ h)

-- ---- what declarators declare

-- its type is not built on `void`, and an array has an element
abbrev pub IsShape : Shape → Type 0
IsShape (Scalar ty) = IsFirm ty
IsShape (Array ty m) = (1 ≤ m) × IsFirm ty

abbrev pub AreShapes : List Shape → Type 0
AreShapes [] = Unit {0}
AreShapes (x ∷ xs) = IsShape x × AreShapes xs

some_value : (x : c.Exp) → 1 ≤ element_number (c.value x)
some_value (c.string q bytes) = omega arith
some_value x = le_refl 1

some_given : (m : ℤ) → is_bad_length m ≡ false → 1 ≤ unsigned_abs m
some_given (pos zero) h = absurd (differ h)
some_given (pos (suc k)) h = omega arith
some_given (negsuc k) h = absurd (differ h)

shape_kept : (ty : ValueType) (m : Length) (init : c.Initial) → IsFirm ty → has_bad_length m init ≡ false → FormedInit init → IsShape (shape_of ty m init)
shape_kept ty n.Scalar init firm good formed = firm
shape_kept ty n.Missing c.no_init firm good formed = absurd (differ good)
shape_kept ty n.Missing (c.value x) firm good formed = (some_value x, firm)
shape_kept ty n.Missing (c.elements xs) firm good formed = (formed.0, firm)
shape_kept ty (n.Given m long) init firm good formed = (by_test (λ k. 1 ≤ k) (is_bad_length m) 1 (unsigned_abs m) (λ _. le_refl 1) (some_given m), firm)

pub declared_kept : (d : c.Decl) → declarator_breaches d ≡ [] → FormedDecl d → IsShape (declared_shape d)
declared_kept (c.declarator q ty name m init) none formed =
    let good = not_so (is_on_void (written ty) || has_bad_length m init) BadType q none in
    shape_kept (written ty) m init (or_first (is_on_void (written ty)) (has_bad_length m init) good) (or_second (is_on_void (written ty)) (has_bad_length m init) good) formed

zero_lies : (w : Width) → wrapped w (pos 0) ≡ pos 0
unfolding int_wrap
zero_lies W1 = refl
zero_lies W4 = refl
zero_lies W8 = refl

-- In a function of a program whose slots have these types, and whose frame has so many bytes.
module _ (p : Program) (kinds : List ValueType) (frame : ℕ) where
  abbrev strings : ℕ
  strings = length p.strings

  pub home_kept : (shape : Shape) (home : Home) → HomeFits kinds frame home shape → IsShape shape → KeepsVariable p kinds shape (lives home)
  home_kept (Scalar ty) (h.Slot k) f g = (f, g)
  home_kept (Scalar ty) (h.Frame offset) f g = (tt, g)
  home_kept (Array ty m) (h.Slot k) f g = (f, g.1)
  home_kept (Array ty m) (h.Frame offset) f g = (tt, g.0, g.1)

  given_keeps : (x : t.Maybe) (xs : Exps) → KeepsPart p kinds x → KeepsExps p kinds xs → KeepsExps p kinds (given_before x xs)
  given_keeps t.missing xs g h = h
  given_keeps (t.given x) xs g h = (g, h)

  test_part_kept : (Γ : Scope) (n : Texts) (x : c.Maybe) → KeepsScope p kinds Γ → FormedMaybe x → Room strings n (literals_maybe x) → Gives (KeepsPart p kinds) (test_part Γ n x)
  test_part_kept Γ n c.missing g f r = fine tt
  test_part_kept Γ n (c.given x) g f r = of_one t.given (tested_value Γ n x) (tested_kept p kinds Γ n x g f r) (λ y k. k)

  effect_part_kept : (Γ : Scope) (n : Texts) (x : c.Maybe) → KeepsScope p kinds Γ → FormedMaybe x → Room strings n (literals_maybe x) → Gives (KeepsPart p kinds) (effect_part Γ n x)
  effect_part_kept Γ n c.missing g f r = fine tt
  effect_part_kept Γ n (c.given x) g f r = of_one t.given (effect Γ n x) (effect_kept p kinds Γ n x g f r) (λ y k. k)

  -- ---- declarations

  zero_kept : (ty : ValueType) → Suits p kinds ty (zero_of ty)
  zero_kept ty = record { keeps = zero_lies (width_of ty); wide = refl }

  first_kept : (Γ : Scope) (n : Texts) (q : Place) (ty : ValueType) (init : c.Initial) → KeepsScope p kinds Γ → FormedInit init → Room strings n (literals_init init) → Gives (Suits p kinds ty) (first_value Γ n q ty init)
  first_kept Γ n q ty c.no_init g f r = fine (zero_kept ty)
  first_kept Γ n q ty (c.value e) g f r = stored_value_kept p kinds Γ n ty e g f r
  first_kept Γ n q ty (c.elements xs) g f r = broken

  stored_keeps : (ty : ValueType) (home : Home) (x : Exp) → HomeFits kinds frame home (Scalar ty) → IsFirm ty → Suits p kinds ty x → KeepsExp p kinds (stored_at ty home x)
  stored_keeps ty (h.Slot k) x f g s = (f, s.keeps, fits_same ty x s.wide)
  stored_keeps ty (h.Frame offset) x f g s = (tt, s.keeps, firm_value ty g, fits_same ty x s.wide)

  none_kept : (Γ : Scope) (n : Texts) (q : Place) (init : c.Initial) → Gives (KeepsPart p kinds) (no_first_value Γ n q init)
  none_kept Γ n q c.no_init = fine tt
  none_kept Γ n q (c.value e) = broken
  none_kept Γ n q (c.elements xs) = broken

  stored_first_kept : (Γ : Scope) (n : Texts) (q : Place) (shape : Shape) (home : Home) (init : c.Initial) → KeepsScope p kinds Γ → HomeFits kinds frame home shape → IsShape shape → FormedInit init → Room strings n (literals_init init) → Gives (KeepsPart p kinds) (stored_first Γ n q shape home init)
  stored_first_kept Γ n q (Scalar ty) home init g f s formed r = of_one (given_stored ty home) (first_value Γ n q ty init) (first_kept Γ n q ty init g formed r) (λ x k. stored_keeps ty home x f s k)
  stored_first_kept Γ n q (Array ty m) home init g f s formed r = none_kept Γ n q init

  module _ (homes : List Home) where
    abbrev Fit : ℕ → List Shape → Type 0
    Fit k shapes = HomesFit kinds frame homes k shapes

    with_local_kept : (k : ℕ) (d : c.Decl) (Γ : Scope) → KeepsScope p kinds Γ → HomeFits kinds frame (home_at homes k) (declared_shape d) → IsShape (declared_shape d) → KeepsScope p kinds (with_local homes k d Γ)
    with_local_kept k d Γ g f s = with_variable_kept p kinds (declared_name d) (record { shape = declared_shape d; lives = lives (home_at homes k) }) Γ g (home_kept (declared_shape d) (home_at homes k) f s)

    with_locals_kept : (k : ℕ) (ds : List c.Decl) (Γ : Scope) → KeepsScope p kinds Γ → Fit k (declared_in ds) → AreShapes (declared_in ds) → KeepsScope p kinds (with_locals homes k ds Γ)
    with_locals_kept k [] Γ g f s = g
    with_locals_kept k (d ∷ ds) Γ g f s = with_locals_kept (suc k) ds (with_local homes k d Γ) (with_local_kept k d Γ g f.0 s.0) f.1 s.1

    with_start_kept : (k : ℕ) (st : c.Start) (Γ : Scope) → KeepsScope p kinds Γ → Fit k (started_in st) → AreShapes (started_in st) → KeepsScope p kinds (with_start homes k st Γ)
    with_start_kept k (c.start_expr x) Γ g f s = g
    with_start_kept k (c.start_local ds) Γ g f s = with_locals_kept k ds Γ g f s

    local_kept : (Γ : Scope) (k : ℕ) (n : Texts) (d : c.Decl) → KeepsScope p kinds Γ → HomeFits kinds frame (home_at homes k) (declared_shape d) → FormedDecl d → Room strings n (literals_init (init_of d)) → Gives (λ x. KeepsPart p kinds x × IsShape (declared_shape d)) (local homes Γ k n d)
    local_kept Γ k n (c.declarator q ty name m init) g f formed r =
        let d = c.declarator q ty name m init in
        beside (redeclared_in Γ name q ++ declarator_breaches d) (stored_first (with_local homes k d Γ) n q (declared_shape d) (home_at homes k) init) (λ none.
        let s = declared_kept d (second_none (redeclared_in Γ name q) (declarator_breaches d) none) formed in
        let stored = stored_first_kept (with_local homes k d Γ) n q (declared_shape d) (home_at homes k) init (with_local_kept k d Γ g f s) f s formed r in
        record { by = λ x is. (stored.by x is, s) })

    locals_kept : (Γ : Scope) (k : ℕ) (n : Texts) (ds : List c.Decl) → KeepsScope p kinds Γ → Fit k (declared_in ds) → FormedDecls ds → Room strings n (literals_decls ds) → Gives (λ xs. KeepsExps p kinds xs × AreShapes (declared_in ds)) (locals homes Γ k n ds)
    locals_kept Γ k n [] g f formed r = fine (tt, tt)
    locals_kept Γ k n (d ∷ ds) g f formed r =
        of_two_then given_before (local homes Γ k n d) (locals homes (with_local homes k d Γ) (suc k) (n ++ literals_init (init_of d)) ds)
        (local_kept Γ k n d g f.0 formed.0 (room_first strings n (literals_init (init_of d)) (literals_decls ds) r))
        (λ x a. locals_kept (with_local homes k d Γ) (suc k) (n ++ literals_init (init_of d)) ds (with_local_kept k d Γ g f.0 a.1) f.1 formed.1 (room_second strings n (literals_init (init_of d)) (literals_decls ds) r))
        (λ x xs a b. (given_keeps x xs a.0 b.0, (a.1, b.1)))

    start_kept : (Γ : Scope) (k : ℕ) (n : Texts) (st : c.Start) → KeepsScope p kinds Γ → Fit k (started_in st) → FormedStart st → Room strings n (literals_start st) → Gives (λ xs. KeepsExps p kinds xs × AreShapes (started_in st)) (start homes Γ k n st)
    start_kept Γ k n (c.start_expr x) g f formed r = of_one as_list (effect_part Γ n x) (effect_part_kept Γ n x g formed r) (λ y a. (given_keeps y t.no_exp a tt, tt))
    start_kept Γ k n (c.start_local ds) g f formed r = locals_kept Γ k n ds g f formed r

    -- what a statement declares for those behind it
    abbrev Behind : c.Stm → Type 0
    Behind (c.local q ds) = AreShapes (declared_in ds)
    Behind s = Unit {0}

    with_names_kept : (k : ℕ) (s : c.Stm) (Γ : Scope) → KeepsScope p kinds Γ → Fit k (variables s) → Behind s → KeepsScope p kinds (with_names homes k s Γ)
    with_names_kept k (c.local q ds) Γ g f b = with_locals_kept k ds Γ g f b
    with_names_kept k s Γ g f b = g

    module _ (result : ValueType) where
      returned_kept : (Γ : Scope) (n : Texts) (q : Place) (x : c.Maybe) → KeepsScope p kinds Γ → FormedMaybe x → Room strings n (literals_maybe x) → Gives (Returns p kinds result) (returned result Γ n q x)
      returned_kept Γ n q c.missing g f r = beside (broken_if (not (is_void result)) ReturnValue q) (Fine t.missing) (λ none. fine tt)
      returned_kept Γ n q (c.given x) g f r = by_test (Gives (Returns p kinds result)) (is_void result) _ _ (λ _. broken) (λ _. of_one t.given (stored_value Γ n result x) (stored_value_kept p kinds Γ n result x g f r) (λ y k. (k.keeps, fits_same result y k.wide)))

      loop_kept : (loops : Bool) (q : Place) (s : t.Stm) (P : t.Stm → Type 0) → (loops ≡ true → P s) → Gives P (loop_only loops q s)
      loop_kept loops q s P each = beside (broken_if (not loops) OutsideALoop q) (Fine s) (λ none. fine (each (not_false loops (not_so (not loops) OutsideALoop q none))))

      mutual
        pub statement_kept : (Γ : Scope) (at : At) (loops : Bool) (s : c.Stm) → KeepsScope p kinds Γ → Fit at.variable (variables s) → FormedStm s → Room strings at.texts (literals_in s) → Gives (λ x. KeepsStm p kinds result loops x × Behind s) (statement result homes Γ at loops s)
        statement_kept Γ at loops (c.block q xs) g f formed r = of_one t.block (statements result homes (inner Γ) at loops xs) (statements_kept (inner Γ) at loops xs (inner_kept p kinds Γ g) f formed r) (λ y k. (k, tt))
        statement_kept Γ at loops (c.empty q) g f formed r = fine (tt, tt)
        statement_kept Γ at loops (c.expression q x) g f formed r = of_one (t.expression (number at)) (effect Γ at.texts x) (effect_kept p kinds Γ at.texts x g formed r) (λ y k. (k, tt))
        statement_kept Γ at loops (c.if_then q x a) g f formed r =
            of_two (if_of (number at)) (tested_value Γ at.texts x) (statement result homes (inner Γ) (past_test q x at) loops a)
            (tested_kept p kinds Γ at.texts x g formed.0 (room_first strings at.texts (literals x) (literals_in a) r))
            (statement_kept (inner Γ) (past_test q x at) loops a (inner_kept p kinds Γ g) f formed.1 (room_second strings at.texts (literals x) (literals_in a) r))
            (λ y z k l. ((k, l.0), tt))
        statement_kept Γ at loops (c.if_else q x a b) g f formed r =
            let later = room_second strings at.texts (literals x) (literals_in a ++ literals_in b) r in
            of_three (if_else_of (number at)) (tested_value Γ at.texts x) (statement result homes (inner Γ) (past_test q x at) loops a) (statement result homes (inner Γ) (past a (past_test q x at)) loops b)
            (tested_kept p kinds Γ at.texts x g formed.0 (room_first strings at.texts (literals x) (literals_in a ++ literals_in b) r))
            (statement_kept (inner Γ) (past_test q x at) loops a (inner_kept p kinds Γ g) (first_fit kinds frame homes at.variable (variables a) (variables b) f) formed.1 (room_first strings (at.texts ++ literals x) (literals_in a) (literals_in b) later))
            (statement_kept (inner Γ) (past a (past_test q x at)) loops b (inner_kept p kinds Γ g) (second_fit kinds frame homes at.variable (variables a) (variables b) f) formed.2 (room_second strings (at.texts ++ literals x) (literals_in a) (literals_in b) later))
            (λ y z w k l m. ((k, l.0, m.0), tt))
        statement_kept Γ at loops (c.while_loop q x a) g f formed r =
            of_two (while_of (number at)) (tested_value Γ at.texts x) (statement result homes (inner Γ) (past_test q x at) true a)
            (tested_kept p kinds Γ at.texts x g formed.0 (room_first strings at.texts (literals x) (literals_in a) r))
            (statement_kept (inner Γ) (past_test q x at) true a (inner_kept p kinds Γ g) f formed.1 (room_second strings at.texts (literals x) (literals_in a) r))
            (λ y z k l. ((k, l.0), tt))
        statement_kept Γ at loops (c.do_while q a x) g f formed r =
            of_two (do_of (number at)) (statement result homes (inner Γ) (numbered q at) true a) (tested_value Γ (at.texts ++ literals_in a) x)
            (statement_kept (inner Γ) (numbered q at) true a (inner_kept p kinds Γ g) f formed.0 (room_first strings at.texts (literals_in a) (literals x) r))
            (tested_kept p kinds Γ (at.texts ++ literals_in a) x g formed.1 (room_second strings at.texts (literals_in a) (literals x) r))
            (λ y z k l. ((k.0, l), tt))
        statement_kept Γ at loops (c.for_loop q st x y a) g f formed r =
            let inside = with_start homes at.variable st (inner Γ) in
            let of_start = first_fit kinds frame homes at.variable (started_in st) (variables a) f in
            let first = room_first strings at.texts (literals_start st) (literals_maybe x ++ (literals_maybe y ++ literals_in a)) r in
            let behind_start = room_second strings at.texts (literals_start st) (literals_maybe x ++ (literals_maybe y ++ literals_in a)) r in
            let behind_test = room_second strings (at.texts ++ literals_start st) (literals_maybe x) (literals_maybe y ++ literals_in a) behind_start in
            of_four (for_of (number at)) (start homes (inner Γ) at.variable at.texts st) (test_part inside (at.texts ++ literals_start st) x) (effect_part inside (at.texts ++ literals_start st ++ literals_maybe x) y) (statement result homes (inner inside) (past_head q st x y at) true a)
            (start_kept (inner Γ) at.variable at.texts st (inner_kept p kinds Γ g) of_start formed.0 first)
            (λ b k. test_part_kept inside (at.texts ++ literals_start st) x (with_start_kept at.variable st (inner Γ) (inner_kept p kinds Γ g) of_start k.1) formed.1 (room_first strings (at.texts ++ literals_start st) (literals_maybe x) (literals_maybe y ++ literals_in a) behind_start))
            (λ b k. effect_part_kept inside (at.texts ++ literals_start st ++ literals_maybe x) y (with_start_kept at.variable st (inner Γ) (inner_kept p kinds Γ g) of_start k.1) formed.2 (room_first strings (at.texts ++ literals_start st ++ literals_maybe x) (literals_maybe y) (literals_in a) behind_test))
            (λ b k. statement_kept (inner inside) (past_head q st x y at) true a (inner_kept p kinds inside (with_start_kept at.variable st (inner Γ) (inner_kept p kinds Γ g) of_start k.1)) (second_fit kinds frame homes at.variable (started_in st) (variables a) f) formed.3 (room_second strings (at.texts ++ literals_start st ++ literals_maybe x) (literals_maybe y) (literals_in a) behind_test))
            (λ b c d e k l m o. ((k.0, l, m, o.0), tt))
        statement_kept Γ at loops (c.break q) g f formed r = loop_kept loops q (t.break (number at)) (λ x. KeepsStm p kinds result loops x × Unit {0}) (λ e. (e, tt))
        statement_kept Γ at loops (c.continue q) g f formed r = loop_kept loops q (t.continue (number at)) (λ x. KeepsStm p kinds result loops x × Unit {0}) (λ e. (e, tt))
        statement_kept Γ at loops (c.return q x) g f formed r = of_one (t.return (number at)) (returned result Γ at.texts q x) (returned_kept Γ at.texts q x g formed r) (λ y k. (k, tt))
        statement_kept Γ at loops (c.local q ds) g f formed r = of_one (t.local (number at)) (locals homes Γ at.variable at.texts ds) (locals_kept Γ at.variable at.texts ds g f formed r) (λ y k. k)

        pub statements_kept : (Γ : Scope) (at : At) (loops : Bool) (xs : c.Stms) → KeepsScope p kinds Γ → Fit at.variable (variables_of xs) → FormedStms xs → Room strings at.texts (literals_in_all xs) → Gives (KeepsStms p kinds result loops) (statements result homes Γ at loops xs)
        statements_kept Γ at loops c.no_stm g f formed r = fine tt
        statements_kept Γ at loops (c.a_stm s rest) g f formed r =
            of_two_then before (statement result homes Γ at loops s) (statements result homes (with_names homes at.variable s Γ) (past s at) loops rest)
            (statement_kept Γ at loops s g (first_fit kinds frame homes at.variable (variables s) (variables_of rest) f) formed.0 (room_first strings at.texts (literals_in s) (literals_in_all rest) r))
            (λ x k. statements_kept (with_names homes at.variable s Γ) (past s at) loops rest (with_names_kept at.variable s Γ g (first_fit kinds frame homes at.variable (variables s) (variables_of rest) f) k.1) (second_fit kinds frame homes at.variable (variables s) (variables_of rest) f) formed.1 (room_second strings at.texts (literals_in s) (literals_in_all rest) r))
            (λ x xs k l. (k.0, l))
