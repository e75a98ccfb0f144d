-- What a file that breaks no rule means keeps its rules.
use Rattle.std.proofs.Common.{◌≡◌, ℕ, suc, ◌+◌, ◌<◌, ◌≤◌, not, true, List, [], ◌∷◌, ◌++◌, length, refl, sym, ap, subst, arith, le_refl, length-append}
use Rattle.c_ast.specs.Trees as c
use Rattle.c_typed.specs.declared.types.ValueType.{ValueType}
use Rattle.c_typed.specs.declared.expr.Storage.TheVariants.{Global}
use Rattle.c_typed.specs.declared.rule.Rule.TheVariants.{WrongSignature}
use Rattle.c_typed.specs.Program.{Program}
use Rattle.c_typed.specs.Tree as t
use Rattle.c_scopes.specs.Scopes as s
use Rattle.c_layout.specs.declared.shape.Shape.{Shape}
use Rattle.c_layout.specs.declared.shape.Shape.TheVariants.{Scalar, Array}
use Rattle.c_layout.specs.Layout.{Texts}
use Rattle.c_types_homes.specs.Addressed.{declared_in}
use Rattle.c_types_homes.specs.Declarators.{declared_name, declared_place, declared_shape, init_of}
use Rattle.c_types_operators.specs.declared.scope.Lives.TheVariants.{InMemory}
use Rattle.c_types_operators.specs.Rules.{Fine}
use Rattle.c_types_operators.specs.Parts.{broken_if, ◌<*>◌}
use Rattle.c_types_operators.specs.Scopes as scope
use Rattle.c_types_operators.specs.Scopes.{Scope}
use Rattle.c_types_declarators.specs.Declarations.{declarator_breaches}
use Rattle.c_types_statements.specs.Statements.{At, literals_in_all}
use Rattle.c_types_initial.specs.Constants.{shape_data}
use Rattle.c_types_functions.specs.Functions.{Head, head_of, head_breaches, bodies, prototypes, is_good_prototype}
use Rattle.c_types_units.specs.Units.{with_global, with_globals, global_texts, globals_texts, a_global, global, globals, function, Parts, no_parts, one_function, only_globals, joined, with_item, past_item, past_items, prototype, item, items}
use Rattle.c_kept.specs.Kept.{KeepsFunction}
use Rattle.c_kept.specs.WellFormed.{FormedDecls, FormedUnit}
use Rattle.c_types_kept.proofs.Judgements.{Gives, fine, beside, of_one, of_two, of_two_then, first_none, not_so}
use Rattle.c_types_kept.proofs.Operators.{KeepsVariable}
use Rattle.c_types_kept.proofs.Scopes.{KeepsScope, with_variable_kept}
use Rattle.c_types_kept.proofs.Statements.{IsShape, AreShapes, declared_kept, not_false}
use Rattle.c_types_kept.proofs.Names.{AreGood, AreMade, made_join}
use Rattle.c_types_kept.proofs.Functions.{function_kept, function_made}

-- ---- globals

global_shape : (Γ : Scope) (k : ℕ) (n : Texts) (d : c.Decl) → FormedDecls (d ∷ []) → Gives (λ g. IsShape (declared_shape d)) (global Γ k n d)
global_shape Γ k n d formed =
    beside (declarator_breaches d) (Fine (a_global (declared_shape d)) <*> shape_data (with_global k d Γ) n (declared_place d) (declared_shape d) (init_of d)) (λ none.
    record { by = λ g is. declared_kept d none formed.0 })

-- the globals of a declaration are as many as its declarators
globals_made : (Γ : Scope) (k : ℕ) (n : Texts) (ds : List c.Decl) → FormedDecls ds → Gives (λ gs. AreShapes (declared_in ds) × (length gs ≡ length ds)) (globals Γ k n ds)
globals_made Γ k n [] formed = fine (tt, refl)
globals_made Γ k n (d ∷ ds) formed =
    of_two ◌∷◌ (global Γ k n d) (globals (with_global k d Γ) (suc k) (n ++ global_texts d) ds) (global_shape Γ k n d (formed.0, tt)) (globals_made (with_global k d Γ) (suc k) (n ++ global_texts d) ds formed.1)
    (λ g gs a b. ((a, b.0), ap suc b.1))

-- ---- what is made of items, function by function

-- The functions are made of the bodies' heads, prototypes are good, and so many globals are declared.
pub record AllMade (bodied : s.Scope scope.Function) (items : List c.Top) (before after : ℕ) (parts : Parts) : Type 0 where
  pub functions : AreMade (bodies items) parts.functions
  pub prototypes : AreGood bodied (prototypes items)
  pub globals : before + length parts.globals ≡ after

module _ (bodied : s.Scope scope.Function) where
  prototype_made : (head : Head) → Gives (λ parts. (is_good_prototype bodied head ≡ true) × (parts ≡ no_parts)) (prototype bodied head)
  prototype_made head =
      beside (broken_if (not (is_good_prototype bodied head)) WrongSignature head.place ++ head_breaches head) (Fine no_parts) (λ none.
      fine (not_false (is_good_prototype bodied head) (not_so (not (is_good_prototype bodied head)) WrongSignature head.place (first_none (broken_if (not (is_good_prototype bodied head)) WrongSignature head.place) (head_breaches head) none)), refl))

  one_made : (Γ : Scope) (at : At) (head : Head) (xs : c.Stms) → Gives (λ parts. AreMade (head ∷ []) parts.functions × (length parts.globals ≡ 0)) (Fine one_function <*> function Γ at head xs)
  one_made Γ at head xs = of_one one_function (function Γ at head xs) (function_made Γ at head xs) (λ f h. ((h, tt), refl))

  globals_only : (Γ : Scope) (at : At) (ds : List c.Decl) → FormedDecls ds → Gives (λ parts. (parts.functions ≡ []) × (length parts.globals ≡ length ds) × AreShapes (declared_in ds)) (Fine only_globals <*> globals Γ at.variable at.texts ds)
  globals_only Γ at ds formed = of_one only_globals (globals Γ at.variable at.texts ds) (globals_made Γ at.variable at.texts ds formed) (λ gs h. (refl, h.1, h.0))

  pub all_made : (Γ : Scope) (at : At) (unit : List c.Top) → FormedUnit unit → Gives (AllMade bodied unit at.variable (past_items unit at).variable) (items bodied Γ at unit)
  all_made Γ at [] formed = fine (record { functions = tt; prototypes = tt; globals = omega arith })
  all_made Γ at (c.prototype q ty name params ∷ rest) formed =
      let x = c.prototype q ty name params in
      of_two joined (item bodied Γ at x) (items bodied (with_item at.variable x Γ) (past_item x at) rest) (prototype_made (head_of q ty name params)) (all_made (with_item at.variable x Γ) (past_item x at) rest formed.1)
      (λ a b k l. record {
        functions = subst (λ parts. AreMade (bodies rest) (parts.functions ++ b.functions)) (sym k.1) l.functions;
        prototypes = (k.0, l.prototypes);
        globals = subst (λ parts. at.variable + length (parts.globals ++ b.globals) ≡ (past_items rest at).variable) (sym k.1) l.globals;
      })
  all_made Γ at (c.function q ty name params xs ∷ rest) formed =
      let x = c.function q ty name params xs in
      of_two joined (item bodied Γ at x) (items bodied (with_item at.variable x Γ) (past_item x at) rest) (one_made Γ at (head_of q ty name params) (c.stms xs)) (all_made (with_item at.variable x Γ) (past_item x at) rest formed.1)
      (λ a b k l. record {
        functions = made_join (head_of q ty name params ∷ []) a.functions (bodies rest) b.functions k.0 l.functions;
        prototypes = l.prototypes;
        globals = let long = length-append a.globals b.globals in let none = k.1 in let others = l.globals in omega (arith, long, none, others);
      })
  all_made Γ at (c.variables ds ∷ rest) formed =
      let x = c.variables ds in
      of_two joined (item bodied Γ at x) (items bodied (with_item at.variable x Γ) (past_item x at) rest) (globals_only Γ at ds formed.0) (all_made (with_item at.variable x Γ) (past_item x at) rest formed.1)
      (λ a b k l. record {
        functions = subst (λ fs. AreMade (bodies rest) (fs ++ b.functions)) (sym k.0) l.functions;
        prototypes = l.prototypes;
        globals = let long = length-append a.globals b.globals in let many = k.1 in let others = l.globals in omega (arith, long, many, others);
      })

-- ---- numbers only grow

texts_grow : (unit : List c.Top) (at : At) → length at.texts ≤ length (past_items unit at).texts
texts_grow [] at = le_refl (length at.texts)
texts_grow (c.prototype q ty name params ∷ rest) at = texts_grow rest at
texts_grow (c.function q ty name params xs ∷ rest) at =
    let later = texts_grow rest (past_item (c.function q ty name params xs) at) in
    let long = length-append at.texts (literals_in_all (c.stms xs)) in
    omega (arith, later, long)
texts_grow (c.variables ds ∷ rest) at =
    let later = texts_grow rest (past_item (c.variables ds) at) in
    let long = length-append at.texts (globals_texts ds) in
    omega (arith, later, long)

variables_grow : (unit : List c.Top) (at : At) → at.variable ≤ (past_items unit at).variable
variables_grow [] at = le_refl at.variable
variables_grow (c.prototype q ty name params ∷ rest) at = variables_grow rest at
variables_grow (c.function q ty name params xs ∷ rest) at = variables_grow rest (past_item (c.function q ty name params xs) at)
variables_grow (c.variables ds ∷ rest) at = let later = variables_grow rest (past_item (c.variables ds) at) in omega (arith, later)

-- ---- functions

module _ (p : Program) where
  abbrev pub KeepsFile : Scope → Type 0
  KeepsFile Γ = (kinds : List ValueType) → KeepsScope p kinds Γ

  abbrev pub AreKept : List t.Function → Type 0
  AreKept [] = Unit {0}
  AreKept (f ∷ fs) = (f.frame ≤ 262144 → KeepsFunction p f) × AreKept fs

  kept_join : (fs gs : List t.Function) → AreKept fs → AreKept gs → AreKept (fs ++ gs)
  kept_join [] gs h k = k
  kept_join (f ∷ fs) gs h k = (h.0, kept_join fs gs h.1 k)

  global_kept : (kinds : List ValueType) (k : ℕ) (shape : Shape) → k < length p.globals → IsShape shape → KeepsVariable p kinds shape (InMemory (Global k))
  global_kept kinds k (Scalar ty) lt h = (lt, h)
  global_kept kinds k (Array ty m) lt h = (lt, h.0, h.1)

  with_globals_kept : (kinds : List ValueType) (k : ℕ) (ds : List c.Decl) (Γ : Scope) → KeepsScope p kinds Γ → AreShapes (declared_in ds) → k + length ds ≤ length p.globals → KeepsScope p kinds (with_globals k ds Γ)
  with_globals_kept kinds k [] Γ g h le = g
  with_globals_kept kinds k (d ∷ ds) Γ g h le =
      with_globals_kept kinds (suc k) ds (with_global k d Γ)
      (with_variable_kept p kinds (declared_name d) (record { shape = declared_shape d; lives = InMemory (Global k) }) Γ g (global_kept kinds k (declared_shape d) (omega (arith, le)) h.0)) h.1 (omega (arith, le))

  one_kept : (Γ : Scope) (at : At) (head : Head) (xs : c.Stms) → Gives (λ f. f.frame ≤ 262144 → KeepsFunction p f) (function Γ at head xs) → Gives (λ parts. AreKept parts.functions) (Fine one_function <*> function Γ at head xs)
  one_kept Γ at head xs h = of_one one_function (function Γ at head xs) h (λ f k. (k, tt))

  module _ (bodied : s.Scope scope.Function) where
    pub all_kept : (Γ : Scope) (at : At) (unit : List c.Top) → KeepsFile Γ → FormedUnit unit → length (past_items unit at).texts ≤ length p.strings → (past_items unit at).variable ≤ length p.globals → Gives (λ parts. AreKept parts.functions) (items bodied Γ at unit)
    all_kept Γ at [] g formed texts many = fine tt
    all_kept Γ at (c.prototype q ty name params ∷ rest) g formed texts many =
        let x = c.prototype q ty name params in
        of_two joined (item bodied Γ at x) (items bodied (with_item at.variable x Γ) (past_item x at) rest) (prototype_made bodied (head_of q ty name params)) (all_kept (with_item at.variable x Γ) (past_item x at) rest g formed.1 texts many)
        (λ a b k l. subst (λ parts. AreKept (parts.functions ++ b.functions)) (sym k.1) l)
    all_kept Γ at (c.function q ty name params xs ∷ rest) g formed texts many =
        let x = c.function q ty name params xs in
        let head = head_of q ty name params in
        let later = texts_grow rest (past_item x at) in
        of_two joined (item bodied Γ at x) (items bodied (with_item at.variable x Γ) (past_item x at) rest)
        (one_kept Γ at head (c.stms xs) (function_kept p Γ at head (c.stms xs) g formed.0.1 (omega (arith, later, texts))))
        (all_kept (with_item at.variable x Γ) (past_item x at) rest g formed.1 texts many) (λ a b k l. kept_join a.functions b.functions k l)
    all_kept Γ at (c.variables ds ∷ rest) g formed texts many =
        let x = c.variables ds in
        let later = variables_grow rest (past_item x at) in
        of_two_then joined (item bodied Γ at x) (items bodied (with_item at.variable x Γ) (past_item x at) rest)
        (globals_only bodied Γ at ds formed.0)
        (λ a k. all_kept (with_item at.variable x Γ) (past_item x at) rest (λ kinds. with_globals_kept kinds at.variable ds Γ (g kinds) k.2 (omega (arith, later, many))) formed.1 texts many)
        (λ a b k l. subst (λ fs. AreKept (fs ++ b.functions)) (sym k.0) l)
