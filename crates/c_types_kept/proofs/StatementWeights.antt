-- What a file means has at most four nodes for each of its own, and its functions set the slots that they have.
use Rattle.std.proofs.Common.{◌≡◌, ℕ, suc, ◌+◌, ◌*◌, ◌≤◌, not, Bool, true, false, cond, List, [], ◌∷◌, ◌++◌, length, map, refl, ap, arith, le_refl}
use Rattle.std.specs.List.{All}
use Rattle.std.proofs.lemmas.List.Elements.{All-nil, All-cons}
use Rattle.ib_meaning.specs.declared.place.Place.{Place}
use Rattle.c_ast.specs.Trees as c
use Rattle.c_typed.specs.declared.types.ValueType.{ValueType}
use Rattle.c_typed.specs.declared.program.Home.{Home}
use Rattle.c_typed.specs.declared.program.Home.TheVariants as h
use Rattle.c_typed.specs.declared.rule.Rule.TheVariants.{OutsideALoop, ReturnValue, WrongSignature}
use Rattle.c_typed.specs.Tree as t
use Rattle.c_typed.specs.Tree.{Exp, Exps}
use Rattle.c_typed.specs.ValueTypes.{is_void}
use Rattle.c_scopes.specs.Scopes as s
use Rattle.c_layout.specs.declared.shape.Shape.{Shape}
use Rattle.c_layout.specs.declared.shape.Shape.TheVariants.{Scalar, Array}
use Rattle.c_layout.specs.Layout.{Texts}
use Rattle.c_program.specs.Nodes.{nodes, nodes_maybe, nodes_init, nodes_decl, nodes_decls, nodes_start, nodes_in, nodes_in_all, nodes_item, nodes_unit}
use Rattle.c_types_homes.specs.Addressed.{declared_in, started_in, variables, variables_of, param_shape, function_variables, function_taken}
use Rattle.c_types_homes.specs.Declarators.{declared_shape, init_of}
use Rattle.c_types_homes.specs.Homes.{is_in_frame, none_given, function_homes}
use Rattle.c_types_declarators.specs.Declarations.{declarator_breaches}
use Rattle.c_types_operators.specs.Rules.{Fine}
use Rattle.c_types_operators.specs.Parts.{broken_if, ◌<*>◌}
use Rattle.c_types_operators.specs.Scopes as scope
use Rattle.c_types_operators.specs.Scopes.{Scope, inner}
use Rattle.c_types_expressions.specs.Expressions.{stored_value, tested_value, effect}
use Rattle.c_types_statements.specs.Statements.{At, number, numbered, past, past_test, past_head, literals_maybe, literals_init, literals_start, literals_in, stored_at, first_value, no_first_value, given_stored, stored_first, given_before, as_list, redeclared_in, home_at, test_part, effect_part, with_local, with_start, with_names, local, locals, start, returned, if_of, if_else_of, while_of, do_of, for_of, before, statement, statements}
use Rattle.c_types_functions.specs.Functions.{Head, head_of, head_breaches, has_unnamed, is_good_prototype}
use Rattle.c_types_units.specs.Units.{with_params, body, a_function, function, Parts, no_parts, one_function, only_globals, joined, with_item, past_item, globals, item, items}
use Rattle.c_kept.specs.Weights.{weight, weights, weight_part, weight_stm, weight_stms, weight_function, weight_functions}
use Rattle.c_types_kept.proofs.Judgements.{by_test, by_cases, Gives, fine, broken, beside, of_one, of_two, of_three, of_four}
use Rattle.c_types_kept.proofs.Homes.{slot_types, slots_counted}
use Rattle.c_types_kept.proofs.Functions.{typed_length}
use Rattle.c_types_kept.proofs.Numbers.{anything}
use Rattle.c_types_kept.proofs.ExpressionWeights.{tested_light, stored_value_light, effect_light}

-- the variables that may have a slot
abbrev pub scalars : List Shape → ℕ
scalars [] = 0
scalars (Scalar ty ∷ xs) = suc (scalars xs)
scalars (Array ty n ∷ xs) = scalars xs

scalars_join : (xs ys : List Shape) → scalars (xs ++ ys) ≡ scalars xs + scalars ys
scalars_join [] ys = omega arith
scalars_join (Scalar ty ∷ xs) ys = let rest = scalars_join xs ys in omega (arith, rest)
scalars_join (Array ty n ∷ xs) ys = scalars_join xs ys

scalar_params : (xs : List c.Par) → scalars (map param_shape xs) ≡ length xs
scalar_params [] = refl
scalar_params (x ∷ xs) = ap suc (scalar_params xs)

few_slots : (taken : List ℕ) (k : ℕ) (xs : List Shape) → length (slot_types taken k xs) ≤ scalars xs
few_slots taken k [] = le_refl 0
few_slots taken k (Scalar ty ∷ xs) =
    let rest = few_slots taken (suc k) xs in
    by_cases (λ b. length (cond b (slot_types taken (suc k) xs) (ty ∷ slot_types taken (suc k) xs)) ≤ suc (scalars xs)) (omega (arith, rest)) (omega (arith, rest)) (is_in_frame taken k (Scalar ty))
few_slots taken k (Array ty n ∷ xs) = few_slots taken (suc k) xs

-- ---- declarations

-- at most four nodes for each of so many, and a node for each of so many scalars
abbrev Lasts : (m few n : ℕ) → Type 0
Lasts m few n = (n ≤ 4 * m) × (few ≤ n)

abbrev PartLight : ℕ → t.Maybe → Type 0
PartLight m x = weight_part x ≤ 4 * m

test_part_light : (Γ : Scope) (n : Texts) (x : c.Maybe) → Gives (PartLight (nodes_maybe x)) (test_part Γ n x)
test_part_light Γ n c.missing = fine (omega arith)
test_part_light Γ n (c.given x) = of_one t.given (tested_value Γ n x) (tested_light Γ n x) (λ y k. omega (arith, k))

effect_part_light : (Γ : Scope) (n : Texts) (x : c.Maybe) → Gives (PartLight (nodes_maybe x)) (effect_part Γ n x)
effect_part_light Γ n c.missing = fine (omega arith)
effect_part_light Γ n (c.given x) = of_one t.given (effect Γ n x) (effect_light Γ n x) (λ y k. k)

first_light : (Γ : Scope) (n : Texts) (q : Place) (ty : ValueType) (init : c.Initial) → Gives (λ x. weight x ≤ suc (4 * nodes_init init)) (first_value Γ n q ty init)
first_light Γ n q ty c.no_init = fine (omega arith)
first_light Γ n q ty (c.value e) = let h = stored_value_light Γ n ty e in record { by = λ x is. let l = h.by x is in omega (arith, l) }
first_light Γ n q ty (c.elements xs) = broken

stored_at_light : (m : ℕ) (ty : ValueType) (home : Home) (x : Exp) → weight x ≤ suc (4 * m) → Lasts (suc m) 1 (weight (stored_at ty home x))
stored_at_light m ty (h.Slot k) x l = (omega (arith, l), omega arith)
stored_at_light m ty (h.Frame offset) x l = (omega (arith, l), omega arith)

none_light : (Γ : Scope) (n : Texts) (q : Place) (m : ℕ) (init : c.Initial) → Gives (λ x. Lasts m 0 (weight_part x)) (no_first_value Γ n q init)
none_light Γ n q m c.no_init = fine (omega arith, omega arith)
none_light Γ n q m (c.value e) = broken
none_light Γ n q m (c.elements xs) = broken

stored_first_light : (Γ : Scope) (n : Texts) (q : Place) (shape : Shape) (home : Home) (init : c.Initial) → Gives (λ x. Lasts (suc (nodes_init init)) (scalars (shape ∷ [])) (weight_part x)) (stored_first Γ n q shape home init)
stored_first_light Γ n q (Scalar ty) home init = of_one (given_stored ty home) (first_value Γ n q ty init) (first_light Γ n q ty init) (λ x k. stored_at_light (nodes_init init) ty home x k)
stored_first_light Γ n q (Array ty m) home init = none_light Γ n q (suc (nodes_init init)) init

before_weight : (x : t.Maybe) (xs : Exps) → weights (given_before x xs) ≡ weight_part x + weights xs
before_weight t.missing xs = omega arith
before_weight (t.given x) xs = refl

one_scalar : (shape : Shape) (xs : List Shape) → scalars (shape ∷ xs) ≡ scalars (shape ∷ []) + scalars xs
one_scalar (Scalar ty) xs = omega arith
one_scalar (Array ty n) xs = omega arith

module _ (homes : List Home) where
  local_light : (Γ : Scope) (k : ℕ) (n : Texts) (d : c.Decl) → Gives (λ x. Lasts (nodes_decl d) (scalars (declared_shape d ∷ [])) (weight_part x)) (local homes Γ k n d)
  local_light Γ k n (c.declarator q ty name m init) =
      let d = c.declarator q ty name m init in
      beside (redeclared_in Γ name q ++ declarator_breaches d) (stored_first (with_local homes k d Γ) n q (declared_shape d) (home_at homes k) init) (λ none. stored_first_light (with_local homes k d Γ) n q (declared_shape d) (home_at homes k) init)

  locals_light : (Γ : Scope) (k : ℕ) (n : Texts) (ds : List c.Decl) → Gives (λ xs. Lasts (nodes_decls ds) (scalars (declared_in ds)) (weights xs)) (locals homes Γ k n ds)
  locals_light Γ k n [] = fine (omega arith, omega arith)
  locals_light Γ k n (d ∷ ds) =
      of_two given_before (local homes Γ k n d) (locals homes (with_local homes k d Γ) (suc k) (n ++ literals_init (init_of d)) ds) (local_light Γ k n d) (locals_light (with_local homes k d Γ) (suc k) (n ++ literals_init (init_of d)) ds)
      (λ x xs a b.
      let e = before_weight x xs in
      let f = one_scalar (declared_shape d) (declared_in ds) in
      let a0 = a.0 in let a1 = a.1 in let b0 = b.0 in let b1 = b.1 in
      (omega (arith, e, a0, b0), omega (arith, e, f, a1, b1)))

  start_light : (Γ : Scope) (k : ℕ) (n : Texts) (st : c.Start) → Gives (λ xs. Lasts (nodes_start st) (scalars (started_in st)) (weights xs)) (start homes Γ k n st)
  start_light Γ k n (c.start_expr x) = of_one as_list (effect_part Γ n x) (effect_part_light Γ n x) (λ y a. let e = before_weight y t.no_exp in (omega (arith, e, a), omega arith))
  start_light Γ k n (c.start_local ds) = let d = locals_light Γ k n ds in record { by = λ xs is. let l = d.by xs is in let l0 = l.0 in (omega (arith, l0), l.1) }

  -- ---- statements

  module _ (result : ValueType) where
    returned_light : (Γ : Scope) (n : Texts) (q : Place) (x : c.Maybe) → Gives (PartLight (nodes_maybe x)) (returned result Γ n q x)
    returned_light Γ n q c.missing = beside (broken_if (not (is_void result)) ReturnValue q) (Fine t.missing) (λ none. fine (omega arith))
    returned_light Γ n q (c.given x) = by_test (Gives (PartLight (nodes x))) (is_void result) _ _ (λ _. broken) (λ _. of_one t.given (stored_value Γ n result x) (stored_value_light Γ n result x) (λ y k. k))

    mutual
      statement_light : (Γ : Scope) (at : At) (loops : Bool) (s : c.Stm) → Gives (λ x. Lasts (nodes_in s) (scalars (variables s)) (weight_stm x)) (statement result homes Γ at loops s)
      statement_light Γ at loops (c.block q xs) = of_one t.block (statements result homes (inner Γ) at loops xs) (statements_light (inner Γ) at loops xs) (λ y k. let k0 = k.0 in let k1 = k.1 in (omega (arith, k0), omega (arith, k1)))
      statement_light Γ at loops (c.empty q) = fine (omega arith, omega arith)
      statement_light Γ at loops (c.expression q x) = of_one (t.expression (number at)) (effect Γ at.texts x) (effect_light Γ at.texts x) (λ y k. (omega (arith, k), omega arith))
      statement_light Γ at loops (c.if_then q x a) =
          of_two (if_of (number at)) (tested_value Γ at.texts x) (statement result homes (inner Γ) (past_test q x at) loops a) (tested_light Γ at.texts x) (statement_light (inner Γ) (past_test q x at) loops a)
          (λ y z k l. let l0 = l.0 in let l1 = l.1 in (omega (arith, k, l0), omega (arith, l1)))
      statement_light Γ at loops (c.if_else q x a b) =
          of_three (if_else_of (number at)) (tested_value Γ at.texts x) (statement result homes (inner Γ) (past_test q x at) loops a) (statement result homes (inner Γ) (past a (past_test q x at)) loops b)
          (tested_light Γ at.texts x) (statement_light (inner Γ) (past_test q x at) loops a) (statement_light (inner Γ) (past a (past_test q x at)) loops b)
          (λ y z w k l m. let l0 = l.0 in let l1 = l.1 in let m0 = m.0 in let m1 = m.1 in let e = scalars_join (variables a) (variables b) in (omega (arith, k, l0, m0), omega (arith, e, l1, m1)))
      statement_light Γ at loops (c.while_loop q x a) =
          of_two (while_of (number at)) (tested_value Γ at.texts x) (statement result homes (inner Γ) (past_test q x at) true a) (tested_light Γ at.texts x) (statement_light (inner Γ) (past_test q x at) true a)
          (λ y z k l. let l0 = l.0 in let l1 = l.1 in (omega (arith, k, l0), omega (arith, l1)))
      statement_light Γ at loops (c.do_while q a x) =
          of_two (do_of (number at)) (statement result homes (inner Γ) (numbered q at) true a) (tested_value Γ (at.texts ++ literals_in a) x) (statement_light (inner Γ) (numbered q at) true a) (tested_light Γ (at.texts ++ literals_in a) x)
          (λ y z l k. let l0 = l.0 in let l1 = l.1 in (omega (arith, k, l0), omega (arith, l1)))
      statement_light Γ at loops (c.for_loop q st x y a) =
          let inside = with_start homes at.variable st (inner Γ) in
          let first = start homes (inner Γ) at.variable at.texts st in
          let test = test_part inside (at.texts ++ literals_start st) x in
          let next = effect_part inside (at.texts ++ literals_start st ++ literals_maybe x) y in
          of_four (for_of (number at)) first test next (statement result homes (inner inside) (past_head q st x y at) true a) (start_light (inner Γ) at.variable at.texts st)
          (λ b k. test_part_light inside (at.texts ++ literals_start st) x) (λ b k. effect_part_light inside (at.texts ++ literals_start st ++ literals_maybe x) y) (λ b k. statement_light (inner inside) (past_head q st x y at) true a)
          (λ b c d e k l m o. let k0 = k.0 in let k1 = k.1 in let o0 = o.0 in let o1 = o.1 in let e1 = scalars_join (started_in st) (variables a) in (omega (arith, k0, l, m, o0), omega (arith, e1, k1, o1)))
      statement_light Γ at loops (c.break q) = beside (broken_if (not loops) OutsideALoop q) (Fine (t.break (number at))) (λ none. fine (omega arith, omega arith))
      statement_light Γ at loops (c.continue q) = beside (broken_if (not loops) OutsideALoop q) (Fine (t.continue (number at))) (λ none. fine (omega arith, omega arith))
      statement_light Γ at loops (c.return q x) = of_one (t.return (number at)) (returned result Γ at.texts q x) (returned_light Γ at.texts q x) (λ y k. (omega (arith, k), omega arith))
      statement_light Γ at loops (c.local q ds) = of_one (t.local (number at)) (locals homes Γ at.variable at.texts ds) (locals_light Γ at.variable at.texts ds) (λ y k. let k0 = k.0 in let k1 = k.1 in (omega (arith, k0), omega (arith, k1)))

      statements_light : (Γ : Scope) (at : At) (loops : Bool) (xs : c.Stms) → Gives (λ ys. Lasts (nodes_in_all xs) (scalars (variables_of xs)) (weight_stms ys)) (statements result homes Γ at loops xs)
      statements_light Γ at loops c.no_stm = fine (omega arith, omega arith)
      statements_light Γ at loops (c.a_stm s rest) =
          of_two before (statement result homes Γ at loops s) (statements result homes (with_names homes at.variable s Γ) (past s at) loops rest) (statement_light Γ at loops s) (statements_light (with_names homes at.variable s Γ) (past s at) loops rest)
          (λ x xs k l. let k0 = k.0 in let k1 = k.1 in let l0 = l.0 in let l1 = l.1 in let e = scalars_join (variables s) (variables_of rest) in (omega (arith, k0, l0), omega (arith, e, k1, l1)))

-- ---- functions and items

abbrev SlotsSet : t.Function → Type 0
SlotsSet f = f.slots ≤ length f.params + weight_stms f.body

abbrev pub AreSet : List t.Function → Type 0
AreSet [] = Unit {0}
AreSet (f ∷ fs) = SlotsSet f × AreSet fs

function_light : (Γ : Scope) (at : At) (head : Head) (xs : c.Stms) → Gives (λ f. (weight_function f ≤ 4 * suc (length head.params + nodes_in_all xs)) × SlotsSet f) (function Γ at head xs)
function_light Γ at head xs =
    let homes = function_homes head.params xs in
    let stms = statements_light homes head.result (with_params homes 0 head.params (inner Γ)) (record at { variable = length head.params }) false xs in
    let long = typed_length homes 0 head.params in
    let slots = slots_counted (function_taken head.params xs) 0 none_given (function_variables head.params xs) in
    let few = few_slots (function_taken head.params xs) 0 (function_variables head.params xs) in
    let all = scalars_join (map param_shape head.params) (variables_of xs) in
    let of_params = scalar_params head.params in
    beside (broken_if (has_unnamed head) WrongSignature head.place ++ head_breaches head) (Fine (a_function head xs) <*> body Γ at head xs) (λ none.
    of_one (a_function head xs) (body Γ at head xs) stms (λ y k. let k0 = k.0 in let k1 = k.1 in (omega (arith, k0, long), omega (arith, k1, long, slots, few, all, of_params))))

pub all_slots : (fs : List t.Function) → AreSet fs → All SlotsSet fs
all_slots [] h = All-nil SlotsSet
all_slots (f ∷ fs) h = All-cons SlotsSet f fs h.0 (all_slots fs h.1)

weight_join : (fs gs : List t.Function) → weight_functions (fs ++ gs) ≡ weight_functions fs + weight_functions gs
weight_join [] gs = omega arith
weight_join (f ∷ fs) gs = let rest = weight_join fs gs in omega (arith, rest)

slots_join : (fs gs : List t.Function) → AreSet fs → AreSet gs → AreSet (fs ++ gs)
slots_join [] gs h k = k
slots_join (f ∷ fs) gs h k = (h.0, slots_join fs gs h.1 k)

-- the functions of items with so many nodes
abbrev pub LightParts : ℕ → Parts → Type 0
LightParts m parts = (weight_functions parts.functions ≤ 4 * m) × AreSet parts.functions

joined_light : (m n : ℕ) (a b : Parts) → LightParts m a → LightParts n b → LightParts (m + n) (joined a b)
joined_light m n a b g h = let e = weight_join a.functions b.functions in let g0 = g.0 in let h0 = h.0 in (omega (arith, e, g0, h0), slots_join a.functions b.functions g.1 h.1)

module _ (bodied : s.Scope scope.Function) where
  item_light : (Γ : Scope) (at : At) (x : c.Top) → Gives (LightParts (nodes_item x)) (item bodied Γ at x)
  item_light Γ at (c.prototype q ty name params) =
      let head = head_of q ty name params in
      beside (broken_if (not (is_good_prototype bodied head)) WrongSignature head.place ++ head_breaches head) (Fine no_parts) (λ none. fine (omega arith, tt))
  item_light Γ at (c.function q ty name params xs) =
      let head = head_of q ty name params in
      of_one one_function (function Γ at head (c.stms xs)) (function_light Γ at head (c.stms xs)) (λ f k. let k0 = k.0 in (omega (arith, k0), (k.1, tt)))
  item_light Γ at (c.variables ds) = of_one only_globals (globals Γ at.variable at.texts ds) (anything (globals Γ at.variable at.texts ds)) (λ gs k. (omega arith, tt))

  pub items_light : (Γ : Scope) (at : At) (unit : List c.Top) → Gives (LightParts (nodes_unit unit)) (items bodied Γ at unit)
  items_light Γ at [] = fine (omega arith, tt)
  items_light Γ at (x ∷ rest) =
      of_two joined (item bodied Γ at x) (items bodied (with_item at.variable x Γ) (past_item x at) rest) (item_light Γ at x) (items_light (with_item at.variable x Γ) (past_item x at) rest)
      (λ a b k l. joined_light (nodes_item x) (nodes_unit rest) a b k l)
