-- The statements of a file are numbered by their places, and its functions have names of their own.
use Rattle.std.proofs.Common.{◌≡◌, ◌≢◌, ℕ, ◌≤◌, ◌||◌, ◌&&◌, not, Bool, true, false, List, [], ◌∷◌, ◌++◌, length, map, refl, sym, ap, ◌∙◌, subst, arith, le_refl, length-append}
use Rattle.std.specs.List.{All, AllPairs, list_any}
use Rattle.std.proofs.lemmas.List.Elements.{All-nil, All-cons}
use Rattle.std.proofs.lemmas.List.Kept.{AllPairs-cons}
use Rattle.std.proofs.lemmas.Slice.Eq.{bytes_eq-Decides}
use Rattle.ib_meaning.specs.declared.place.Place.{Place}
use Rattle.c_ast.specs.Trees as c
use Rattle.c_typed.specs.declared.types.ValueType.{ValueType}
use Rattle.c_typed.specs.declared.program.Home.{Home}
use Rattle.c_typed.specs.declared.rule.Rule.TheVariants.{OutsideALoop, Redeclared, WrongSignature}
use Rattle.c_typed.specs.Tree as t
use Rattle.c_scopes.specs.Scopes as s
use Rattle.c_types_operators.specs.Rules.{Judged, Fine}
use Rattle.c_types_operators.specs.Parts.{broken_if, ◌<*>◌}
use Rattle.c_types_operators.specs.Scopes as scope
use Rattle.c_types_operators.specs.Scopes.{Scope, inner}
use Rattle.c_types_expressions.specs.Expressions.{tested_value, effect}
use Rattle.c_types_statements.specs.Statements.{At, number, numbered, past, past_test, past_head, literals_maybe, literals_start, literals_in, places, places_of, test_part, effect_part, with_start, with_names, locals, start, returned, if_of, if_else_of, while_of, do_of, for_of, before, statement, statements}
use Rattle.c_types_homes.specs.Homes.{function_homes}
use Rattle.c_types_homes.specs.Declarators.{declared_name, declared_place}
use Rattle.c_types_functions.specs.Functions.{Head, head_of, head_breaches, bodies, has_unnamed, is_good_prototype, a_global, a_prototype, a_body, Declared, declared_as, clashes, redeclares_built_in, redeclared_after, all_declared}
use Rattle.c_types_units.specs.Units.{with_params, body, a_function, function, no_parts, one_function, only_globals, joined, with_item, past_item, past_items, prototype, globals, item, items}
use Rattle.c_kept.specs.Numbered.{NumbersStm, NumbersStms}
use Rattle.c_kept.specs.WellFormed.{IsName, FormedUnit}
use Rattle.c_types_kept.proofs.Judgements.{differ, Gives, fine, beside, of_one, of_two, of_three, of_four, first_none, second_none, not_so}
use Rattle.c_types_kept.proofs.Room.{Room, room_first, room_second, room_one}
use Rattle.c_types_kept.proofs.Statements.{or_first}
use Rattle.c_types_kept.proofs.Names.{AreMade}

pub anything : {A : Type 0} (j : Judged A) → Gives (λ a. Unit {0}) j
anything j = record { by = λ a is. tt }

-- ---- statements

module _ (all : ℕ) (result : ValueType) (homes : List Home) where
  mutual
    statement_numbered : (Γ : Scope) (at : At) (loops : Bool) (s : c.Stm) → Room all at.places (places s) → Gives (NumbersStm all) (statement result homes Γ at loops s)
    statement_numbered Γ at loops (c.block q xs) r = of_one t.block (statements result homes (inner Γ) at loops xs) (statements_numbered (inner Γ) at loops xs r) (λ y k. k)
    statement_numbered Γ at loops (c.empty q) r = fine (room_one all at.places q [] r)
    statement_numbered Γ at loops (c.expression q x) r = of_one (t.expression (number at)) (effect Γ at.texts x) (anything (effect Γ at.texts x)) (λ y k. room_one all at.places q [] r)
    statement_numbered Γ at loops (c.if_then q x a) r =
        of_two (if_of (number at)) (tested_value Γ at.texts x) (statement result homes (inner Γ) (past_test q x at) loops a) (anything (tested_value Γ at.texts x))
        (statement_numbered (inner Γ) (past_test q x at) loops a (room_second all at.places (q ∷ []) (places a) r)) (λ y z k l. (room_one all at.places q (places a) r, l))
    statement_numbered Γ at loops (c.if_else q x a b) r =
        let later = room_second all at.places (q ∷ []) (places a ++ places b) r in
        of_three (if_else_of (number at)) (tested_value Γ at.texts x) (statement result homes (inner Γ) (past_test q x at) loops a) (statement result homes (inner Γ) (past a (past_test q x at)) loops b) (anything (tested_value Γ at.texts x))
        (statement_numbered (inner Γ) (past_test q x at) loops a (room_first all (at.places ++ (q ∷ [])) (places a) (places b) later))
        (statement_numbered (inner Γ) (past a (past_test q x at)) loops b (room_second all (at.places ++ (q ∷ [])) (places a) (places b) later)) (λ y z w k l m. (room_one all at.places q (places a ++ places b) r, l, m))
    statement_numbered Γ at loops (c.while_loop q x a) r =
        of_two (while_of (number at)) (tested_value Γ at.texts x) (statement result homes (inner Γ) (past_test q x at) true a) (anything (tested_value Γ at.texts x))
        (statement_numbered (inner Γ) (past_test q x at) true a (room_second all at.places (q ∷ []) (places a) r)) (λ y z k l. (room_one all at.places q (places a) r, l))
    statement_numbered Γ at loops (c.do_while q a x) r =
        of_two (do_of (number at)) (statement result homes (inner Γ) (numbered q at) true a) (tested_value Γ (at.texts ++ literals_in a) x)
        (statement_numbered (inner Γ) (numbered q at) true a (room_second all at.places (q ∷ []) (places a) r)) (anything (tested_value Γ (at.texts ++ literals_in a) x)) (λ y z k l. (room_one all at.places q (places a) r, k))
    statement_numbered Γ at loops (c.for_loop q st x y a) r =
        let inside = with_start homes at.variable st (inner Γ) in
        let first = start homes (inner Γ) at.variable at.texts st in
        let test = test_part inside (at.texts ++ literals_start st) x in
        let next = effect_part inside (at.texts ++ literals_start st ++ literals_maybe x) y in
        of_four (for_of (number at)) first test next (statement result homes (inner inside) (past_head q st x y at) true a) (anything first) (λ b k. anything test) (λ b k. anything next)
        (λ b k. statement_numbered (inner inside) (past_head q st x y at) true a (room_second all at.places (q ∷ []) (places a) r)) (λ b c d e k l m o. (room_one all at.places q (places a) r, o))
    statement_numbered Γ at loops (c.break q) r = beside (broken_if (not loops) OutsideALoop q) (Fine (t.break (number at))) (λ none. fine (room_one all at.places q [] r))
    statement_numbered Γ at loops (c.continue q) r = beside (broken_if (not loops) OutsideALoop q) (Fine (t.continue (number at))) (λ none. fine (room_one all at.places q [] r))
    statement_numbered Γ at loops (c.return q x) r = of_one (t.return (number at)) (returned result Γ at.texts q x) (anything (returned result Γ at.texts q x)) (λ y k. room_one all at.places q [] r)
    statement_numbered Γ at loops (c.local q ds) r = of_one (t.local (number at)) (locals homes Γ at.variable at.texts ds) (anything (locals homes Γ at.variable at.texts ds)) (λ y k. room_one all at.places q [] r)

    pub statements_numbered : (Γ : Scope) (at : At) (loops : Bool) (xs : c.Stms) → Room all at.places (places_of xs) → Gives (NumbersStms all) (statements result homes Γ at loops xs)
    statements_numbered Γ at loops c.no_stm r = fine tt
    statements_numbered Γ at loops (c.a_stm s rest) r =
        of_two before (statement result homes Γ at loops s) (statements result homes (with_names homes at.variable s Γ) (past s at) loops rest) (statement_numbered Γ at loops s (room_first all at.places (places s) (places_of rest) r))
        (statements_numbered (with_names homes at.variable s Γ) (past s at) loops rest (room_second all at.places (places s) (places_of rest) r)) (λ x xs k l. (k, l))

-- ---- items

module _ (all : ℕ) where
  abbrev pub AreNumbered : List t.Function → Type 0
  AreNumbered [] = Unit {0}
  AreNumbered (f ∷ fs) = NumbersStms all f.body × AreNumbered fs

  numbered_join : (fs gs : List t.Function) → AreNumbered fs → AreNumbered gs → AreNumbered (fs ++ gs)
  numbered_join [] gs h k = k
  numbered_join (f ∷ fs) gs h k = (h.0, numbered_join fs gs h.1 k)

  pub numbered_all : (fs : List t.Function) → AreNumbered fs → All (λ f. NumbersStms all f.body) fs
  numbered_all [] h = All-nil (λ f. NumbersStms all f.body)
  numbered_all (f ∷ fs) h = All-cons (λ f. NumbersStms all f.body) f fs h.0 (numbered_all fs h.1)

  body_numbered : (Γ : Scope) (at : At) (head : Head) (xs : c.Stms) → Room all at.places (places_of xs) → Gives (NumbersStms all) (body Γ at head xs)
  body_numbered Γ at head xs r =
      let homes = function_homes head.params xs in
      statements_numbered all head.result homes (with_params homes 0 head.params (inner Γ)) (record at { variable = length head.params }) false xs r

  function_numbered : (Γ : Scope) (at : At) (head : Head) (xs : c.Stms) → Room all at.places (places_of xs) → Gives (λ f. NumbersStms all f.body) (function Γ at head xs)
  function_numbered Γ at head xs r =
      beside (broken_if (has_unnamed head) WrongSignature head.place ++ head_breaches head) (Fine (a_function head xs) <*> body Γ at head xs) (λ none.
      of_one (a_function head xs) (body Γ at head xs) (body_numbered Γ at head xs r) (λ y k. k))

  one_numbered : (Γ : Scope) (at : At) (head : Head) (xs : c.Stms) → Room all at.places (places_of xs) → Gives (λ parts. AreNumbered parts.functions) (Fine one_function <*> function Γ at head xs)
  one_numbered Γ at head xs r = of_one one_function (function Γ at head xs) (function_numbered Γ at head xs r) (λ f k. (k, tt))

  globals_numbered : (Γ : Scope) (at : At) (ds : List c.Decl) → Gives (λ parts. AreNumbered parts.functions) (Fine only_globals <*> globals Γ at.variable at.texts ds)
  globals_numbered Γ at ds = of_one only_globals (globals Γ at.variable at.texts ds) (anything (globals Γ at.variable at.texts ds)) (λ gs k. tt)

  places_grow : (unit : List c.Top) (at : At) → length at.places ≤ length (past_items unit at).places
  places_grow [] at = le_refl (length at.places)
  places_grow (c.prototype q ty name params ∷ rest) at = places_grow rest at
  places_grow (c.function q ty name params xs ∷ rest) at =
      let later = places_grow rest (past_item (c.function q ty name params xs) at) in
      let long = length-append at.places (places_of (c.stms xs)) in
      omega (arith, later, long)
  places_grow (c.variables ds ∷ rest) at = places_grow rest (past_item (c.variables ds) at)

  module _ (bodied : s.Scope scope.Function) where
    prototype_numbered : (head : Head) → Gives (λ parts. AreNumbered parts.functions) (prototype bodied head)
    prototype_numbered head = beside (broken_if (not (is_good_prototype bodied head)) WrongSignature head.place ++ head_breaches head) (Fine no_parts) (λ none. fine tt)

    pub items_numbered : (Γ : Scope) (at : At) (unit : List c.Top) → length (past_items unit at).places ≤ all → Gives (λ parts. AreNumbered parts.functions) (items bodied Γ at unit)
    items_numbered Γ at [] r = fine tt
    items_numbered Γ at (c.prototype q ty name params ∷ rest) r =
        let x = c.prototype q ty name params in
        of_two joined (item bodied Γ at x) (items bodied (with_item at.variable x Γ) (past_item x at) rest) (prototype_numbered (head_of q ty name params)) (items_numbered (with_item at.variable x Γ) (past_item x at) rest r)
        (λ a b k l. numbered_join a.functions b.functions k l)
    items_numbered Γ at (c.function q ty name params xs ∷ rest) r =
        let x = c.function q ty name params xs in
        let later = places_grow rest (past_item x at) in
        of_two joined (item bodied Γ at x) (items bodied (with_item at.variable x Γ) (past_item x at) rest) (one_numbered Γ at (head_of q ty name params) (c.stms xs) (omega (arith, later, r))) (items_numbered (with_item at.variable x Γ) (past_item x at) rest r)
        (λ a b k l. numbered_join a.functions b.functions k l)
    items_numbered Γ at (c.variables ds ∷ rest) r =
        let x = c.variables ds in
        of_two joined (item bodied Γ at x) (items bodied (with_item at.variable x Γ) (past_item x at) rest) (globals_numbered Γ at ds) (items_numbered (with_item at.variable x Γ) (past_item x at) rest r)
        (λ a b k l. numbered_join a.functions b.functions k l)

-- ---- names

pub all_named : (unit : List c.Top) (fs : List t.Function) → FormedUnit unit → AreMade (bodies unit) fs → All (λ f. IsName f.name) fs
all_named [] [] formed h = All-nil (λ f. IsName f.name)
all_named [] (f ∷ fs) formed h = absurd h
all_named (c.prototype q ty name params ∷ rest) fs formed h = all_named rest fs formed.1 h
all_named (c.function q ty name params xs ∷ rest) [] formed h = absurd h
all_named (c.function q ty name params xs ∷ rest) (f ∷ fs) formed h = All-cons (λ f. IsName f.name) f fs (subst IsName (sym h.0.name) formed.0.0) (all_named rest fs formed.1 h.1)
all_named (c.variables ds ∷ rest) fs formed h = all_named rest fs formed.1 h

-- a body of this name is among the declarations before
abbrev Has : List ℕ → Place → List Declared → Type 0
Has name q earlier = list_any (clashes (declared_as a_body name q)) earlier ≡ true

either_true : (a b : Bool) → b ≡ true → (a || b) ≡ true
either_true true b h = refl
either_true false b h = h

skipped : (ds earlier : List Declared) → List Declared
skipped [] earlier = earlier
skipped (d ∷ ds) earlier = skipped ds (d ∷ earlier)

rest_none : (d : Declared) (earlier ds : List Declared) → redeclared_after earlier (d ∷ ds) ≡ [] → redeclared_after (d ∷ earlier) ds ≡ []
rest_none d earlier ds none = second_none (broken_if (list_any (clashes d) earlier || redeclares_built_in d) Redeclared d.place) (redeclared_after (d ∷ earlier) ds) none

skipped_none : (ds ys earlier : List Declared) → redeclared_after earlier (ds ++ ys) ≡ [] → redeclared_after (skipped ds earlier) ys ≡ []
unfolding skipped
skipped_none [] ys earlier none = none
skipped_none (d ∷ ds) ys earlier none = skipped_none ds ys (d ∷ earlier) (rest_none d earlier (ds ++ ys) none)

skipped_has : (name : List ℕ) (q : Place) (ds earlier : List Declared) → Has name q earlier → Has name q (skipped ds earlier)
unfolding skipped
skipped_has name q [] earlier has = has
skipped_has name q (d ∷ ds) earlier has = skipped_has name q ds (d ∷ earlier) (either_true (clashes (declared_as a_body name q) d) (list_any (clashes (declared_as a_body name q)) earlier) has)

later_differ : (name : List ℕ) (q : Place) (unit : List c.Top) (earlier : List Declared) (fs : List t.Function) → Has name q earlier → redeclared_after earlier (all_declared unit) ≡ [] → AreMade (bodies unit) fs → All (λ f. name ≢ f.name) fs
later_differ name q [] earlier [] has none h = All-nil (λ f. name ≢ f.name)
later_differ name q [] earlier (f ∷ fs) has none h = absurd h
later_differ name q (c.prototype place ty other params ∷ rest) earlier fs has none h =
    let d = declared_as a_prototype other place in
    later_differ name q rest (d ∷ earlier) fs (either_true (clashes (declared_as a_body name q) d) (list_any (clashes (declared_as a_body name q)) earlier) has) (rest_none d earlier (all_declared rest) none) h
later_differ name q (c.function place ty other params xs ∷ rest) earlier [] has none h = absurd h
later_differ name q (c.function place ty other params xs ∷ rest) earlier (f ∷ fs) has none h =
    let d = declared_as a_body other place in
    let fresh = or_first (list_any (clashes d) earlier) (redeclares_built_in d)
    (not_so (list_any (clashes d) earlier || redeclares_built_in d) Redeclared place (first_none (broken_if (list_any (clashes d) earlier || redeclares_built_in d) Redeclared place) (redeclared_after (d ∷ earlier) (all_declared rest)) none)) in
    All-cons (λ f. name ≢ f.name) f fs (λ e. differ (sym (subst (λ n. list_any (clashes (declared_as a_body n place)) earlier ≡ true) (e ∙ h.0.name) has) ∙ fresh))
    (later_differ name q rest (d ∷ earlier) fs (either_true (clashes (declared_as a_body name q) d) (list_any (clashes (declared_as a_body name q)) earlier) has) (rest_none d earlier (all_declared rest) none) h.1)
later_differ name q (c.variables ds ∷ rest) earlier fs has none h =
    let those = map (λ d. declared_as a_global (declared_name d) (declared_place d)) ds in
    later_differ name q rest (skipped those earlier) fs (skipped_has name q those earlier has) (skipped_none those (all_declared rest) earlier none) h

pub bodies_differ : (unit : List c.Top) (earlier : List Declared) (fs : List t.Function) → redeclared_after earlier (all_declared unit) ≡ [] → AreMade (bodies unit) fs → AllPairs (λ f g. f.name ≢ g.name) fs
bodies_differ [] earlier [] none h = λ i j d lt lt2. let z : ⊥ = omega (arith, lt, lt2) in absurd z
bodies_differ [] earlier (f ∷ fs) none h = absurd h
bodies_differ (c.prototype place ty other params ∷ rest) earlier fs none h = let d = declared_as a_prototype other place in bodies_differ rest (d ∷ earlier) fs (rest_none d earlier (all_declared rest) none) h
bodies_differ (c.function place ty other params xs ∷ rest) earlier [] none h = absurd h
bodies_differ (c.function place ty other params xs ∷ rest) earlier (f ∷ fs) none h =
    let d = declared_as a_body other place in
    let same = ap (λ b. (b && true) || list_any (clashes d) earlier) ((bytes_eq-Decides other other).1 refl) in
    AllPairs-cons (λ f g. f.name ≢ g.name) f fs (subst (λ n. All (λ g. n ≢ g.name) fs) (sym h.0.name) (later_differ other place rest (d ∷ earlier) fs same (rest_none d earlier (all_declared rest) none) h.1)) (bodies_differ rest (d ∷ earlier) fs (rest_none d earlier (all_declared rest) none) h.1)
bodies_differ (c.variables ds ∷ rest) earlier fs none h =
    let those = map (λ d. declared_as a_global (declared_name d) (declared_place d)) ds in
    bodies_differ rest (skipped those earlier) fs (skipped_none those (all_declared rest) earlier none) h
