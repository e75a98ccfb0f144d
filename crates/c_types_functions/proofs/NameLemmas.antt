-- What the names so far tell of the declarations before.
use Rattle.std.proofs.Common.{◌≡◌, refl, ap, ap₂, sym, ◌∙◌, subst, ℕ, List, [], ◌∷◌, ◌++◌, Option, Some, None, Bool, true, false, cond, ◌&&◌, ◌||◌, bytes_eq, is_some, append_assoc, map}
use Rattle.std.specs.Bool.{Decides}
use Rattle.std.specs.List.{list_any}
use Rattle.std.proofs.lemmas.Bool.Decides.{same_from_decides}
use Rattle.std.proofs.lemmas.Slice.Eq.{bytes_eq-Decides}
use Rattle.c_ast.specs.Trees as c
use Rattle.c_scopes.specs.Scopes.{Named, meaning}
use Rattle.c_types_homes.specs.Declarators.{param_place}
use Rattle.c_typed.specs.declared.rule.Rule.TheVariants.{Redeclared}
use Rattle.c_types_operators.specs.declared.rule.Breach.{Breach}
use Rattle.c_types_operators.specs.Parts.{broken_if}
use Rattle.c_types_declarators.specs.Declarations.{param_breaches}
use Rattle.c_types_functions.specs.Functions.{Kind, a_global, a_prototype, a_body, Declared, clash, clashes, redeclares_built_in, redeclared_after, is_param_named, params_breaches}
use Rattle.c_types_functions.specs.Finding.{Names, knows, and_name, and_param, found_of_params, Seen, nothing_seen, clashes_with, and_of_kind, redeclares, found_among, seen_behind}

bytes_eq-swap : (xs ys : List ℕ) → bytes_eq xs ys ≡ bytes_eq ys xs
bytes_eq-swap xs ys =
    let there = bytes_eq-Decides xs ys in
    let back = bytes_eq-Decides ys xs in
    let swapped : Decides (bytes_eq ys xs) (xs ≡ ys) = (λ e. sym (back.0 e), λ e. back.1 (sym e)) in
    same_from_decides (bytes_eq xs ys) (bytes_eq ys xs) there swapped

abbrev entry : List ℕ → Named (Unit {0})
entry name = record { name = name; meant = tt }

or-true : (b : Bool) → true ≡ (b || true)
or-true true = refl
or-true false = refl

knows-last : (name other : List ℕ) (names : Names) → knows (names ++ entry name ∷ []) other ≡ (bytes_eq other name || knows names other)
knows-last name other [] = by_test (bytes_eq other name) where
  by_test : (b : Bool) → is_some (cond b (Some (tt {0})) None) ≡ (b || false)
  by_test true = refl
  by_test false = refl
knows-last name other (e ∷ names) = by_test (bytes_eq other e.name) (knows-last name other names) where
  by_test : (b : Bool) → knows (names ++ entry name ∷ []) other ≡ (bytes_eq other name || knows names other) →
      is_some (cond b (Some e.meant) (meaning other (names ++ entry name ∷ []))) ≡ (bytes_eq other name || is_some (cond b (Some e.meant) (meaning other names)))
  by_test true rest = or-true (bytes_eq other name)
  by_test false rest = rest

-- one more name
pub knows-more : (name other : List ℕ) (names : Names) → knows (and_name name names) other ≡ (bytes_eq name other || knows names other)
knows-more name other names = by_known (knows names name) refl where
  by_same : (s : Bool) → bytes_eq name other ≡ s → knows names name ≡ true → knows names other ≡ (s || knows names other)
  by_same true same e = subst (λ n. knows names n ≡ true) ((bytes_eq-Decides name other).0 same) e
  by_same false same e = refl

  by_known : (b : Bool) → knows names name ≡ b → knows (cond b names (names ++ entry name ∷ [])) other ≡ (bytes_eq name other || knows names other)
  by_known true e = by_same (bytes_eq name other) refl e
  by_known false e = knows-last name other names ∙ ap (λ b. b || knows names other) (bytes_eq-swap other name)

-- ---- parameters

-- The names are those of the parameters before.
pub record Remembers (names : Names) (earlier : List c.Par) : Type 0 where
  pub remembers : (name : List ℕ) → knows names name ≡ list_any (is_param_named name) earlier

pub found-params : (names : Names) (earlier : List c.Par) (xs : List c.Par) → Remembers names earlier → found_of_params names xs ≡ params_breaches earlier xs
found-params names earlier [] h = refl
found-params names earlier (c.param p ty c.unnamed m ∷ xs) h =
    let x = c.param p ty c.unnamed m in
    ap (λ rest. param_breaches x ++ rest) (found-params names (x ∷ earlier) xs (record { remembers = h.remembers }))
found-params names earlier (c.param p ty (c.named name) m ∷ xs) h =
    let x = c.param p ty (c.named name) m in
    let more : Remembers (and_name name names) (x ∷ earlier) =
    record { remembers = λ other. knows-more name other names ∙ ap (λ b. bytes_eq name other || b) (h.remembers other) } in
    append_assoc (broken_if (knows names name) Redeclared p) (param_breaches x) (found_of_params (and_name name names) xs)
    ∙ ap₂ (λ b rest. broken_if b Redeclared p ++ (param_breaches x ++ rest)) (h.remembers name) (found-params (and_name name names) (x ∷ earlier) xs more)

pub found_all_params : (xs : List c.Par) → found_of_params [] xs ≡ params_breaches [] xs
found_all_params xs = found-params [] [] xs (record { remembers = λ name. refl })

-- ---- names of the file

-- What clashes with the names clashes with a declaration before.
pub record RemembersAll (seen : Seen) (earlier : List Declared) : Type 0 where
  pub remembers : (d : Declared) → clashes_with seen d.kind d.name ≡ list_any (clashes d) earlier

module _ (b g : Bool) where
  first : (r : Bool) → ((b || g) || r) ≡ ((b && true) || (g || r))
  first r = by b where
    by : (b : Bool) → ((b || g) || r) ≡ ((b && true) || (g || r))
    by true = refl
    by false = refl

  alone : (b || g) ≡ ((b && true) || g)
  alone = by b where
    by : (b : Bool) → (b || g) ≡ ((b && true) || g)
    by true = refl
    by false = refl

  not-so : g ≡ ((b && false) || g)
  not-so = by b where
    by : (b : Bool) → g ≡ ((b && false) || g)
    by true = refl
    by false = refl

  second : (r : Bool) → (g || (b || r)) ≡ ((b && true) || (g || r))
  second r = by b g where
    by : (b g : Bool) → (g || (b || r)) ≡ ((b && true) || (g || r))
    by true true = refl
    by true false = refl
    by false g = refl

third : (b g p r : Bool) → (g || (p || (b || r))) ≡ ((b && true) || (g || (p || r)))
third true true p r = refl
third true false true r = refl
third true false false r = refl
third false g p r = refl

clashes-more : (kind other : Kind) (name next : List ℕ) (seen : Seen) →
    clashes_with (and_of_kind other next seen) kind name ≡ ((bytes_eq next name && clash kind other) || clashes_with seen kind name)
clashes-more a_global a_global name next seen =
    let here = knows seen.prototypes name || knows seen.bodies name in
    ap (λ k. k || here) (knows-more next name seen.globals) ∙ first (bytes_eq next name) (knows seen.globals name) here
clashes-more a_global a_prototype name next seen =
    ap (λ k. knows seen.globals name || (k || knows seen.bodies name)) (knows-more next name seen.prototypes)
    ∙ (ap (λ k. knows seen.globals name || k) (or_assoc (bytes_eq next name) (knows seen.prototypes name) (knows seen.bodies name))
    ∙ second (bytes_eq next name) (knows seen.globals name) (knows seen.prototypes name || knows seen.bodies name)) where
      or_assoc : (a b d : Bool) → ((a || b) || d) ≡ (a || (b || d))
      or_assoc true b d = refl
      or_assoc false b d = refl
clashes-more a_global a_body name next seen =
    ap (λ k. knows seen.globals name || (knows seen.prototypes name || k)) (knows-more next name seen.bodies)
    ∙ third (bytes_eq next name) (knows seen.globals name) (knows seen.prototypes name) (knows seen.bodies name)
clashes-more a_prototype a_global name next seen = knows-more next name seen.globals ∙ alone (bytes_eq next name) (knows seen.globals name)
clashes-more a_prototype a_prototype name next seen = not-so (bytes_eq next name) (knows seen.globals name)
clashes-more a_prototype a_body name next seen = not-so (bytes_eq next name) (knows seen.globals name)
clashes-more a_body a_global name next seen =
    ap (λ k. k || knows seen.bodies name) (knows-more next name seen.globals) ∙ first (bytes_eq next name) (knows seen.globals name) (knows seen.bodies name)
clashes-more a_body a_prototype name next seen = not-so (bytes_eq next name) (knows seen.globals name || knows seen.bodies name)
clashes-more a_body a_body name next seen =
    ap (λ k. knows seen.globals name || k) (knows-more next name seen.bodies) ∙ second (bytes_eq next name) (knows seen.globals name) (knows seen.bodies name)

remembers-more : (seen : Seen) (earlier : List Declared) (e : Declared) → RemembersAll seen earlier → RemembersAll (and_of_kind e.kind e.name seen) (e ∷ earlier)
remembers-more seen earlier e h = record {
  remembers = λ d. clashes-more d.kind e.kind d.name e.name seen ∙ ap (λ b. (bytes_eq e.name d.name && clash d.kind e.kind) || b) (h.remembers d);
}

found-among : (seen : Seen) (earlier ds : List Declared) → RemembersAll seen earlier → found_among seen ds ≡ redeclared_after earlier ds
found-among seen earlier [] h = refl
found-among seen earlier (d ∷ ds) h =
    ap₂ (λ b rest. broken_if (b || redeclares_built_in d) Redeclared d.place ++ rest) (h.remembers d)
    (found-among (and_of_kind d.kind d.name seen) (d ∷ earlier) ds (remembers-more seen earlier d h))

nothing-clashes : (kind : Kind) (name : List ℕ) → clashes_with nothing_seen kind name ≡ false
nothing-clashes a_global name = refl
nothing-clashes a_prototype name = refl
nothing-clashes a_body name = refl

pub found_all : (ds : List Declared) → found_among nothing_seen ds ≡ redeclared_after [] ds
found_all ds = found-among nothing_seen [] ds (record { remembers = λ d. nothing-clashes d.kind d.name })

pub behind_join : (seen : Seen) (xs ys : List Declared) → seen_behind seen (xs ++ ys) ≡ seen_behind (seen_behind seen xs) ys
behind_join seen [] ys = refl
behind_join seen (x ∷ xs) ys = behind_join (and_of_kind x.kind x.name seen) xs ys

pub among_join : (seen : Seen) (xs ys : List Declared) → found_among seen (xs ++ ys) ≡ found_among seen xs ++ found_among (seen_behind seen xs) ys
among_join seen [] ys = refl
among_join seen (x ∷ xs) ys =
    let here = broken_if (redeclares seen x) Redeclared x.place in
    let next = and_of_kind x.kind x.name seen in
    ap (λ rest. here ++ rest) (among_join next xs ys) ∙ sym (append_assoc here (found_among next xs) (found_among (seen_behind next xs) ys))
