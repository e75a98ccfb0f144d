-- What the names of functions mean: a body of their signature, or what is built in.
use Rattle.std.proofs.Common.{◌≡◌, ℕ, suc, ◌||◌, ◌&&◌, Bool, true, false, cond, List, [], ◌∷◌, ◌++◌, length, map, refl, sym, ap, ◌∙◌, subst, arith, length-append, append_assoc, Some, None}
use Rattle.std.specs.Prelude.{slice_get, MatchOption, bytes_eq, is_some}
use Rattle.std.proofs.lemmas.Slice.Eq.{bytes_eq-Decides}
use Rattle.c_ast.specs.Trees as c
use Rattle.c_typed.specs.declared.types.ValueType.{ValueType}
use Rattle.c_typed.specs.Program.{Program}
use Rattle.c_typed.specs.Tree as t
use Rattle.c_typed.specs.ValueTypes.{is_void}
use Rattle.c_scopes.specs.Scopes as s
use Rattle.c_scopes.specs.Scopes.{Named, meaning, with_name}
use Rattle.c_types_homes.specs.Declarators.{param_type}
use Rattle.c_types_operators.specs.Scopes as scope
use Rattle.c_types_functions.specs.Functions.{Head, bodies, prototypes, built_in, is_built_in, running, numbered, all_named, by_bodies, functions_known, with_body, is_main, is_like, is_good_prototype}
use Rattle.c_types_kept.proofs.Judgements.{differ, by_test, by_cases, Yields}
use Rattle.c_types_kept.proofs.Types.{IsFirm, and_first}
use Rattle.c_types_kept.proofs.Operators.{KeepsFunctionName}
use Rattle.c_types_kept.proofs.Scopes.{AllMean, with_name_is, meaning_is}
use Rattle.c_types_kept.proofs.Homes.{get_middle}

-- ---- which names are known

absorbed : (known same : Bool) → (same ≡ true → known ≡ true) → known ≡ (known || same)
absorbed true same h = refl
absorbed false true h = h refl
absorbed false false h = refl

module _ {A : Type 0} where
  abbrev knows : List ℕ → s.Scope A → Bool
  knows name scope = is_some (meaning name scope)

  abbrev entry : List ℕ → A → Named A
  entry name meant = record { name = name; meant = meant }

  knows_last : (name other : List ℕ) (meant : A) (scope : s.Scope A) → knows other (scope ++ (entry name meant ∷ [])) ≡ (knows other scope || bytes_eq other name)
  knows_last name other meant [] = by_cases (λ b. is_some (cond b (Some meant) None) ≡ b) refl refl (bytes_eq other name)
  knows_last name other meant (e ∷ scope) =
      by_cases (λ b. is_some (cond b (Some e.meant) (meaning other (scope ++ (entry name meant ∷ [])))) ≡ (is_some (cond b (Some e.meant) (meaning other scope)) || bytes_eq other name))
      refl (knows_last name other meant scope) (bytes_eq other e.name)

  knows_more : (name other : List ℕ) (meant : A) (scope : s.Scope A) → knows other (with_name name meant scope) ≡ (knows other scope || bytes_eq other name)
  knows_more name other meant scope =
      by_test (λ z. knows other z ≡ (knows other scope || bytes_eq other name)) (knows name scope) scope (scope ++ (entry name meant ∷ []))
      (λ e. absorbed (knows other scope) (bytes_eq other name) (λ same. subst (λ n. knows n scope ≡ true) (sym ((bytes_eq-Decides other name).0 same)) e))
      (λ e. knows_last name other meant scope)

or_false : (b : Bool) → b ≡ (b || false)
or_false true = refl
or_false false = refl

or_true_or : (a b : Bool) → ((a || true) || b) ≡ (a || true)
or_true_or true b = refl
or_true_or false b = refl

or_false_or : (a b : Bool) → ((a || false) || b) ≡ (a || b)
or_false_or true b = refl
or_false_or false b = refl

or_swap : (a b : Bool) → (a || b) ≡ true → (b || a) ≡ true
or_swap true true h = refl
or_swap true false h = refl
or_swap false true h = refl
or_swap false false h = h

knows_all : (other : List ℕ) (scope entries : s.Scope scope.Function) → is_some (meaning other (all_named scope entries)) ≡ (is_some (meaning other scope) || is_some (meaning other entries))
knows_all other scope [] = or_false (is_some (meaning other scope))
knows_all other scope (e ∷ entries) =
    knows_all other (with_name e.name e.meant scope) entries
    ∙ ap (λ b. b || is_some (meaning other entries)) (knows_more e.name other e.meant scope)
    ∙ by_cases (λ b. ((is_some (meaning other scope) || b) || is_some (meaning other entries)) ≡ (is_some (meaning other scope) || is_some (cond b (Some e.meant) (meaning other entries))))
    (or_true_or (is_some (meaning other scope)) (is_some (meaning other entries))) (or_false_or (is_some (meaning other scope)) (is_some (meaning other entries))) (bytes_eq other e.name)

-- ---- prototypes change nothing

abbrev AreKnown : s.Scope scope.Function → List Head → Type 0
AreKnown scope [] = Unit {0}
AreKnown scope (x ∷ xs) = (is_some (meaning x.name scope) ≡ true) × AreKnown scope xs

stays : (k : ℕ) (scope : s.Scope scope.Function) (heads : List Head) → AreKnown scope heads → all_named scope (map (running k) heads) ≡ scope
stays k scope [] h = refl
stays k scope (x ∷ xs) h =
    ap (λ b. all_named (cond b scope (scope ++ (running k x ∷ []))) (map (running k) xs)) h.0 ∙ stays k scope xs h.1

-- each prototype has a body or is built in
abbrev pub AreGood : s.Scope scope.Function → List Head → Type 0
AreGood bodied [] = Unit {0}
AreGood bodied (x ∷ xs) = (is_good_prototype bodied x ≡ true) × AreGood bodied xs

good_known : (heads xs : List Head) → AreGood (by_bodies heads) xs → AreKnown (all_named built_in (numbered 0 heads)) xs
good_known heads [] h = tt
good_known heads (x ∷ xs) h =
    let there = and_first (is_some (meaning x.name (by_bodies heads)) || is_built_in x.name) (is_like x (meaning x.name (by_bodies heads)) && is_like x (meaning x.name built_in)) h.0 in
    let among = ap (λ b. b || is_built_in x.name) (sym (knows_all x.name [] (numbered 0 heads))) ∙ there in
    (knows_all x.name built_in (numbered 0 heads) ∙ or_swap (is_some (meaning x.name (numbered 0 heads))) (is_built_in x.name) among, good_known heads xs h.1)

-- ---- bodies

-- a function that is made of this head
pub record IsMade (head : Head) (f : t.Function) : Type 0 where
  pub name : f.name ≡ head.name
  pub result : head.result ≡ f.result
  pub types : map param_type head.params ≡ map (λ q. q.ty) f.params
  pub firm : is_void head.result ≡ false → IsFirm head.result
  pub main : is_main head ≡ true → f.params ≡ []

abbrev pub AreMade : List Head → List t.Function → Type 0
AreMade [] [] = Unit {0}
AreMade (x ∷ xs) (f ∷ fs) = IsMade x f × AreMade xs fs
AreMade [] (f ∷ fs) = ⊥
AreMade (x ∷ xs) [] = ⊥

pub made_join : (xs : List Head) (fs : List t.Function) (ys : List Head) (gs : List t.Function) → AreMade xs fs → AreMade ys gs → AreMade (xs ++ ys) (fs ++ gs)
made_join [] [] ys gs h k = k
made_join (x ∷ xs) (f ∷ fs) ys gs h k = (h.0, made_join xs fs ys gs h.1 k)
made_join [] (f ∷ fs) ys gs h k = absurd h
made_join (x ∷ xs) [] ys gs h k = absurd h

module _ (p : Program) (kinds : List ValueType) where
  abbrev Known : scope.Function → Type 0
  Known f = KeepsFunctionName p kinds f

  all_named_is : (scope entries : s.Scope scope.Function) → AllMean Known scope → AllMean Known entries → AllMean Known (all_named scope entries)
  all_named_is scope [] h k = h
  all_named_is scope (e ∷ entries) h k = all_named_is (with_name e.name e.meant scope) entries (with_name_is Known e.name e.meant scope h k.0) k.1

  built_in_is : AllMean Known built_in
  built_in_is = (record { firm = λ _. refl; runs = tt }, (record { firm = λ _. refl; runs = tt }, (record { firm = λ h. absurd (differ h); runs = refl }, tt)))

  numbered_is : (k : ℕ) (first : List t.Function) (heads : List Head) (fs : List t.Function) → p.functions ≡ first ++ fs → length first ≡ k → AreMade heads fs → AllMean Known (numbered k heads)
  numbered_is k first [] fs whole many h = tt
  numbered_is k first (x ∷ heads) [] whole many h = absurd h
  numbered_is k first (x ∷ heads) (f ∷ fs) whole many h =
      let there : slice_get p.functions k ≡ Some f = ap (λ z. slice_get z k) whole ∙ ap (λ z. slice_get (first ++ (f ∷ fs)) z) (sym many) ∙ get_middle first f fs in
      let long = length-append first (f ∷ []) in (
        record {
          firm = h.0.firm;
          runs = subst (λ z. MatchOption z ⊥ (λ g. (x.result ≡ g.result) × (map param_type x.params ≡ map (λ q. q.ty) g.params))) (sym there) (h.0.result, h.0.types);
        },
        numbered_is (suc k) (first ++ (f ∷ [])) heads fs (whole ∙ sym (append_assoc first (f ∷ []) fs)) (omega (arith, long, many)) h.1,
      )

  pub known_kept : (unit : List c.Top) → AreMade (bodies unit) p.functions → AreGood (with_body unit) (prototypes unit) → (name : List ℕ) → Yields Known (meaning name (functions_known unit))
  known_kept unit made good name =
      let first = all_named built_in (numbered 0 (bodies unit)) in
      subst (λ z. Yields Known (meaning name z)) (sym (stays (length (bodies unit)) first (prototypes unit) (good_known (bodies unit) (prototypes unit) good)))
      (meaning_is Known name first (all_named_is built_in (numbered 0 (bodies unit)) built_in_is (numbered_is 0 [] (bodies unit) p.functions refl refl made)))
