-- One more turn of the loops over parameters, declarations and heads.
use Rattle.std.proofs.Common.{◌≡◌, refl, ap, ap₂, sym, ◌∙◌, subst, ℕ, ◌+◌, ◌<◌, List, [], ◌∷◌, ◌++◌, length, drop, get_or, map, Bool, true, false, ◌&&◌, ◌||◌}
use Rattle.std.specs.List.{list_any}
use Rattle.std.proofs.lemmas.List.{drop_more}
use Rattle.c_ast.specs.Trees as c
use Rattle.c_scopes.specs.Scopes as s
use Rattle.c_scopes.specs.Scopes.{Named, with_name}
use Rattle.c_types_operators.specs.declared.scope.Function as code_function
use Rattle.c_types_operators.specs.Scopes.{Function}
use Rattle.c_types_operators.specs.ScopeViews.{function_of, functions_of}
use Rattle.c_types_operators.specs.Judging.{Noted, noted}
use Rattle.c_types_functions.specs.Functions.{Declared, params_breaches, all_named}
use Rattle.c_types_functions.specs.Finding.{Names, is_fine, Finds, found_of_param, found_of_params, and_param, Seen, found_among, seen_behind, Passes}
use Rattle.c_types_functions.proofs.NameLemmas.{behind_join, among_join}
use Rattle.c_types_functions.proofs.NoteLemmas.{noted_twice, noted_nothing, fine_join}
use Rattle.c_types_functions.proofs.TableLemmas.{functions_more}

-- the next of what is left
pub next : {X : Type 0} (xs ys : List X) (i : ℕ) (x : X) → ys ≡ xs → i < length ys → x ≡ get_or ys i x → drop i xs ≡ x ∷ drop (i + 1) xs
next {X} xs ys i x same lt is =
    subst (λ (l : List X). drop i l ≡ x ∷ drop (i + 1) l) same (drop_more ys i x lt ∙ ap (λ y. y ∷ drop (i + 1) ys) (sym is))

-- ---- parameters

-- What the parameters that are left break, behind what is noted, is what all of them break.
pub record Judging (names : Names) (fine : Bool) (now old : Noted) (left all : List c.Par) : Type 0 where
  pub notes : noted now [] (found_of_params names left) ≡ noted old [] (params_breaches [] all)
  pub tells : (fine && is_fine (found_of_params names left)) ≡ is_fine (params_breaches [] all)

and_assoc : (x y z : Bool) → ((x && y) && z) ≡ (x && (y && z))
and_assoc true y z = refl
and_assoc false y z = refl

pub judging_on : {names more : Names} {fine good both : Bool} {now next old : Noted} {x : c.Par} {left rest all : List c.Par} →
    left ≡ x ∷ rest → more ≡ and_param x names → both ≡ (fine && good) →
    Judging names fine now old left all → Finds now next (found_of_param names x) good → Judging more both next old rest all
judging_on {names} {more} {fine} {good} {both} {now} {next} {old} {x} {left} {rest} {all} next-is more-is both-is h k =
    subst (λ ns. Judging ns both next old rest all) (sym more-is)
    (subst (λ b. Judging (and_param x names) b next old rest all) (sym both-is)
    (on (subst (λ xs. Judging names fine now old xs all) next-is h))) where
      on : Judging names fine now old (x ∷ rest) all → Judging (and_param x names) (fine && good) next old rest all
      on h =
          let here = found_of_param names x in
          let behind = found_of_params (and_param x names) rest in record {
            notes = ap (λ n. noted n [] behind) k.notes ∙ (noted_twice now here behind ∙ h.notes);
            tells =
                and_assoc fine good (is_fine behind)
                ∙ (ap (λ b. fine && b) (ap (λ b. b && is_fine behind) k.tells ∙ sym (fine_join here behind)) ∙ h.tells);
          }

and-true : (b : Bool) → (b && true) ≡ b
and-true true = refl
and-true false = refl

pub judging_end : {names : Names} {fine : Bool} {now old : Noted} {left all : List c.Par} → left ≡ [] → Judging names fine now old left all → Finds old now (params_breaches [] all) fine
judging_end {names} {fine} {now} {old} {left} {all} none h = ends (subst (λ xs. Judging names fine now old xs all) none h) where
  ends : Judging names fine now old [] all → Finds old now (params_breaches [] all) fine
  ends h = record { notes = sym (noted_nothing now) ∙ h.notes; tells = sym (and-true fine) ∙ h.tells }

-- ---- declarations

-- The declarations that are left lead from here to where all of them lead from the start.
pub record Leads (seen first : Seen) (now old : Noted) (left all : List Declared) : Type 0 where
  pub behind : seen_behind seen left ≡ seen_behind first all
  pub notes : noted now [] (found_among seen left) ≡ noted old [] (found_among first all)

pub leads_on : {seen more first : Seen} {now next old : Noted} {ds left rest all : List Declared} →
    left ≡ ds ++ rest → Leads seen first now old left all → Passes seen more now next ds → Leads more first next old rest all
leads_on {seen} {more} {first} {now} {next} {old} {ds} {left} {rest} {all} next-is h k = on (subst (λ xs. Leads seen first now old xs all) next-is h) where
  on : Leads seen first now old (ds ++ rest) all → Leads more first next old rest all
  on h = record {
    behind = ap (λ s. seen_behind s rest) k.behind ∙ (sym (behind_join seen ds rest) ∙ h.behind);
    notes =
        ap₂ (λ n s. noted n [] (found_among s rest)) k.notes k.behind
        ∙ (noted_twice now (found_among seen ds) (found_among (seen_behind seen ds) rest) ∙ (ap (noted now []) (sym (among_join seen ds rest)) ∙ h.notes));
  }

pub leads_end : {seen first : Seen} {now old : Noted} {left all : List Declared} → left ≡ [] → Leads seen first now old left all → Passes first seen old now all
leads_end {seen} {first} {now} {old} {left} {all} none h = ends (subst (λ xs. Leads seen first now old xs all) none h) where
  ends : Leads seen first now old [] all → Passes first seen old now all
  ends h = record { behind = h.behind; notes = sym (noted_nothing now) ∙ h.notes }

-- ---- heads

-- with one more function
pub with_next : (table more : s.Scope code_function.Function) (name : List ℕ) (f : code_function.Function) (e : Named Function) (rest : List (Named Function)) (all : s.Scope Function) →
    more ≡ with_name name f table → name ≡ e.name → function_of f ≡ e.meant → all_named (functions_of table) (e ∷ rest) ≡ all → all_named (functions_of more) rest ≡ all
with_next table more name f e rest all more-is name-is f-is h =
    ap (λ t. all_named t rest)
    (ap functions_of more-is ∙ (functions_more name f table ∙ ap₂ (λ n m. with_name n m (functions_of table)) name-is f-is))
    ∙ h

pub any_map : {X Y : Type 0} (test : Y → Bool) (f : X → Y) (xs : List X) → list_any (λ x. test (f x)) xs ≡ list_any test (map f xs)
any_map test f [] = refl
any_map test f (x ∷ xs) = ap (λ b. test (f x) || b) (any_map test f xs)
