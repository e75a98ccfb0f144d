-- A name means what the table holds for it.
use Rattle.std.proofs.Common.{◌≡◌, refl, ap, sym, ◌∙◌, ℕ, List, [], ◌∷◌, ◌++◌, Option, Some, None, Bool, false, cond, bytes_eq, is_some, true≢false, reverse}
use Rattle.std.proofs.lemmas.List.{reverse-append}
use Rattle.std.specs.Borrow.{Bor}
use Rattle.std.specs.Map.{lookup}
use Rattle.indexmap.specs.IndexMap.{IndexMap, insert_entry}
use Rattle.indexmap.proofs.CallerLemmas.{insert_entry-new}
use Rattle.c_scopes.specs.Scopes.{Scope, scope_of, meaning, with_name, first_meaning, or_outer}

pub meaning-lookup : {A : Type 0} (name : List ℕ) (entries : List (Bor (List ℕ) × A)) → meaning name (scope_of entries) ≡ lookup (λ (key : Bor (List ℕ)). bytes_eq name key.now) entries
meaning-lookup name [] = refl
meaning-lookup name (e ∷ es) = ap (λ rest. cond (bytes_eq name e.0.now) (Some e.1) rest) (meaning-lookup name es)

pub scope_of-more : {A : Type 0} (entries : List (Bor (List ℕ) × A)) (name : Bor (List ℕ)) (meant : A) → scope_of (entries ++ (name, meant) ∷ []) ≡ scope_of entries ++ record { name = name.now; meant = meant } ∷ []
scope_of-more [] name meant = refl
scope_of-more (e ∷ es) name meant = ap (λ rest. record { name = e.0.now; meant = e.1 } ∷ rest) (scope_of-more es name meant)

-- a name that a scope does not know goes last
pub with_name-new : {A : Type 0} (name : List ℕ) (meant : A) (scope : Scope A) → is_some (meaning name scope) ≡ false → scope ++ record { name = name; meant = meant } ∷ [] ≡ with_name name meant scope
with_name-new name meant scope new = rw new refl

is_none : {A : Type 0} (found : Option A) → is_some found ≡ false → found ≡ None
is_none None e = refl
is_none (Some a) e = absurd (true≢false e)

abbrev same_bytes : Bor (List ℕ) → Bor (List ℕ) → Bool
same_bytes k l = bytes_eq k.now l.now

pub declared_new : {A S : Type 0} (m : IndexMap (Bor (List ℕ)) A S) (name : Bor (List ℕ)) (meant : A) → is_some (meaning name.now (scope_of m.entries)) ≡ false →
    scope_of (insert_entry same_bytes m.entries name meant) ≡ with_name name.now meant (scope_of m.entries)
declared_new m name meant new =
    ap scope_of (insert_entry-new same_bytes m name meant (sym (meaning-lookup name.now m.entries) ∙ is_none (meaning name.now (scope_of m.entries)) new))
    ∙ scope_of-more m.entries name meant
    ∙ with_name-new name.now meant (scope_of m.entries) new

pub declared_is : {A S : Type 0} (m : IndexMap (Bor (List ℕ)) A S) (name : Bor (List ℕ)) (meant : A) (before : Scope A) (known : Option A) → scope_of m.entries ≡ before → known ≡ meaning name.now before → is_some known ≡ false →
    scope_of (insert_entry same_bytes m.entries name meant) ≡ with_name name.now meant before
declared_is m name meant before known view finds new =
    declared_new m name meant (ap (λ scope. is_some (meaning name.now scope)) view ∙ (ap is_some (sym finds) ∙ new)) ∙ ap (with_name name.now meant) view

-- the last table is the innermost scope
pub found-last : {A : Type 0} (name : List ℕ) (around : List (Scope A)) (innermost : Scope A) → first_meaning name (reverse (around ++ innermost ∷ [])) ≡ or_outer (meaning name innermost) (first_meaning name (reverse around))
found-last name around innermost = ap (first_meaning name) (reverse-append around (innermost ∷ []))
