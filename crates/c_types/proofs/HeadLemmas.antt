-- What the judgement of a head notes, as a walk has seen it.
use Rattle.std.proofs.Common.{◌≡◌, refl, ap, sym, ◌∙◌, subst, ℕ, Bool, ◌&&◌, List, [], ◌∷◌, ◌++◌}
use Rattle.std.proofs.lemmas.List.{append-nil}
use Rattle.c_types_operators.specs.declared.rule.Breach.{Breach}
use Rattle.c_types_operators.specs.Rules.{first_from}
use Rattle.c_types_operators.specs.Scopes.{Scope}
use Rattle.c_types_operators.specs.Judging.{Noted, noted}
use Rattle.c_types_functions.specs.Finding as heads
use Rattle.c_types_statements.specs.Keeping.{Seen, Finds, is_empty}
use Rattle.c_types_statements.proofs.Typed.{finds_both}

-- with these names, behind so many variables
abbrev pub seen_with : Scope → ℕ → Noted → Seen
seen_with Γ k s = record { scope = Γ; at = record { variable = k; places = s.places; texts = s.texts }; first = s.first }

empty_is : (found : List Breach) → heads.is_fine found ≡ is_empty found
empty_is [] = refl
empty_is (b ∷ found) = refl

pub finds_noted : {before now : Noted} {found : List Breach} {fine : Bool} (Γ : Scope) (k : ℕ) →
    heads.Finds before now found fine → Finds (seen_with Γ k before) (seen_with Γ k now) Γ found fine
unfolding noted
finds_noted {before} {now} {found} {fine} Γ k h = record {
  noted =
      ap (seen_with Γ k) h.notes
      ∙ ap (λ texts. seen_with Γ k (record before { texts = texts; first = first_from before.first found })) (append-nil before.texts);
  tells = h.tells ∙ empty_is found;
}

-- a head that breaks the rule on signatures or not, and what it breaks by itself
pub judged : {s0 s1 s2 : Seen} {found more : List Breach} {fits good fine : Bool} →
    Finds s0 s1 s0.scope found fits → Finds s1 s2 s1.scope more good → fine ≡ (fits && good) → Finds s0 s2 s0.scope (found ++ more) fine
judged {s0} {s1} {s2} {found} {more} first next is = subst (λ b. Finds s0 s2 s0.scope (found ++ more) b) (sym is) (finds_both (λ Γ. more) first next)
