-- Breaches that are noted one behind the other.
use Rattle.std.proofs.Common.{◌≡◌, refl, ap, ap₂, sym, ◌∙◌, List, [], ◌∷◌, ◌++◌, Bool, true, false, ◌&&◌}
use Rattle.c_types_operators.specs.declared.rule.Breach.{Breach}
use Rattle.c_types_operators.specs.Judging.{Noted, noted}
use Rattle.c_types_operators.proofs.JudgingLemmas.{noted-join, noted-none}
use Rattle.c_types_functions.specs.Functions.{Declared}
use Rattle.c_types_functions.specs.Finding.{is_fine, Finds, Seen, found_among, seen_behind, Passes}
use Rattle.c_types_functions.proofs.NameLemmas.{behind_join, among_join}

pub noted_twice : (s : Noted) (xs ys : List Breach) → noted (noted s [] xs) [] ys ≡ noted s [] (xs ++ ys)
noted_twice s xs ys = noted-join s [] [] xs ys

pub noted_nothing : (s : Noted) → noted s [] [] ≡ s
noted_nothing s = noted-none s

pub fine_join : (xs ys : List Breach) → is_fine (xs ++ ys) ≡ (is_fine xs && is_fine ys)
fine_join [] ys = refl
fine_join (x ∷ xs) ys = refl

-- two parts, one behind the other
pub finds_both : (a b d : Noted) (xs ys : List Breach) (one other : Bool) → Finds a b xs one → Finds b d ys other → Finds a d (xs ++ ys) (one && other)
finds_both a b d xs ys one other h k = record {
  notes = k.notes ∙ (ap (λ n. noted n [] ys) h.notes ∙ noted_twice a xs ys);
  tells = ap₂ (λ x y. x && y) h.tells k.tells ∙ sym (fine_join xs ys);
}

pub passes_both : (s t u : Seen) (a b d : Noted) (xs ys : List Declared) → Passes s t a b xs → Passes t u b d ys → Passes s u a d (xs ++ ys)
passes_both s t u a b d xs ys h k = record {
  behind = k.behind ∙ (ap (λ v. seen_behind v ys) h.behind ∙ sym (behind_join s xs ys));
  notes =
      k.notes
      ∙ (ap₂ (λ n v. noted n [] (found_among v ys)) h.notes h.behind
      ∙ (noted_twice a (found_among s xs) (found_among (seen_behind s xs) ys) ∙ ap (noted a []) (sym (among_join s xs ys))));
}
