-- What is judged beside a rule that is tested before.
use Rattle.std.proofs.Common.{◌≡◌, refl, ap, sym, ◌∙◌, subst, List, [], ◌∷◌, Bool, true, false, Option, None, cond}
use Rattle.std.proofs.lemmas.List.{append-nil}
use Rattle.ib_meaning.specs.declared.place.Place.{Place}
use Rattle.c_layout.specs.Layout.{Texts}
use Rattle.c_typed.specs.declared.rule.Rule.{Rule}
use Rattle.c_types_operators.specs.declared.rule.Breach.{Breach}
use Rattle.c_types_operators.specs.Rules.{Judged, breaches}
use Rattle.c_types_operators.specs.Parts.{breach, broken_if, also, misplaced}
use Rattle.c_types_operators.specs.Judging.{Noted, noted, Judges, judges}
use Rattle.c_types_operators.proofs.JudgingLemmas.{noted-join, noted-none, noted-texts}

-- A breach adds no string literal.
same-texts : (s s1 : Noted) (found : List Breach) → s1 ≡ noted s [] found → s1.texts ≡ s.texts
same-texts s s1 found e = ap (λ n. n.texts) e ∙ (noted-texts s [] found ∙ append-nil s.texts)

-- where no rule is broken
pub nothing_noted : (s : Noted) (b : Bool) (rule : Rule) (p : Place) → b ≡ false → s ≡ noted s [] (broken_if b rule p)
nothing_noted s b rule p none = subst (λ b. s ≡ noted s [] (broken_if b rule p)) (sym none) (sym (noted-none s))

module _ {X A : Type 0} {v : X → A} {s s1 now : Noted} {xs : Texts} where
  also-judged : (b : Bool) (rule : Rule) (p : Place) (j : Judged A) {part : Option X} → s1 ≡ noted s [] (broken_if b rule p) → Judges v s1 xs j part now →
      Judges v s xs (also (broken_if b rule p) j) (cond b None part) now
  also-judged true rule p j same (judges e n) = judges refl (n ∙ (ap (λ t. noted t xs (breaches j)) same ∙ noted-join s [] xs (breach rule p ∷ []) (breaches j)))
  also-judged false rule p j same (judges e n) = judges e (n ∙ ap (λ t. noted t xs (breaches j)) (same ∙ noted-none s))

  -- a part, behind a rule that was tested
  pub also_judged : (b tested : Bool) (rule : Rule) (p : Place) (K : Texts → Judged A) {part answer : Option X} → b ≡ tested → s1 ≡ noted s [] (broken_if b rule p) →
      Judges v s1 xs (K s1.texts) part now → answer ≡ cond b None part → Judges v s xs (also (broken_if tested rule p) (K s.texts)) answer now
  also_judged b tested rule p K {part} {answer} test same h is =
      subst (λ t. Judges v s xs (also (broken_if t rule p) (K s.texts)) answer now) test
      (subst (λ o. Judges v s xs (also (broken_if b rule p) (K s.texts)) o now) (sym is)
      (also-judged b rule p (K s.texts) same (subst (λ texts. Judges v s1 xs (K texts) part now) (same-texts s s1 (broken_if b rule p) same) h)))

module _ {X A Y B : Type 0} {u : X → A} {v : Y → B} {s s1 now : Noted} {xs : Texts} where
  misplaced-judged : (rule : Rule) (p : Place) (j : Judged A) {part : Option X} → s1 ≡ noted s [] (breach rule p ∷ []) → Judges u s1 xs j part now → Judges v s xs (misplaced rule p j) None now
  misplaced-judged rule p j same (judges e n) = judges refl (n ∙ (ap (λ t. noted t xs (breaches j)) same ∙ noted-join s [] xs (breach rule p ∷ []) (breaches j)))

  -- a part that stands where none may
  pub misplaced_judged : (rule : Rule) (p : Place) (K : Texts → Judged A) {part : Option X} → s1 ≡ noted s [] (breach rule p ∷ []) →
      Judges u s1 xs (K s1.texts) part now → Judges v s xs (misplaced rule p (K s.texts)) None now
  misplaced_judged rule p K {part} same h =
      misplaced-judged rule p (K s.texts) same (subst (λ texts. Judges u s1 xs (K texts) part now) (same-texts s s1 (breach rule p ∷ []) same) h)
