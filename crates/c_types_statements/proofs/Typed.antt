-- What is judged of parts, as a walk has seen it.
use Rattle.std.proofs.Common.{◌≡◌, refl, ap, ap₂, sym, ◌∙◌, subst, ℕ, length, Bool, true, false, cond, ◌&&◌, List, [], ◌∷◌, ◌++◌, Option, Some, None}
use Rattle.std.specs.Option.{option_map}
use Rattle.std.proofs.lemmas.List.{append-nil, append_assoc}
use Rattle.ib_meaning.specs.declared.place.Place.{Place}
use Rattle.c_layout.specs.Layout.{Texts}
use Rattle.c_typed.specs.declared.rule.Rule.{Rule}
use Rattle.c_types_operators.specs.declared.rule.Breach.{Breach}
use Rattle.c_types_operators.specs.Rules.{Judged, Fine, Broken, breaches, first_from}
use Rattle.c_types_operators.specs.Scopes.{Scope, inner, outer}
use Rattle.c_types_operators.specs.Judging.{Noted, noted, kept, Judges, judges}
use Rattle.c_types_operators.proofs.JudgingLemmas.{first_from-join}
use Rattle.c_types_operators.specs.Parts.{◌<*>◌, also}
use Rattle.c_types_statements.specs.Statements.{At, number, numbered, past_texts}
use Rattle.c_types_statements.specs.Keeping.{Seen, Passes, Types, Finds, is_empty, ◌<?>◌}

-- ---- from what the calls for expressions tell

abbrev at_of : ℕ → Noted → At
at_of k s = record { variable = k; places = s.places; texts = s.texts }

abbrev seen : Scope → ℕ → Noted → Seen
seen Γ k s = record { scope = Γ; at = at_of k s; first = s.first }

pub typed : {X A : Type 0} {view : X → A} {before now : Noted} {xs : Texts} {j : Judged A} {answer : Option X} (Γ : Scope) (k : ℕ) →
    Judges view before xs j answer now → Types (seen Γ k before) (seen Γ k now) Γ (past_texts xs (at_of k before)) j (option_map view answer)
unfolding noted
typed {before = before} Γ k (judges means is) = record {
  known = refl;
  behind = ap (λ s. at_of k s) is;
  noted = ap (λ s. s.first) is;
  means = means;
}

pub finds_one : {before now : Noted} {b : Breach} (Γ : Scope) (k : ℕ) → now ≡ noted before [] (b ∷ []) → Finds (seen Γ k before) (seen Γ k now) Γ (b ∷ []) false
unfolding noted
finds_one {before} {now} {b} Γ k is = record {
  noted = ap (λ s. seen Γ k s) is ∙ ap (λ texts. seen Γ k (record before { texts = texts; first = first_from before.first (b ∷ []) })) (append-nil before.texts);
  tells = refl;
}

-- ---- parts one behind the other

kept-with : {A B : Type 0} (f : Judged (A → B)) (j : Judged A) → kept (f <*> j) ≡ (kept f <?> kept j)
kept-with (Fine f) (Fine a) = refl
kept-with (Fine f) (Broken first more) = refl
kept-with (Broken first more) (Fine a) = refl
kept-with (Broken first more) (Broken second others) = refl

breaches-with : {A B : Type 0} (f : Judged (A → B)) (j : Judged A) → breaches (f <*> j) ≡ breaches f ++ breaches j
breaches-with (Fine f) (Fine a) = refl
breaches-with (Fine f) (Broken first more) = refl
breaches-with (Broken first more) j = refl

-- what is made of parts that follow
pub makes : {A : Type 0} {s : Seen} (a : A) → Types s s s.scope s.at (Fine a) (Some a)
makes a = record { known = refl; behind = refl; noted = refl; means = refl }

-- what is made of the parts of a statement, from its number
pub begins : {A : Type 0} {s s1 : Seen} {n : ℕ} (p : Place) (g : ℕ → A) → n ≡ length s.at.places → s1 ≡ record s { at = numbered p s.at } →
    Types s s1 s.scope (numbered p s.at) (Fine (g (number s.at))) (Some (g n))
begins p g same is = record {
  known = ap (λ t. t.scope) is;
  behind = ap (λ t. t.at) is;
  noted = ap (λ t. t.first) is;
  means = ap (λ k. Some (g k)) same;
}

-- a part as it stands at equal names and an equal place
moved : {A : Type 0} {s s1 : Seen} {Γ0 Γ : Scope} {at0 at : At} {y : Option A} (F : Scope → At → Scope) (P : Scope → At → At) (K : Scope → At → Judged A) →
    Γ0 ≡ Γ → at0 ≡ at → Types s s1 (F Γ0 at0) (P Γ0 at0) (K Γ0 at0) y → Types s s1 (F Γ at) (P Γ at) (K Γ at) y
moved {s = s} {s1} {Γ0} {Γ} {at0} {at} {y} F P K known behind h =
    subst (λ g. Types s s1 (F g at) (P g at) (K g at) y) known (subst (λ a. Types s s1 (F Γ0 a) (P Γ0 a) (K Γ0 a) y) behind h)

-- one part more, which is judged where the parts before it leave off
pub with_part : {A B : Type 0} {s0 s1 s2 : Seen} {Γ : Scope} {at : At} {f : Judged (A → B)} {x : Option (A → B)} {y : Option A}
    (F : Scope → At → Scope) (P : Scope → At → At) (K : Scope → At → Judged A) →
    Types s0 s1 Γ at f x → Types s1 s2 (F s1.scope s1.at) (P s1.scope s1.at) (K s1.scope s1.at) y → Types s0 s2 (F Γ at) (P Γ at) (f <*> K Γ at) (x <?> y)
with_part {s0 = s0} {s1} {s2} {Γ} {at} {f} {x} {y} F P K first next =
    let after : Types s1 s2 (F Γ at) (P Γ at) (K Γ at) y = moved F P K first.known first.behind next in
    record {
      known = after.known;
      behind = after.behind;
      noted =
          after.noted ∙ ap (λ b. first_from b (breaches (K Γ at))) first.noted
          ∙ sym (first_from-join s0.first (breaches f) (breaches (K Γ at)))
          ∙ ap (λ found. first_from s0.first found) (sym (breaches-with f (K Γ at)));
      means = ap₂ (λ g a. g <?> a) first.means after.means ∙ sym (kept-with f (K Γ at));
    }

-- the same part, as the contract says it
pub typed_as : {A : Type 0} {s s1 : Seen} {Γ : Scope} {at at1 : At} {j : Judged A} {x y : Option A} → at ≡ at1 → x ≡ y → Types s s1 Γ at j y → Types s s1 Γ at1 j x
typed_as {s = s} {s1} {Γ} {at} {at1} {j} {x} {y} same answer h = record {
  known = h.known;
  behind = h.behind ∙ same;
  noted = h.noted;
  means = answer ∙ h.means;
}

-- a part in a scope of its own
pub scoped : {A : Type 0} {s0 s1 s2 s3 : Seen} {y : Option A} (F : Scope → At → Scope) (P : At → At) (K : Scope → At → Judged A) →
    ((Γ : Scope) (at : At) → outer (F (inner Γ) at) ≡ Γ) → s1 ≡ record s0 { scope = inner s0.scope } →
    Types s1 s2 (F s1.scope s1.at) (P s1.at) (K s1.scope s1.at) y → s3 ≡ record s2 { scope = outer s2.scope } →
    Types s0 s3 s0.scope (P s0.at) (K (inner s0.scope) s0.at) y
scoped {s0 = s0} {s1} {s2} {s3} {y} F P K closes enters h leaves =
    let inside : Types s1 s2 (F (inner s0.scope) s0.at) (P s0.at) (K (inner s0.scope) s0.at) y =
    moved F (λ Γ at. P at) K (ap (λ s. s.scope) enters) (ap (λ s. s.at) enters) h in
    record {
      known = ap (λ s. s.scope) leaves ∙ ap outer inside.known ∙ closes s0.scope s0.at;
      behind = ap (λ s. s.at) leaves ∙ inside.behind;
      noted = ap (λ s. s.first) leaves ∙ inside.noted ∙ ap (λ b. first_from b (breaches (K (inner s0.scope) s0.at))) (ap (λ s. s.first) enters);
      means = inside.means;
    }

pub entered : {A : Type 0} {s0 s1 s2 : Seen} {Γ : Scope} {at : At} {j : Judged A} {y : Option A} → Types s0 s1 Γ at j y → s2 ≡ record s1 { scope = inner s1.scope } → Types s0 s2 (inner Γ) at j y
entered h is = record {
  known = ap (λ s. s.scope) is ∙ ap inner h.known;
  behind = ap (λ s. s.at) is ∙ h.behind;
  noted = ap (λ s. s.first) is ∙ h.noted;
  means = h.means;
}

pub left : {A : Type 0} {s0 s1 s2 : Seen} {Γ : Scope} {at : At} {j : Judged A} {y : Option A} (f : Scope → Scope) → ((Γ : Scope) → outer (f (inner Γ)) ≡ Γ) →
    Types s0 s1 (f (inner Γ)) at j y → s2 ≡ record s1 { scope = outer s1.scope } → Types s0 s2 Γ at j y
left {Γ = Γ} f closes h is = record {
  known = ap (λ s. s.scope) is ∙ ap outer h.known ∙ closes Γ;
  behind = ap (λ s. s.at) is ∙ h.behind;
  noted = ap (λ s. s.first) is ∙ h.noted;
  means = h.means;
}

-- ---- rules that are broken too

kept-also : {A : Type 0} (found : List Breach) (j : Judged A) → kept (also found j) ≡ cond (is_empty found) (kept j) None
kept-also [] j = refl
kept-also (b ∷ found) j = refl

breaches-also : {A : Type 0} (found : List Breach) (j : Judged A) → breaches (also found j) ≡ found ++ breaches j
breaches-also [] j = refl
breaches-also (b ∷ found) j = refl

pub map-cond : {X A : Type 0} (view : X → A) (b : Bool) (x : Option X) → option_map view (cond b x None) ≡ cond b (option_map view x) None
map-cond view true x = refl
map-cond view false x = refl

empty-join : {A : Type 0} (xs ys : List A) → is_empty (xs ++ ys) ≡ (is_empty xs && is_empty ys)
empty-join [] ys = refl
empty-join (x ∷ xs) ys = refl

pub finds_both : {s0 s1 s2 : Seen} {Γ : Scope} {xs : List Breach} {a b : Bool} (R : Scope → List Breach) →
    Finds s0 s1 Γ xs a → Finds s1 s2 s1.scope (R s1.scope) b → Finds s0 s2 Γ (xs ++ R Γ) (a && b)
finds_both {s0} {s1} {s2} {Γ} {xs} {a} {b} R first next =
    let after : Finds s1 s2 Γ (R Γ) b = subst (λ g. Finds s1 s2 g (R g) b) (ap (λ s. s.scope) first.noted) next in
    record {
      noted =
          after.noted ∙ ap {A = Seen} (λ s. record s { scope = Γ; first = first_from s.first (R Γ) }) first.noted
          ∙ ap (λ one. record s0 { scope = Γ; first = one }) (sym (first_from-join s0.first xs (R Γ)));
      tells = ap₂ (λ p q. p && q) first.tells after.tells ∙ sym (empty-join xs (R Γ));
    }

-- behind breaches that are found first
pub also_typed : {A : Type 0} {s0 s1 s2 : Seen} {Γ : Scope} {found : List Breach} {fine : Bool} {y answer : Option A}
    (F : Scope → At → Scope) (P : Scope → At → At) (K : Scope → At → Judged A) →
    Finds s0 s1 Γ found fine → Types s1 s2 (F s1.scope s1.at) (P s1.scope s1.at) (K s1.scope s1.at) y → answer ≡ cond fine y None →
    Types s0 s2 (F Γ s0.at) (P Γ s0.at) (also found (K Γ s0.at)) answer
also_typed {s0 = s0} {s1} {s2} {Γ} {found} {fine} {y} {answer} F P K first next is =
    let after : Types s1 s2 (F Γ s0.at) (P Γ s0.at) (K Γ s0.at) y = moved F P K (ap (λ s. s.scope) first.noted) (ap (λ s. s.at) first.noted) next in
    record {
      known = after.known;
      behind = after.behind;
      noted =
          after.noted ∙ ap (λ b. first_from b (breaches (K Γ s0.at))) (ap (λ s. s.first) first.noted)
          ∙ sym (first_from-join s0.first found (breaches (K Γ s0.at)))
          ∙ ap (λ all. first_from s0.first all) (sym (breaches-also found (K Γ s0.at)));
      means = is ∙ ap₂ (λ b a. cond b a None) first.tells after.means ∙ sym (kept-also found (K Γ s0.at));
    }

-- a part that is kept where no rule was broken before it
pub kept_where : {X A : Type 0} {answer : Option X} (view : X → A) (fine : Bool) (x : Option X) → answer ≡ cond fine x None → option_map view answer ≡ cond fine (option_map view x) None
kept_where view fine x is = ap (option_map view) is ∙ map-cond view fine x

-- a part that is judged for its breaches alone
pub passes_after : {A : Type 0} {s0 s1 s2 : Seen} {Γ : Scope} {found : List Breach} {fine : Bool} {y : Option A}
    (F : Scope → At → Scope) (P : Scope → At → At) (K : Scope → At → Judged A) →
    Finds s0 s1 Γ found fine → Types s1 s2 (F s1.scope s1.at) (P s1.scope s1.at) (K s1.scope s1.at) y →
    Passes s0 s2 (F Γ s0.at) (P Γ s0.at) (found ++ breaches (K Γ s0.at))
passes_after {s0 = s0} {s1} {s2} {Γ} {found} {fine} {y} F P K first next =
    let after : Types s1 s2 (F Γ s0.at) (P Γ s0.at) (K Γ s0.at) y = moved F P K (ap (λ s. s.scope) first.noted) (ap (λ s. s.at) first.noted) next in
    record {
      known = after.known;
      behind = after.behind;
      noted =
          after.noted ∙ ap (λ b. first_from b (breaches (K Γ s0.at))) (ap (λ s. s.first) first.noted)
          ∙ sym (first_from-join s0.first found (breaches (K Γ s0.at)));
    }

-- behind what only moves the place
pub after : {A : Type 0} {s0 s1 s2 : Seen} {y : Option A} (g : At → At) (F : Scope → At → Scope) (P : Scope → At → At) (K : Scope → At → Judged A) →
    s1 ≡ record s0 { at = g s0.at } → Types s1 s2 (F s1.scope s1.at) (P s1.scope s1.at) (K s1.scope s1.at) y →
    Types s0 s2 (F s0.scope (g s0.at)) (P s0.scope (g s0.at)) (K s0.scope (g s0.at)) y
after {s0 = s0} {s1} {s2} {y} g F P K is h =
    let here : Types s1 s2 (F s0.scope (g s0.at)) (P s0.scope (g s0.at)) (K s0.scope (g s0.at)) y = moved F P K (ap (λ s. s.scope) is) (ap (λ s. s.at) is) h in
    record {
      known = here.known;
      behind = here.behind;
      noted = here.noted ∙ ap (λ b. first_from b (breaches (K s0.scope (g s0.at)))) (ap (λ s. s.first) is);
      means = here.means;
    }

-- ---- lists, part by part

-- Whatever is left means, the whole means with it.
pub record Leads {A B : Type 0} (old now : Seen) (x : Option (A → B)) (rest : Judged A) (whole : Judged B) : Type 0 where
  pub noted : first_from now.first (breaches rest) ≡ first_from old.first (breaches whole)
  pub means : (x <?> kept rest) ≡ kept whole

same-option : {A : Type 0} (f : A → A) (o : Option A) → ((a : A) → f a ≡ a) → (Some f <?> o) ≡ o
same-option f (Some a) same = ap Some (same a)
same-option f None same = refl

pub leads_all : {A : Type 0} {s : Seen} {j : Judged A} (f : A → A) → ((a : A) → f a ≡ a) → Leads s s (Some f) j j
leads_all {j = j} f same = record { noted = refl; means = same-option f (kept j) same }

pub leads_on : {A B C D : Type 0} {s0 s1 s2 : Seen} {Γ : Scope} {at : At} {x : Option (C → D)} {x1 : Option (B → D)} {y : Option A} {j : Judged A} {whole : Judged D}
    (f : A → B → C) (K : Scope → At → Judged B) →
    Leads s0 s1 x (Fine f <*> j <*> K Γ at) whole → Types s1 s2 Γ at j y → ((o : Option B) → (x1 <?> o) ≡ (x <?> (Some f <?> y <?> o))) →
    Leads s0 s2 x1 (K s2.scope s2.at) whole
leads_on {s0 = s0} {s1} {s2} {Γ} {at} {x} {x1} {y} {j} {whole} f K leads h step =
    let same : K s2.scope s2.at ≡ K Γ at = ap₂ K h.known h.behind in
    record {
      noted =
          ap (λ k. first_from s2.first (breaches k)) same
          ∙ ap (λ b. first_from b (breaches (K Γ at))) h.noted
          ∙ sym (first_from-join s1.first (breaches j) (breaches (K Γ at)))
          ∙ ap (λ found. first_from s1.first (found ++ breaches (K Γ at))) (sym (breaches-with (Fine f) j))
          ∙ ap (λ found. first_from s1.first found) (sym (breaches-with (Fine f <*> j) (K Γ at)))
          ∙ leads.noted;
      means =
          ap (λ k. x1 <?> kept k) same ∙ step (kept (K Γ at))
          ∙ ap (λ a. x <?> (Some f <?> a <?> kept (K Γ at))) h.means
          ∙ ap (λ g. x <?> (g <?> kept (K Γ at))) (sym (kept-with (Fine f) j))
          ∙ ap (λ o. x <?> o) (sym (kept-with (Fine f <*> j) (K Γ at)))
          ∙ leads.means;
    }

pub leads_end : {A B : Type 0} {s0 s : Seen} {Γ : Scope} {at : At} {x : Option (A → B)} {none : A} {whole : Judged B} {answer : Option B} →
    Leads s0 s x (Fine none) whole → s.scope ≡ Γ → s.at ≡ at → answer ≡ (x <?> Some none) → Types s0 s Γ at whole answer
leads_end leads known behind is = record { known = known; behind = behind; noted = leads.noted; means = is ∙ leads.means }
