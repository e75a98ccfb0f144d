-- What a walk over a file tells of its verdict.
use Rattle.std.proofs.Common.{◌≡◌, refl, ap, ap₂, sym, ◌∙◌, subst, ℕ, Bool, true, false, not, List, [], ◌∷◌, ◌++◌, Option, Some, None, is_some}
use Rattle.std.proofs.lemmas.List.{append-nil}
use Rattle.ib_meaning.proofs.Facts.{some_same}
use Rattle.ib_meaning.specs.declared.place.Place.{Place}
use Rattle.c_ast.specs.Trees as c
use Rattle.c_scopes.specs.Scopes as s
use Rattle.c_scopes.specs.Scopes.{outermost}
use Rattle.c_typed.specs.Program.{Program}
use Rattle.c_layout.specs.declared.data.GlobalData.{GlobalData}
use Rattle.c_layout.specs.Layout.{Texts}
use Rattle.c_types_functions.specs.Functions.{functions_known, lacks_main, with_body}
use Rattle.c_types_operators.specs.declared.rule.Breach.{Breach}
use Rattle.c_types_operators.specs.Rules.{Judged, Fine, Broken, breaches, first_from, first_breach}
use Rattle.c_types_operators.specs.Scopes as scopes
use Rattle.c_types_operators.specs.Scopes.{Scope}
use Rattle.c_types_operators.specs.Parts.{also}
use Rattle.c_types_operators.specs.Judging.{Noted, noted, kept}
use Rattle.c_types_operators.proofs.JudgingLemmas.{first_from-join, first_from-some}
use Rattle.c_program.specs.declared.error.CheckErr.{CheckErr}
use Rattle.c_program.specs.declared.error.CheckErr.TheVariants.{NoMemory}
use Rattle.c_kept.specs.WellFormed.{FormedUnit}
use Rattle.c_program.specs.Keeping.{KeepsWithin}
use Rattle.c_program.specs.Limits.{Limited, within, limited, program_of, Refuses}
use Rattle.c_program.specs.Nodes.{nodes_unit}
use Rattle.c_types_statements.specs.Keeping.{Seen, Types, Finds, is_empty}
use Rattle.c_types_statements.specs.Statements.{At}
use Rattle.c_types.specs.Making.{with_items}
use Rattle.c_types_units.specs.Units.{Parts, judged, items, whole_breaches, file_start, past_items}
use Rattle.c_types_units.specs.Typing.{verdict, verdict_of, keeps_rules, breaks_rule, IsTyped, IsBreach, Refused}
use Rattle.c_types_kept.proofs.Kept.{typed_within}
use Rattle.c_types.specs.Views.{Tells}
use Rattle.c_types.proofs.HeadLemmas.{seen_with}

-- ---- whether something was noted

empty_is : (found : List Breach) → not (is_some (first_from None found)) ≡ is_empty found
empty_is [] = refl
empty_is (b ∷ found) = ap (λ first. not (is_some first)) (first_from-some b found)

flipped : (a b : Bool) → a ≡ not b → b ≡ not a
flipped a true is = ap not (sym is)
flipped a false is = ap not (sym is)

-- what is found before all others, and what is found behind it
pub finds_whole : {s0 s1 s2 : Seen} {xs : List Breach} (ys : List Breach) {fits fine : Bool} →
    s0.first ≡ None → Finds s0 s1 s0.scope xs fits → s2 ≡ record s1 { first = first_from s1.first ys } → is_some s2.first ≡ not fine →
    Finds s0 s2 s0.scope (xs ++ ys) fine
finds_whole {s0} {s1} {s2} {xs} ys {fits} {fine} none first next tells =
    let all : s2 ≡ record s0 { first = first_from s0.first (xs ++ ys) } =
    next
    ∙ ap {A = Seen} (λ s. record s { first = first_from s.first ys }) first.noted
    ∙ ap (λ one. record s0 { first = one }) (sym (first_from-join s0.first xs ys)) in
    record {
      noted = all;
      tells = flipped (is_some s2.first) fine tells ∙ ap (λ s. not (is_some s.first)) all ∙ ap (λ one. not (is_some (first_from one (xs ++ ys)))) none ∙ empty_is (xs ++ ys);
    }

-- names that are declared twice, as a walk has seen them
pub noted_in : (before : Noted) {now : Noted} (found : List Breach) (Γ : Scope) (k : ℕ) → now ≡ noted before [] found →
    seen_with Γ k now ≡ record (seen_with Γ k before) { first = first_from before.first found }
unfolding noted
noted_in before {now} found Γ k is =
    ap (seen_with Γ k) is ∙ ap (λ texts. seen_with Γ k (record before { texts = texts; first = first_from before.first found })) (append-nil before.texts)

-- ---- what a walk tells

-- a walk from the file's start
pub told : {s0 s1 : Seen} {bodied functions : s.Scope scopes.Function} {no_main : Bool} {answer : Option Parts} {notes : Noted} (unit : List c.Top) →
    s0 ≡ record { scope = record { scopes = outermost; functions = functions }; at = file_start; first = None } →
    functions ≡ functions_known unit → bodied ≡ with_body unit → no_main ≡ lacks_main unit →
    Types s0 s1 (with_items s0.at unit s0.scope) (past_items unit s0.at) (also (whole_breaches no_main unit) (items bodied s0.scope s0.at unit)) answer →
    notes ≡ record { texts = s1.at.texts; places = s1.at.places; first = s1.first } →
    Tells unit answer notes
told {s0} {s1} {bodied} {functions} {no_main} {answer} {notes} unit start known bodies main h is =
    let judged_at : Seen → s.Scope scopes.Function → Bool → Judged Parts = λ s b m. also (whole_breaches m unit) (items b s.scope s.at unit) in
    let begun : s.Scope scopes.Function → Seen = λ fs. record { scope = record { scopes = outermost; functions = fs }; at = file_start; first = None } in
    let from_start : s0 ≡ begun (functions_known unit) = start ∙ ap begun known in
    let same : judged_at s0 bodied no_main ≡ judged unit =
    ap (λ s. judged_at s bodied no_main) from_start
    ∙ ap (λ b. judged_at (begun (functions_known unit)) b no_main) bodies
    ∙ ap (λ m. judged_at (begun (functions_known unit)) (with_body unit) m) main in
    let behind : s1.at ≡ past_items unit file_start = h.behind ∙ ap {A = Seen} (λ s. past_items unit s.at) from_start in
    record {
      means = h.means ∙ ap kept same;
      first = ap (λ n. n.first) is ∙ h.noted ∙ ap {A = Seen} (λ s. first_from s.first (breaches (judged_at s0 bodied no_main))) from_start ∙ ap (λ j. first_breach (breaches j)) same;
      places = ap (λ n. n.places) is ∙ ap (λ at. at.places) behind;
      texts = ap (λ n. n.texts) is ∙ ap (λ at. at.texts) behind;
    }

-- ---- the answer

kept-fine : {A : Type 0} (j : Judged A) (a : A) → Some a ≡ kept j → j ≡ Fine a
kept-fine (Fine b) a e = ap Fine (sym (some_same e))
kept-fine (Broken first more) a e = let no : false ≡ true = cc in cc

refused_memory : (at : At) (j : Judged Parts) → Refused (verdict_of j at) NoMemory
refused_memory at (Fine parts) = tt
refused_memory at (Broken first more) = tt

-- whatever the source
pub no_memory : (unit : List c.Top) → Refused (verdict unit) NoMemory
no_memory unit = refused_memory (past_items unit file_start) (judged unit)

-- without an answer there is a breach, which is noted
has_breach : (j : Judged Parts) → None ≡ kept j → is_some (first_breach (breaches j)) ≡ true
has_breach (Fine parts) e = let no : false ≡ true = cc in cc
has_breach (Broken first more) e = ap is_some (first_from-some first more)

pub noted_breach : {notes : Noted} (unit : List c.Top) → Tells unit None notes → is_some notes.first ≡ true
noted_breach unit h = ap is_some h.first ∙ has_breach (judged unit) h.means

-- and it is the one that is answered
breaks_noted : (at : At) (j : Judged Parts) (breach : Breach) → None ≡ kept j → Some breach ≡ first_breach (breaches j) → breaks_rule breach ≡ verdict_of j at
breaks_noted at (Fine parts) breach e is = let no : false ≡ true = cc in cc
breaks_noted at (Broken first more) breach e is = ap breaks_rule (some_same (is ∙ first_from-some first more))

pub refused_broken : {notes : Noted} {breach : Breach} (error : CheckErr) (unit : List c.Top) → Tells unit None notes → notes.first ≡ Some breach → IsBreach breach error → Refused (verdict unit) error
refused_broken {notes} {breach} error unit h first is =
    subst (λ said. Refused said error) (breaks_noted (past_items unit file_start) (judged unit) breach h.means (sym first ∙ h.first)) is

-- with one, by its limits
abbrev said_of : Parts → Noted → Limited
said_of parts notes = limited parts.functions parts.globals notes.texts notes.places

pub verdict_is : {notes : Noted} (unit : List c.Top) (parts : Parts) → Tells unit (Some parts) notes → keeps_rules (said_of parts notes) ≡ verdict unit
verdict_is {notes} unit parts h =
    ap₂ (λ texts places. keeps_rules (limited parts.functions parts.globals texts places)) h.texts h.places
    ∙ ap (λ j. verdict_of j (past_items unit file_start)) (sym (kept-fine (judged unit) parts h.means))

pub kept_within : {notes : Noted} {nodes : ℕ} {globals : List GlobalData} {texts : Texts} {places : List Place} (unit : List c.Top) (parts : Parts) →
    FormedUnit unit → Tells unit (Some parts) notes → nodes ≡ nodes_unit unit → globals ≡ parts.globals → texts ≡ notes.texts → places ≡ notes.places →
    KeepsWithin nodes (limited parts.functions globals texts places)
kept_within {notes} {nodes} {globals} {texts} {places} unit parts formed h counted gs ts ps =
    let said : Limited = limited parts.functions globals texts places in
    subst (λ (n : ℕ). KeepsWithin n said) (sym counted)
    (typed_within unit said formed
    (ap (λ (g : List GlobalData). keeps_rules (limited parts.functions g texts places)) gs
    ∙ ap₂ (λ texts places. keeps_rules (limited parts.functions parts.globals texts places)) ts ps
    ∙ verdict_is unit parts h))

pub laid_out : {notes : Noted} {p : Program} (unit : List c.Top) (parts : Parts) → Tells unit (Some parts) notes →
    said_of parts notes ≡ within p → verdict unit ≡ keeps_rules (within p)
laid_out unit parts h is = sym (verdict_is unit parts h) ∙ ap keeps_rules is

pub typed : {notes : Noted} {p : Program} (unit : List c.Top) (parts : Parts) → Tells unit (Some parts) notes →
    p ≡ program_of parts.functions parts.globals notes.texts notes.places → IsTyped unit p
typed unit parts h is =
    (parts, (kept-fine (judged unit) parts h.means, is ∙ ap₂ (λ texts places. program_of parts.functions parts.globals texts places) h.texts h.places))

pub refused_large : {notes : Noted} (error : CheckErr) (unit : List c.Top) (parts : Parts) → Tells unit (Some parts) notes →
    Refuses (said_of parts notes) error → Refused (verdict unit) error
refused_large {notes} error unit parts h refuses = subst (λ said. Refused said error) (verdict_is unit parts h) refuses
