-- A program that is typed from a well-formed tree, within the limits, keeps all that code made of it relies on.
use Rattle.std.proofs.Common.{◌≡◌, ℕ, suc, ◌+◌, ◌<◌, ◌≤◌, nat_lt, ◌||◌, Bool, true, false, cond, List, [], ◌∷◌, length, map, refl, sym, ap, ◌∙◌, subst, arith, ltb-false, le_refl, Option, Some, None}
use Rattle.std.specs.Prelude.{slice_get, MatchOption, bytes_eq, codes, find}
use Rattle.std.specs.List.{All, list_any}
use Rattle.std.proofs.lemmas.List.Elements.{All-nil, All-cons}
use Rattle.std.proofs.lemmas.Slice.Eq.{bytes_eq-Decides}
use Rattle.c_ast.specs.declared.token.Token.{Token}
use Rattle.c_ast.specs.Cut.{AreTokens}
use Rattle.c_ast.specs.Grammar.{IsUnit}
use Rattle.c_ast.specs.Trees as c
use Rattle.c_typed.specs.declared.rule.Rule.TheVariants.{NoMain}
use Rattle.c_typed.specs.Program.{Program, main_in}
use Rattle.c_typed.specs.Tree as t
use Rattle.c_scopes.specs.Scopes.{outermost}
use Rattle.c_layout.specs.declared.data.GlobalData.{GlobalData}
use Rattle.c_layout.specs.Layout.{Texts, first_address, start_of, addresses, behind, text_addresses, behind_texts, image_size}
use Rattle.c_layout.specs.Sizes.{bytes_of}
use Rattle.c_layout.proofs.Lengths.{at_behind, at_behind_texts, length_image}
use Rattle.c_types_operators.specs.Rules.{Judged, Fine, Broken}
use Rattle.c_types_operators.specs.Parts.{broken_if}
use Rattle.c_types_operators.specs.Scopes.{Scope}
use Rattle.c_types_functions.specs.Functions.{Head, bodies, is_main, lacks_main, with_body, functions_known, redeclared_after, all_declared}
use Rattle.c_types_units.specs.Units.{Parts, items, past_items, file_start, whole_breaches, judged}
use Rattle.c_types_units.specs.Typing.{program_from, verdict, verdict_of, keeps_rules}
use Rattle.c_program.specs.Limits.{globals_limit, is_large, framed, Limited, limited, within, large_globals, large_frame, program_of}
use Rattle.c_program.specs.Keeping.{Keeps, KeepsWithin}
use Rattle.c_formed.proofs.Tokens.{AreBytes}
use Rattle.c_formed.proofs.Trees.{source_formed}
use Rattle.c_kept.specs.Kept.{KeepsFunction, KeepsProgram}
use Rattle.c_kept.specs.Numbered.{KeepsNumbers}
use Rattle.c_kept.specs.Weights.{KeepsWeights}
use Rattle.c_kept.specs.WellFormed.{FormedUnit}
use Rattle.c_program.specs.Nodes.{nodes_unit}
use Rattle.c_types_kept.proofs.Judgements.{differ, by_test, Gives, beside, first_none, second_none, not_so}
use Rattle.c_types_kept.proofs.Statements.{not_false}
use Rattle.c_types_kept.proofs.Names.{AreMade, known_kept}
use Rattle.c_types_kept.proofs.Numbers.{AreNumbered, numbered_all, items_numbered, all_named, bodies_differ}
use Rattle.c_types_kept.proofs.Programs.{AllMade, all_made, AreKept, all_kept}
use Rattle.c_types_kept.proofs.StatementWeights.{all_slots, items_light}

-- ---- addresses

addresses_many : (at : ℕ) (gs : List GlobalData) → length (addresses at gs) ≡ length gs
addresses_many at [] = refl
addresses_many at (g ∷ gs) = ap suc (addresses_many (start_of at g.shape + bytes_of g.shape) gs)

texts_many : (at : ℕ) (xs : Texts) → length (text_addresses at xs) ≡ length xs
texts_many at [] = refl
texts_many at (x ∷ xs) = ap suc (texts_many (at + length x + 1) xs)

addresses_below : (at : ℕ) (gs : List GlobalData) → behind at gs < 1048576 → All (λ address. address < 1048576) (addresses at gs)
addresses_below at [] h = All-nil (λ address. address < 1048576)
addresses_below at (g ∷ gs) h =
    let next = start_of at g.shape + bytes_of g.shape in
    let later = at_behind next gs in
    All-cons (λ address. address < 1048576) (start_of at g.shape) (addresses next gs) (omega (arith, later, h)) (addresses_below next gs h)

texts_below : (at : ℕ) (xs : Texts) → behind_texts at xs < 1048576 → All (λ address. address < 1048576) (text_addresses at xs)
texts_below at [] h = All-nil (λ address. address < 1048576)
texts_below at (x ∷ xs) h =
    let later = at_behind_texts (at + length x + 1) xs in
    All-cons (λ address. address < 1048576) at (text_addresses (at + length x + 1) xs) (omega (arith, later, h)) (texts_below (at + length x + 1) xs h)

-- ---- limits

module _ (p q : Program) (bytes : ℕ) where
  of_frame : (found : Option t.Function) → framed found p ≡ within q → (found ≡ None) × (q ≡ p)
  of_frame None e = let same : p ≡ q = cc in (refl, sym same)
  of_frame (Some f) e = let z : ⊥ = cc in absurd z

  of_limits : (b : Bool) (found : Option t.Function) → cond b (large_globals bytes) (framed found p) ≡ within q → (b ≡ false) × (found ≡ None) × (q ≡ p)
  of_limits true found e = let z : ⊥ = cc in absurd z
  of_limits false found e = let both = of_frame found e in (refl, both.0, both.1)

kept_all : (p : Program) (fs : List t.Function) → AreKept p fs → find is_large fs ≡ None → All (KeepsFunction p) fs
kept_all p [] h none = All-nil (KeepsFunction p)
kept_all p (f ∷ fs) h none =
    let small = not_first (is_large f) none in
    All-cons (KeepsFunction p) f fs (h.0 (ltb-false 262144 f.frame small.0)) (kept_all p fs h.1 small.1)
  where
    not_first : (b : Bool) → cond b (Some f) (find is_large fs) ≡ None → (b ≡ false) × (find is_large fs ≡ None)
    not_first true e = let z : ⊥ = cc in absurd z
    not_first false e = (refl, e)

-- ---- `main`

or_rest : (a b : Bool) → (a ≡ true → ⊥) → (a || b) ≡ true → b ≡ true
or_rest true b never e = absurd (never refl)
or_rest false b never e = e

main_there : (heads : List Head) (fs : List t.Function) → AreMade heads fs → list_any is_main heads ≡ true → MatchOption (slice_get fs (main_in (map (λ f. f.name) fs))) ⊥ (λ f. f.params ≡ [])
main_there [] [] h any = absurd (differ (sym any))
main_there [] (f ∷ fs) h any = absurd h
main_there (x ∷ xs) [] h any = absurd h
main_there (x ∷ xs) (f ∷ fs) h any =
    by_test (λ k. MatchOption (slice_get (f ∷ fs) k) ⊥ (λ f. f.params ≡ [])) (bytes_eq (codes "main") f.name) 0 (suc (main_in (map (λ f. f.name) fs)))
    (λ is. h.0.main ((bytes_eq-Decides x.name (codes "main")).1 (sym ((bytes_eq-Decides (codes "main") f.name).0 is ∙ h.0.name))))
    (λ is_not. main_there xs fs h.1 (or_rest (is_main x) (list_any is_main xs) (λ is. differ (sym ((bytes_eq-Decides (codes "main") f.name).1 (sym ((bytes_eq-Decides x.name (codes "main")).0 is) ∙ sym h.0.name)) ∙ is_not)) any))

-- ---- the whole

pub record IsFile (unit : List c.Top) (parts : Parts) : Type 0 where
  pub main : list_any is_main (bodies unit) ≡ true
  pub once : redeclared_after [] (all_declared unit) ≡ []
  pub made : AllMade (with_body unit) unit 0 (past_items unit file_start).variable parts

file_made : (unit : List c.Top) → FormedUnit unit → Gives (IsFile unit) (judged unit)
file_made unit formed =
    let Γ : Scope = record { scopes = outermost; functions = functions_known unit } in
    beside (whole_breaches (lacks_main unit) unit) (items (with_body unit) Γ file_start unit) (λ none.
    let made = all_made (with_body unit) Γ file_start unit formed in
    record {
      by = λ parts is. record {
        once = second_none (broken_if (lacks_main unit) NoMain (record { line = 1; col = 1 })) (redeclared_after [] (all_declared unit)) none;
        main = not_false (list_any is_main (bodies unit)) (not_so (lacks_main unit) NoMain (record { line = 1; col = 1 }) (first_none (broken_if (lacks_main unit) NoMain (record { line = 1; col = 1 })) (redeclared_after [] (all_declared unit)) none));
        made = made.by parts is;
      };
    })

module _ (unit : List c.Top) (formed : FormedUnit unit) (parts : Parts) (typed : judged unit ≡ Fine parts) where
  abbrev texts : Texts
  texts = (past_items unit file_start).texts

  abbrev whole : Program
  whole = program_from parts (past_items unit file_start)

  functions_kept : AreKept whole parts.functions
  functions_kept =
      let Γ : Scope = record { scopes = outermost; functions = functions_known unit } in
      let file = (file_made unit formed).by parts typed in
      let strings = texts_many (behind first_address parts.globals) texts in
      let globals = addresses_many first_address parts.globals in
      let counted = file.made.globals in
      let kept = beside (whole_breaches (lacks_main unit) unit) (items (with_body unit) Γ file_start unit) (λ none.
      all_kept whole (with_body unit) Γ file_start unit (λ kinds. record { variables = (tt, tt); functions = known_kept whole kinds unit file.made.functions file.made.prototypes }) formed (omega (arith, strings)) (omega (arith, globals, counted))) in
      kept.by parts typed

  statements_numbered : AreNumbered (length whole.places) parts.functions
  statements_numbered =
      let Γ : Scope = record { scopes = outermost; functions = functions_known unit } in
      let numbered = beside (whole_breaches (lacks_main unit) unit) (items (with_body unit) Γ file_start unit) (λ none.
      items_numbered (length whole.places) (with_body unit) Γ file_start unit (le_refl (length whole.places))) in
      numbered.by parts typed

  pub numbers_kept : KeepsNumbers whole
  numbers_kept =
      let file = (file_made unit formed).by parts typed in
      record {
        statements = numbered_all (length whole.places) parts.functions statements_numbered;
        named = all_named unit parts.functions formed file.made.functions;
        differ = bodies_differ unit [] parts.functions file.once file.made.functions;
      }

  pub parts_kept : image_size parts.globals texts ≤ 524288 → find is_large parts.functions ≡ None → KeepsProgram whole
  parts_kept small frames =
      let file = (file_made unit formed).by parts typed in
      let of_texts = at_behind_texts (behind first_address parts.globals) texts in
      let long = length_image parts.globals texts in
      record {
        functions = kept_all whole parts.functions functions_kept frames;
        globals = addresses_below first_address parts.globals (omega (arith, small, of_texts));
        strings = texts_below (behind first_address parts.globals) texts (omega (arith, small));
        image = omega (arith, long, small);
        main = main_there (bodies unit) parts.functions file.made.functions file.main;
      }

-- what is typed within the limits is the program that its parts give
pub record Comes (unit : List c.Top) (p : Program) : Type 0 where
  pub parts : Parts
  pub typed : judged unit ≡ Fine parts
  pub whole : p ≡ program_from parts (past_items unit file_start)
  pub small : image_size parts.globals (past_items unit file_start).texts ≤ 524288
  pub frames : find is_large parts.functions ≡ None

judged_comes : (unit : List c.Top) (p : Program) (j : Judged Parts) → judged unit ≡ j → verdict_of j (past_items unit file_start) ≡ keeps_rules (within p) → Comes unit p
judged_comes unit p (Broken first more) is e = let z : ⊥ = cc in absurd z
judged_comes unit p (Fine parts) is e =
    let at = past_items unit file_start in
    let bytes = image_size parts.globals at.texts in
    let said : limited parts.functions parts.globals at.texts at.places ≡ within p = cc in
    let h = of_limits (program_of parts.functions parts.globals at.texts at.places) p bytes (nat_lt globals_limit bytes) (find is_large parts.functions) said in
    record { parts = parts; typed = is; whole = h.2; small = ltb-false 524288 bytes h.0; frames = h.1 }

-- The program of a well-formed tree that breaks no rule and is within the limits keeps all that its lowering relies on.
pub typed_keeps : (unit : List c.Top) (p : Program) → FormedUnit unit → verdict unit ≡ keeps_rules (within p) → KeepsProgram p
typed_keeps unit p formed e = let h = judged_comes unit p (judged unit) refl e in subst KeepsProgram (sym h.whole) (parts_kept unit formed h.parts h.typed h.small h.frames)

pub typed_numbers : (unit : List c.Top) (p : Program) → FormedUnit unit → verdict unit ≡ keeps_rules (within p) → KeepsNumbers p
typed_numbers unit p formed e = let h = judged_comes unit p (judged unit) refl e in subst KeepsNumbers (sym h.whole) (numbers_kept unit formed h.parts h.typed)

-- Its tree has at most four nodes for each of the source's, and its functions set the slots that they have.
pub typed_weighs : (unit : List c.Top) (p : Program) → verdict unit ≡ keeps_rules (within p) → KeepsWeights (nodes_unit unit) p
typed_weighs unit p e =
    let h = judged_comes unit p (judged unit) refl e in
    let Γ : Scope = record { scopes = outermost; functions = functions_known unit } in
    let light = beside (whole_breaches (lacks_main unit) unit) (items (with_body unit) Γ file_start unit) (λ none. items_light (with_body unit) Γ file_start unit) in
    let parts = light.by h.parts h.typed in
    subst (KeepsWeights (nodes_unit unit)) (sym h.whole) (record { light = parts.0; slots = all_slots h.parts.functions parts.1 })

-- What is within the limits keeps all of this.
pub typed_within : (unit : List c.Top) (said : Limited) → FormedUnit unit → keeps_rules said ≡ verdict unit → KeepsWithin (nodes_unit unit) said
typed_within unit (within p) formed e = record { rules = typed_keeps unit p formed (sym e); numbers = typed_numbers unit p formed (sym e); weights = typed_weighs unit p (sym e) }
typed_within unit (large_globals bytes) formed e = tt
typed_within unit (large_frame bytes) formed e = tt

-- Whatever bytes are a source, what is typed of it within the limits keeps all of this.
pub source_keeps : (source : List ℕ) (tokens : List Token) (unit : List c.Top) (p : Program) → AreBytes source → AreTokens source tokens → IsUnit tokens unit → verdict unit ≡ keeps_rules (within p) → Keeps (nodes_unit unit) p
source_keeps source tokens unit p bytes are is e = typed_within unit (within p) (source_formed source tokens unit bytes are is) (sym e)
