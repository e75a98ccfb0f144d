-- What is surveyed part by part is surveyed as a whole.
use Rattle.std.proofs.Common.{◌≡◌, ℕ, suc, ◌+◌, List, [], ◌∷◌, ◌++◌, append_assoc, add-one, length, length-append, slice_set, map, Bool, true, false, refl, sym, ap, ◌∙◌, subst, arith, rules, ◌<◌, ◌≤◌, lt-ltb, le-ltb, Vec, Global, Box}
use Rattle.std.proofs.lemmas.List.{append-nil, drop_all}
use Rattle.std.proofs.Math.Seq.{drop-cons}
use Rattle.std.proofs.Math.ListN.{drop, get_or}
use Rattle.tac_code.specs.declared.code.Code.{Code as RCode, Row, Row_of-Code, end_of-Code, more_of-Code, items-the_row-Code, the_lemmas}
use Rattle.tac_code.specs.Views.{code_of, row_code}
use Rattle.tac_lowered.specs.Code.{Code, both, when, choose, repeat, until, Test, on, all_of}
use Rattle.tac_lowered.specs.Items.{Open, fresh, fresh_if, is_full, is_jump, owned, goes, goes_test, Loop, entry}
use Rattle.tac_emit.specs.declared.survey.Targets.{Targets}
use Rattle.tac_emit.specs.declared.survey.Survey.{Survey}
use Rattle.tac_emit.specs.Extents.{acts, acts_test, targets, targets_test, led, row_of, open_of, Surveys, SurveysCode, SurveysOwned, SurveysTest, SurveysTurns, Reserves, Sets}
use Rattle.tac_emit.specs.Parts.{parts, parts_row, parts_in}

row_items : (m : _) (row : Row_of-Code m) (last : Code) → row_code row last ≡ row_of (map code_of (items-the_row-Code m row)) last
row_items m end_of-Code last = refl
row_items m (more_of-Code {n = k} a rest) last = ap (both (code_of a)) (row_items k rest last)

pub view_row : (v : Vec RCode Global) (b : Box RCode Global) → code_of (Row v b) ≡ row_of (map code_of v.items) (code_of b.value)
view_row v b = search (rules, the_lemmas, row_items)

pub row_at : (a : RCode) (v : Vec RCode Global) (xs : List RCode) (b : Box RCode Global) → a ≡ Row v b → xs ≡ v.items → code_of a ≡ row_of (map code_of xs) (code_of b.value)
row_at a v xs b e f = ap code_of e ∙ view_row v b ∙ ap (λ l. row_of (map code_of l) (code_of b.value)) (sym f)

row_parts : (m : _) (row : Row_of-Code m) → parts_row row ≡ parts_in (items-the_row-Code m row)
row_parts m end_of-Code = refl
row_parts m (more_of-Code {n = k} a rest) = ap (λ n. suc (parts a + n)) (row_parts k rest)

parts_of_row : (v : Vec RCode Global) (b : Box RCode Global) → parts (Row v b) ≡ suc (parts_in v.items + parts b.value)
parts_of_row v b = search (rules, the_lemmas, row_parts)

pub row_counted : (a : RCode) (v : Vec RCode Global) (xs : List RCode) (b : Box RCode Global) → a ≡ Row v b → xs ≡ v.items → parts a ≡ suc (parts_in xs + parts b.value)
row_counted a v xs b e f = ap parts e ∙ parts_of_row v b ∙ ap (λ l. suc (parts_in l + parts b.value)) (sym f)

pub row_alone : (a : RCode) (v : Vec RCode Global) (b : Box RCode Global) → a ≡ Row v b → v.items ≡ [] → code_of a ≡ code_of b.value
row_alone a v b e none = row_at a v [] b e (sym none)

pub row_stays : (a : RCode) (v : Vec RCode Global) (b : Box RCode Global) → a ≡ Row v b → (v.items ≡ [] → ⊥) → is_jump (code_of a) ≡ false
row_stays a v b e some = ap is_jump (row_at a v v.items b e refl) ∙ go v.items some
  where
    go : (xs : List RCode) → (xs ≡ [] → ⊥) → is_jump (row_of (map code_of xs) (code_of b.value)) ≡ false
    go [] h = absurd (h refl)
    go (x ∷ xs) h = refl

pub row_enters : (a : RCode) (v : Vec RCode Global) (b : Box RCode Global) (x : Loop) (next label : ℕ) → a ≡ Row v b → (v.items ≡ [] → ⊥) → entry (code_of a) x next label ≡ label
row_enters a v b x next label e some = ap (λ c. entry c x next label) (row_at a v v.items b e refl) ∙ go v.items some
  where
    go : (xs : List RCode) → (xs ≡ [] → ⊥) → entry (row_of (map code_of xs) (code_of b.value)) x next label ≡ label
    go [] h = absurd (h refl)
    go (x ∷ xs) h = refl

-- ---- open blocks

pub full_at : (o : Open) → 510 < o.count → is_full o ≡ true
unfolding is_full
full_at o h = lt-ltb 510 o.count h

pub room_at : (o : Open) → o.count ≤ 510 → is_full o ≡ false
unfolding is_full
room_at o h = le-ltb 510 o.count h

-- ---- surveys

pub surveys_none : (a : Survey) → Surveys a a (open_of a) 0 []
surveys_none a = record { opened = refl; acts = omega arith; told = sym (append-nil a.targets) }

pub surveys_room : (a : Survey) → a.count ≤ 510 → Surveys a a (fresh_if (is_full (open_of a)) (open_of a)) 0 []
surveys_room a h = subst (λ b. Surveys a a (fresh_if b (open_of a)) 0 []) (sym (room_at (open_of a) h)) (surveys_none a)

-- one survey behind another
then_surveys : {a b c : Survey} {o p : Open} {n m : ℕ} {ts us : List Targets} → Surveys a b o n ts → Surveys b c p m us → Surveys a c p (n + m) (ts ++ us)
then_surveys {a} {b} {c} {o} {p} {n} {m} {ts} {us} g h = record {
  opened = h.opened;
  acts = let e1 = g.acts in let e2 = h.acts in omega (arith, e1, e2);
  told = h.told ∙ ap (λ l. l ++ us) g.told ∙ append_assoc a.targets ts us;
}

code_from : (a b : Survey) (x : Code) (closes : Bool) (o : Open) → open_of a ≡ o → SurveysCode a b x closes → Surveys a b (goes x closes o) (acts x) (targets x o)
code_from a b x closes o e g = subst (λ o. Surveys a b (goes x closes o) (acts x) (targets x o)) e g

owned_from : (a b : Survey) (x : Code) (o : Open) → open_of a ≡ o → SurveysOwned a b x → Surveys a b (owned x o (goes x true o)) (acts x) (targets x o)
owned_from a b x o e g = subst (λ o. Surveys a b (owned x o (goes x true o)) (acts x) (targets x o)) e g

test_from : (a b : Survey) (t : Test) (o : Open) → open_of a ≡ o → SurveysTest a b t → Surveys a b (goes_test t o) (acts_test t) (targets_test t o)
test_from a b t o e g = subst (λ o. Surveys a b (goes_test t o) (acts_test t) (targets_test t o)) e g

pub surveys_both : (a b c : Survey) (x y : Code) (closes : Bool) → SurveysCode a b x false → SurveysCode b c y closes → SurveysCode a c (both x y) closes
surveys_both a b c x y closes g h = then_surveys g (code_from b c y closes (goes x false (open_of a)) g.opened h)

-- a target's place stays while what is behind it grows
set_there : (xs : List Targets) (k : ℕ) (t m : Targets) (ts : List Targets) → k ≡ length xs → slice_set ((xs ++ t ∷ []) ++ ts) k m ≡ xs ++ m ∷ ts
set_there [] k t m ts e = ap (λ k. slice_set (t ∷ ts) k m) e
set_there (x ∷ xs) k t m ts e = ap (λ k. slice_set (x ∷ ((xs ++ t ∷ []) ++ ts)) k m) e ∙ ap (λ l. x ∷ l) (set_there xs (length xs) t m ts refl)

abbrev none : Targets
none = record { first = 0; second = 0; behind = 0 }

pub place_stays : (a b d : Survey) (at : ℕ) (o : Open) (n : ℕ) (ts : List Targets) → Reserves a b at → Surveys b d o n ts → at < length d.targets
place_stays a b d at o n ts r g =
    let e1 = r.place in
    let e2 = ap length r.longer ∙ length-append a.targets (none ∷ []) in
    let e3 = ap length g.told ∙ length-append b.targets ts in
    omega (arith, e1, e2, e3)

-- a construct: its targets, and then its parts'
set_behind : (a b d e : Survey) (at first second : ℕ) (o : Open) (n : ℕ) (ts : List Targets) → Reserves a b at → Surveys b d o n ts → Sets d e at first second → Surveys a e o n (record { first = first; second = second; behind = o.label } ∷ ts)
set_behind a b d e at first second o n ts r g s = record {
  opened = s.same ∙ g.opened;
  acts = let e1 = s.acts in let e2 = g.acts in let e3 = r.acts in omega (arith, e1, e2, e3);
  told = s.told
      ∙ ap (λ l. slice_set d.targets at (record { first = first; second = second; behind = l })) (ap (λ o. o.label) g.opened)
      ∙ ap (λ l. slice_set l at (record { first = first; second = second; behind = o.label })) (g.told ∙ ap (λ l. l ++ ts) r.longer)
      ∙ set_there a.targets at none (record { first = first; second = second; behind = o.label }) ts r.place;
}

label_at : (a : Survey) (o : Open) → open_of a ≡ o → a.label ≡ o.label
label_at a o e = ap (λ o. o.label) e

pub surveys_when : (a b c d e : Survey) (at : ℕ) (t : Test) (x : Code) → Reserves a b at → SurveysTest b c t → SurveysOwned c d x → Sets d e at c.label d.label → SurveysCode a e (when 0 t x) true
surveys_when a b c d e at t x r st sx set =
    let o = open_of a in
    let p = goes_test t o in
    let q = owned x p (goes x true p) in
    let g = test_from b c t o r.same st in
    let h = owned_from c d x p g.opened sx in
    let all = set_behind a b d e at c.label d.label q (acts_test t + acts x) (targets_test t o ++ targets x p) r (then_surveys g h) set in
    subst (λ l. Surveys a e q (acts_test t + acts x) (record { first = l; second = q.label; behind = q.label } ∷ (targets_test t o ++ targets x p))) (label_at c p g.opened)
    (subst (λ l. Surveys a e q (acts_test t + acts x) (record { first = c.label; second = l; behind = q.label } ∷ (targets_test t o ++ targets x p))) (label_at d q h.opened) all)

pub surveys_choose : (a b c d e f : Survey) (at : ℕ) (t : Test) (x y : Code) → Reserves a b at → SurveysTest b c t → SurveysOwned c d x → SurveysOwned d e y → Sets e f at c.label d.label → SurveysCode a f (choose 0 t x y) true
surveys_choose a b c d e f at t x y r st sx sy set =
    let o = open_of a in
    let p = goes_test t o in
    let q = owned x p (goes x true p) in
    let z = owned y q (goes y true q) in
    let n = acts_test t + (acts x + acts y) in
    let ts = targets_test t o ++ (targets x p ++ targets y q) in
    let g = test_from b c t o r.same st in
    let h = owned_from c d x p g.opened sx in
    let k = owned_from d e y q h.opened sy in
    let all = set_behind a b e f at c.label d.label z n ts r (then_surveys g (then_surveys h k)) set in
    subst (λ l. Surveys a f z n (record { first = l; second = q.label; behind = z.label } ∷ ts)) (label_at c p g.opened)
    (subst (λ l. Surveys a f z n (record { first = c.label; second = l; behind = z.label } ∷ ts)) (label_at d q h.opened) all)

pub surveys_turns : (a b c d e f : Survey) (at : ℕ) (t : Test) (x y : Code) → Reserves a b at → SurveysTest b c t → SurveysCode c d x false → SurveysCode d e y true → Sets e f at c.label d.label → SurveysTurns a f t x y
surveys_turns a b c d e f at t x y r st sx sy set =
    let o = open_of a in
    let p = goes_test t o in
    let q = goes x false p in
    let z = goes y true q in
    let n = acts_test t + (acts x + acts y) in
    let ts = targets_test t o ++ (targets x p ++ targets y q) in
    let g = test_from b c t o r.same st in
    let h = code_from c d x false p g.opened sx in
    let k = code_from d e y true q h.opened sy in
    let all = set_behind a b e f at c.label d.label z n ts r (then_surveys g (then_surveys h k)) set in
    subst (λ l. Surveys a f z n (record { first = l; second = q.label; behind = z.label } ∷ ts)) (label_at c p g.opened)
    (subst (λ l. Surveys a f z n (record { first = c.label; second = l; behind = z.label } ∷ ts)) (label_at d q h.opened) all)

behind_none : {a b c : Survey} {o p : Open} {n : ℕ} {ts : List Targets} → Surveys a b o 0 [] → Surveys b c p n ts → Surveys a c p n ts
behind_none {a} {b} {c} {o} {p} {n} {ts} g h = record {
  opened = h.opened;
  acts = let e1 = g.acts in let e2 = h.acts in omega (arith, e1, e2);
  told = h.told ∙ ap (λ l. l ++ ts) (g.told ∙ append-nil a.targets);
}

pub surveys_own : (a b c : Survey) (t : Test) (x y : Code) → Surveys a b (fresh (open_of a)) 0 [] → SurveysCode b c (choose 0 t x y) true → SurveysCode a c (repeat 0 true t x y) true
surveys_own a b c t x y f g = behind_none f (code_from b c (choose 0 t x y) true (fresh (open_of a)) f.opened g)

pub surveys_repeat : (a b c : Survey) (t : Test) (x y : Code) → Surveys a b (fresh (open_of a)) 0 [] → SurveysTurns b c t x y → SurveysCode a c (repeat 0 false t x y) true
surveys_repeat a b c t x y f g =
    behind_none f (subst (λ o. let p = goes_test t o in let q = goes x false p in Surveys b c (goes y true q) (acts_test t + (acts x + acts y)) (led p q (goes y true q) ∷ (targets_test t o ++ (targets x p ++ targets y q)))) f.opened g)

pub surveys_until : (a b c d e f : Survey) (at : ℕ) (own : Bool) (x : Code) (t : Test) → Surveys a b (fresh (open_of a)) 0 [] → Reserves b c at → SurveysCode c d x own → SurveysTest d e t → Sets e f at d.label d.label → SurveysCode a f (until 0 own x t) true
surveys_until a b c d e f at own x t s r sx st set =
    let o = fresh (open_of a) in
    let q = goes x own o in
    let z = goes_test t q in
    let n = acts x + acts_test t in
    let ts = targets x o ++ targets_test t q in
    let g = code_from c d x own o (r.same ∙ s.opened) sx in
    let h = test_from d e t q g.opened st in
    let all = set_behind b c e f at d.label d.label z n ts r (then_surveys g h) set in
    behind_none s (subst (λ l. Surveys b f z n (record { first = l; second = l; behind = z.label } ∷ ts)) (label_at d q g.opened) all)

pub surveys_on : (a b c : Survey) (x : Code) → SurveysCode a b x false → Surveys b c (fresh (open_of b)) 0 [] → SurveysTest a c (on 0 x 0)
surveys_on a b c x g h = record {
  opened = h.opened ∙ ap fresh g.opened;
  acts = let e1 = g.acts in let e2 = h.acts in omega (arith, e1, e2);
  told = h.told ∙ append-nil b.targets ∙ g.told;
}

pub surveys_tests : (a b c d e : Survey) (at : ℕ) (t u : Test) → Reserves a b at → SurveysTest b c t → SurveysTest c d u → Sets d e at c.label d.label → SurveysTest a e (all_of t u)
surveys_tests a b c d e at t u r st su set =
    let o = open_of a in
    let p = goes_test t o in
    let q = goes_test u p in
    let n = acts_test t + acts_test u in
    let ts = targets_test t o ++ targets_test u p in
    let g = test_from b c t o r.same st in
    let h = test_from c d u p g.opened su in
    let all = set_behind a b d e at c.label d.label q n ts r (then_surveys g h) set in
    subst (λ l. Surveys a e q n (record { first = l; second = q.label; behind = q.label } ∷ ts)) (label_at c p g.opened)
    (subst (λ l. Surveys a e q n (record { first = c.label; second = l; behind = q.label } ∷ ts)) (label_at d q h.opened) all)

-- ---- rows

abbrev pub rest_code : List RCode → ℕ → Code → Code
rest_code xs i last = row_of (map code_of (drop i xs)) last

pub next_in : (xs : List RCode) (i : ℕ) (x : RCode) → i < length xs → x ≡ get_or xs i x → drop i xs ≡ x ∷ drop (i + 1) xs
next_in xs i x lt is = subst (λ j. drop i xs ≡ x ∷ drop j xs) (sym (add-one i)) (drop-cons xs i x lt ∙ ap (λ y. y ∷ drop (suc i) xs) (sym is))

pub surveys_step : (a s t : Survey) (xs : List RCode) (i : ℕ) (x : RCode) (last whole : Code) (closes : Bool) → i < length xs → x ≡ get_or xs i x → SurveysCode s t (code_of x) false
    → ((b : Survey) → SurveysCode s b (rest_code xs i last) closes → SurveysCode a b whole closes)
    → (b : Survey) → SurveysCode t b (rest_code xs (i + 1) last) closes → SurveysCode a b whole closes
surveys_step a s t xs i x last whole closes lt is g leads b h =
    leads b (subst (λ l. SurveysCode s b (row_of (map code_of l) last) closes) (sym (next_in xs i x lt is)) (surveys_both s t b (code_of x) (rest_code xs (i + 1) last) closes g h))

pub surveys_last : (s b : Survey) (xs : List RCode) (i : ℕ) (last : Code) (closes : Bool) → length xs ≤ i → SurveysCode s b last closes → SurveysCode s b (rest_code xs i last) closes
surveys_last s b xs i last closes le g = subst (λ l. SurveysCode s b (row_of (map code_of l) last) closes) (sym (drop_all i xs le)) g

pub fewer_parts : (xs : List RCode) (i : ℕ) (x : RCode) → i < length xs → x ≡ get_or xs i x → parts_in (drop i xs) ≤ parts_in xs → parts_in (drop (i + 1) xs) ≤ parts_in xs
fewer_parts xs i x lt is le = let e1 = ap parts_in (next_in xs i x lt is) in omega (arith, e1, le)
