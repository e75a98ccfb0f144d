-- What the words of one operation do: reloads, the operation itself, a spill.
use Rattle.std.proofs.Common.{◌≡◌, ℕ, suc, ◌+◌, ◌-◌, ◌<◌, ◌≤◌, ◌==◌, ◌||◌, nat_lt, Bool, true, false, List, [], ◌∷◌, ◌++◌, length, map, slice_set, slice_index_or, Some, ℤ, if◌then◌else◌, refl, sym, ap, ◌∙◌, subst, arith}
use Rattle.std.proofs.lemmas.Bool.Decides.{nat_tests}
use Rattle.ib_meaning.specs.declared.place.Place.{Place}
use Rattle.ib_meaning.specs.Machine.{Step, Goes, Reaches}
use Rattle.ib_meaning.proofs.Machine.{reach_one, reach_none, reach_trans}
use Rattle.tac_core.specs.Meaning.{reg_of}
use Rattle.wide_core.specs.declared.code.Loc.{Loc}
use Rattle.wide_core.specs.declared.code.Loc.TheVariants.{Reg, Slot}
use Rattle.wide_core.specs.declared.code.Tagged.{Tagged}
use Rattle.wide_core.specs.declared.code.Tagged.TheVariants.{Clear}
use Rattle.wide_core.specs.declared.code.WideAct.{WideAct}
use Rattle.wide_core.specs.declared.code.WideAct.TheVariants.{Spill, Reload}
use Rattle.wide_core.specs.declared.code.RawCode.{RawCode}
use Rattle.wide_core.specs.Every.{Every, Nil, Cons}
use Rattle.wide_core.specs.Meaning.{Running, Waiting, word_step, next_step, around_of}
use Rattle.wide_core.specs.Operation.{Effect, sources, effect_on}
use Rattle.wide_core.specs.Places.{same_loc, put, in_registers}
use Rattle.wide_core.specs.Renamed.{effect_moved}
use Rattle.wide_core.specs.Uses.{reads, in_list}
use Rattle.wide_core.specs.Word.{Flow, Through, acts, after_word}
use Rattle.wide_laws.proofs.Renamed.{on_moved, values_moved}
use Rattle.plain_code.specs.Plain.{Item, item, index, place, found_in, left_in, reloads, spill, renamed, numbered}
use Rattle.plain_code.proofs.Alike.{op_of}
use Rattle.plain_code.proofs.Numbers.{Homed, homed_rest}
use Rattle.plain_code.proofs.Places.{Held, held_put, put_same, put_other, eq_same}

-- ---- lists of sources

every_map : {A : Type 0} (P Q : A → Type 0) → ((x : A) → P x → Q x) → (xs : List A) → Every P xs → Every Q xs
every_map P Q f [] Nil = Nil
every_map P Q f (x ∷ xs) (Cons y ys h hs) = Cons x xs (f x h) (every_map P Q f xs hs)

further : (r x : ℕ) (xs : List ℕ) → in_list r xs ≡ true → in_list r (x ∷ xs) ≡ true
further r x xs h = by_one (r == x)
  where
    by_one : (b : Bool) → (b || in_list r xs) ≡ true
    by_one true = refl
    by_one false = h

each_in : (xs : List ℕ) → Every (λ r. in_list r xs ≡ true) xs
each_in [] = Nil
each_in (x ∷ xs) =
    Cons x xs (let e : (x == x) ≡ true = grind (arith, nat_tests) in rw e refl)
    (every_map (λ r. in_list r xs ≡ true) (λ r. in_list r (x ∷ xs) ≡ true) (λ r h. further r x xs h) xs (each_in xs))

-- what stands at a number's first place is the number
at_index : (r : ℕ) (xs : List ℕ) → in_list r xs ≡ true → slice_index_or xs (index r xs) 0 ≡ r
at_index r [] h = cc
at_index r (x ∷ xs) h = by_one (r == x) refl (at_index r xs)
  where
    by_one : (b : Bool) → (r == x) ≡ b → (in_list r xs ≡ true → slice_index_or xs (index r xs) 0 ≡ r) → slice_index_or (x ∷ xs) (if b then 0 else suc (index r xs)) 0 ≡ r
    by_one true e more = sym (eq_same r x e)
    by_one false e more = more (rw e at h)

-- ---- one word

module _ (code : RawCode) where
  -- a call at these words
  abbrev pub at_words : (func base n : ℕ) → List Item → (Loc → Tagged) → List Waiting → List ℕ → Running
  at_words func base n xs places ws memory =
      record { call = record { func = func; base = base; rest = numbered n xs; places = places }; waiting = ws; memory = memory }

  abbrev pub flow_at : (Loc → Tagged) → (memory left : List ℕ) → Flow
  flow_at places memory left = record { places = places; memory = memory; left = left; out = [] }

  -- the word of an operation with this effect
  abbrev pub does_one : (func base n : ℕ) → List Item → Item → (Loc → Tagged) → List Waiting → (memory left : List ℕ) → Effect → Step Running
  does_one func base n xs x places ws memory left e =
      next_step code (at_words func base n (x ∷ xs) places ws memory) (numbered (suc n) xs) (acts true (e ∷ []) (λ s. Through s) (flow_at places memory left))

  one_word : (func base n : ℕ) (x : Item) (xs : List Item) (places : Loc → Tagged) (ws : List Waiting) (memory left : List ℕ) → word_step code (at_words func base n (x ∷ xs) places ws memory) left ≡ does_one func base n xs x places ws memory left (effect_on (op_of n x.home x.act) (around_of code (at_words func base n (x ∷ xs) places ws memory)) (map places (sources x.act)))
  unfolding word_step after_word
  one_word func base n x xs places ws memory left = refl

  reload_word : (func base n : ℕ) (home : Place) (d s : ℕ) (xs : List Item) (places : Loc → Tagged) (ws : List Waiting) (memory left : List ℕ) → word_step code (at_words func base n (item home (Reload d s) ∷ xs) places ws memory) left ≡ Goes (at_words func base (suc n) xs (put (Reg d) (places (Slot s)) places) ws memory) left []
  unfolding word_step after_word effect_on
  reload_word func base n home d s xs places ws memory left = refl

  spill_word : (func base n : ℕ) (home : Place) (d s : ℕ) (xs : List Item) (places : Loc → Tagged) (ws : List Waiting) (memory left : List ℕ) → word_step code (at_words func base n (item home (Spill s d) ∷ xs) places ws memory) left ≡ Goes (at_words func base (suc n) xs (put (Slot s) (places (Reg d)) places) ws memory) left []
  unfolding word_step after_word effect_on
  spill_word func base n home d s xs places ws memory left = refl

  module _ (low : ℕ) where
    -- no register lives where spilled values are carried
    carries : (q k : ℕ) → low ≤ k → same_loc (place low q) (Reg k) ≡ false
    carries q k le = by_one (nat_lt q low) refl
      where
        by_one : (b : Bool) → nat_lt q low ≡ b → same_loc (if b then Reg q else Slot (q - low)) (Reg k) ≡ false
        by_one true e = grind (arith, nat_tests)
        by_one false e = refl

    held_carried : (regs : List ℤ) (f : Loc → Tagged) (k : ℕ) (v : Tagged) → low ≤ k → Held low regs f → Held low regs (put (Reg k) v f)
    held_carried regs f k v le h = record { at = λ q. put_other (Reg k) (place low q) v f (carries q k le) ∙ h.at q }

    slot_held : (regs : List ℤ) (f : Loc → Tagged) (r : ℕ) → nat_lt r low ≡ false → Held low regs f → f (Slot (r - low)) ≡ Clear (reg_of regs r)
    slot_held regs f r e h = let g = h.at r in (rw e at g)

    reg_held : (regs : List ℤ) (f : Loc → Tagged) (r : ℕ) → nat_lt r low ≡ true → Held low regs f → f (Reg r) ≡ Clear (reg_of regs r)
    reg_held regs f r e h = let g = h.at r in (rw e at g)

    -- ---- reloads

    module _ (home : Place) (all : List ℕ) (regs : List ℤ) (func base : ℕ) (ws : List Waiting) (memory left : List ℕ) where
      -- the register of the source at j holds its number
      abbrev Right : (Loc → Tagged) → ℕ → Type 0
      Right f j = f (Reg (low + j)) ≡ Clear (reg_of regs (slice_index_or all j 0))

      -- the machine comes through these words, and then finds the sources
      pub record Loads (rs : List ℕ) (n : ℕ) (is xs : List Item) (places : Loc → Tagged) : Type 0 where
        pub k : ℕ
        pub m : ℕ
        pub f : Loc → Tagged
        pub few : k ≤ length rs
        pub reach : Reaches (word_step code) k (at_words func base n (is ++ xs) places ws memory) left [] (at_words func base m xs f ws memory) left
        pub homed : Homed code m xs
        pub held : Held low regs f
        pub fine : (j : ℕ) → Right places j → Right f j
        pub got : Every (λ r. f (Reg (found_in low all r)) ≡ Clear (reg_of regs r)) rs

      abbrev Loaded : List ℕ → Type 0
      Loaded rs = (n : ℕ) (xs : List Item) (places : Loc → Tagged) → Held low regs places → Homed code n (reloads low home all rs ++ xs) → Loads rs n (reloads low home all rs) xs places

      right_put : (r j : ℕ) (places : Loc → Tagged) → in_list r all ≡ true → Right places j → Right (put (Reg (low + index r all)) (Clear (reg_of regs r)) places) j
      right_put r j places within h = by_one (low + j == low + index r all) refl
        where
          by_one : (b : Bool) → (low + j == low + index r all) ≡ b → Right (put (Reg (low + index r all)) (Clear (reg_of regs r)) places) j
          by_one true e =
              let same : j ≡ index r all = (let s = eq_same (low + j) (low + index r all) e in omega arith) in
              subst (λ i. Right (put (Reg (low + index r all)) (Clear (reg_of regs r)) places) i) (sym same)
              (put_same (Reg (low + index r all)) (Clear (reg_of regs r)) places ∙ ap (λ i. Clear (reg_of regs i)) (sym (at_index r all within)))
          by_one false e = put_other (Reg (low + index r all)) (Reg (low + j)) (Clear (reg_of regs r)) places e ∙ h

      one_more : (r : ℕ) (rs : List ℕ) (n : ℕ) (xs : List Item) (places : Loc → Tagged) → in_list r all ≡ true → Held low regs places → Loaded rs → (b : Bool) → nat_lt r low ≡ b → Homed code n (((if b then [] else (item home (Reload (low + index r all) (r - low)) ∷ [])) ++ reloads low home all rs) ++ xs) → Loads (r ∷ rs) n ((if b then [] else (item home (Reload (low + index r all) (r - low)) ∷ [])) ++ reloads low home all rs) xs places
      one_more r rs n xs places within h more true e homed =
          let l = more n xs places h homed in
          record {
            k = l.k;
            m = l.m;
            f = l.f;
            few = let few = l.few in omega arith;
            reach = l.reach;
            homed = l.homed;
            held = l.held;
            fine = l.fine;
            got = Cons r rs (rw e (reg_held regs l.f r e l.held)) l.got;
          }
      one_more r rs n xs places within h more false e homed =
          let d = low + index r all in
          let v = Clear (reg_of regs r) in
          let is : places (Slot (r - low)) ≡ v = slot_held regs places r e h in
          let places' = put (Reg d) v places in
          let l = more (suc n) xs places' (held_carried regs places d v (omega arith) h) (homed_rest code n (item home (Reload d (r - low))) (reloads low home all rs ++ xs) homed) in
          let step = reload_word func base n home d (r - low) (reloads low home all rs ++ xs) places ws memory left
          ∙ ap (λ x. Goes (at_words func base (suc n) (reloads low home all rs ++ xs) (put (Reg d) x places) ws memory) left []) is in
          let own : Right places' (index r all) =
          put_same (Reg d) v places ∙ ap (λ i. Clear (reg_of regs i)) (sym (at_index r all within)) in
          record {
            k = 1 + l.k;
            m = l.m;
            f = l.f;
            few = let few = l.few in omega arith;
            reach = reach_trans (reach_one (word_step code) _ _ left left [] step) l.reach;
            homed = l.homed;
            held = l.held;
            fine = λ j g. l.fine j (right_put r j places within g);
            got = Cons r rs (rw e (l.fine (index r all) own ∙ ap (λ i. Clear (reg_of regs i)) (at_index r all within))) l.got;
          }

      loads : (rs : List ℕ) → Every (λ r. in_list r all ≡ true) rs → Loaded rs
      loads [] Nil n xs places h homed = record {
        k = 0;
        m = n;
        f = places;
        few = omega arith;
        reach = reach_none (word_step code) (at_words func base n xs places ws memory) left;
        homed = homed;
        held = h;
        fine = λ j g. g;
        got = Nil;
      }
      loads (r ∷ rs) (Cons q qs within each) n xs places h homed =
          one_more r rs n xs places within h (loads rs each) (nat_lt r low) refl homed

    -- all sources of an operation
    pub loaded : (home : Place) (all : List ℕ) (regs : List ℤ) (func base : ℕ) (ws : List Waiting) (memory left : List ℕ) (n : ℕ) (xs : List Item) (places : Loc → Tagged) → Held low regs places → Homed code n (reloads low home all all ++ xs) → Loads home all regs func base ws memory left all n (reloads low home all all) xs places
    loaded home all regs func base ws memory left n xs places h homed =
        loads home all regs func base ws memory left all (each_in all) n xs places h homed

    -- ---- the operation itself has the effect that it has on the registers, renamed

    pub renamed_word : (at : ℕ → ℕ) (act : WideAct) (func base n : ℕ) (home : Place) (xs : List Item) (regs : List ℤ) (f : Loc → Tagged) (ws : List Waiting) (memory left : List ℕ) → ((d s : ℕ) → act ≡ Reload d s → ⊥) → Every (λ r. f (Reg (found_in low (reads act) r)) ≡ Clear (reg_of regs r)) (reads act) → word_step code (at_words func base n (item home (renamed low at act) ∷ xs) f ws memory) left ≡ does_one func base n xs (item home (renamed low at act)) f ws memory left (effect_moved (left_in low) (place low) at (effect_on (op_of n home act) (around_of code (at_words func base n (item home (renamed low at act) ∷ xs) f ws memory)) (map (in_registers regs) (sources act))))
    renamed_word at act func base n home xs regs f ws memory left other got =
        let around = around_of code (at_words func base n (item home (renamed low at act) ∷ xs) f ws memory) in
        let values = values_moved (found_in low (reads act)) (left_in low) (place low) at act (in_registers regs) f other got in
        let moved = on_moved (found_in low (reads act)) (left_in low) (place low) at (op_of n home act) around (map (in_registers regs) (sources act)) (λ e. cc) in
        one_word func base n (item home (renamed low at act)) xs f ws memory left
        ∙ ap (λ v. does_one func base n xs (item home (renamed low at act)) f ws memory left (effect_on (op_of n home (renamed low at act)) around v)) values
        ∙ ap (λ e. does_one func base n xs (item home (renamed low at act)) f ws memory left e) moved

    -- ---- a spill behind it

    module _ (home : Place) (regs : List ℤ) (func base : ℕ) (ws : List Waiting) (memory left : List ℕ) where
      -- the machine comes through these words, and then the register holds the number
      pub record Settles (d : ℕ) (v : ℤ) (n : ℕ) (is xs : List Item) (f : Loc → Tagged) : Type 0 where
        pub k : ℕ
        pub m : ℕ
        pub g : Loc → Tagged
        pub few : k ≤ 1
        pub reach : Reaches (word_step code) k (at_words func base n (is ++ xs) f ws memory) left [] (at_words func base m xs g ws memory) left
        pub homed : Homed code m xs
        pub held : Held low (slice_set regs d v) g

      pub settles : (d : ℕ) (v : ℤ) (n : ℕ) (xs : List Item) (f : Loc → Tagged) → d < length regs → Held low regs f → Homed code n (spill low home (Some d) ++ xs) → Settles d v n (spill low home (Some d)) xs (put (Reg (left_in low d)) (Clear v) f)
      settles d v n xs f lt h = by_one (nat_lt d low) refl
        where
          by_one : (b : Bool) → nat_lt d low ≡ b → Homed code n ((if b then [] else (item home (Spill (d - low) low) ∷ [])) ++ xs) → Settles d v n (if b then [] else (item home (Spill (d - low) low) ∷ [])) xs (put (Reg (if b then d else low)) (Clear v) f)
          by_one true e homed = record {
            k = 0;
            m = n;
            g = put (Reg d) (Clear v) f;
            few = omega arith;
            reach = reach_none (word_step code) (at_words func base n xs (put (Reg d) (Clear v) f) ws memory) left;
            homed = homed;
            held = let held = held_put low regs f d v lt h in (rw e at held);
          }
          by_one false e homed =
              let f' = put (Reg low) (Clear v) f in
              let step = spill_word func base n home low (d - low) xs f' ws memory left
              ∙ ap (λ x. Goes (at_words func base (suc n) xs (put (Slot (d - low)) x f') ws memory) left []) (put_same (Reg low) (Clear v) f) in
              record {
                k = 1;
                m = suc n;
                g = put (Slot (d - low)) (Clear v) f';
                few = omega arith;
                reach = reach_one (word_step code) _ _ left left [] step;
                homed = homed_rest code n (item home (Spill (d - low) low)) xs homed;
                held = let held = held_put low regs f' d v lt (held_carried regs f low (Clear v) (omega arith) h) in (rw e at held);
              }
