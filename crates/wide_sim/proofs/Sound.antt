-- What valid code gives a cycle, and that the simulator behind it is sound.
use Rattle.std.proofs.Common.{◌≡◌, ℕ, zero, suc, ◌+◌, ◌<◌, ◌≤◌, ℤ, Bool, true, false, ◌&&◌, ◌||◌, not, nat_le, nat_lt, List, [], ◌∷◌, length, drop, get_or, map, Option, Some, None, refl, sym, ap, ◌∙◌, subst, slice_get, arith}
use Rattle.std.specs.List.{list_all, list_any}
use Rattle.std.proofs.lemmas.Bool.Decides.{nat_tests}
use Rattle.std.proofs.lemmas.List.{length-set}
use Rattle.wide_core.specs.declared.code.Loc.{Loc}
use Rattle.wide_core.specs.declared.code.Loc.TheVariants.{Reg, Slot}
use Rattle.wide_core.specs.declared.code.RawCode.{RawCode}
use Rattle.wide_core.specs.declared.code.Tagged.{Tagged}
use Rattle.wide_core.specs.declared.code.Tagged.TheVariants.{Clear}
use Rattle.wide_core.specs.declared.code.WideFunc.{WideFunc}
use Rattle.wide_core.specs.declared.code.WideOp.{WideOp}
use Rattle.wide_core.specs.declared.code.Word.{Word}
use Rattle.wide_core.specs.Classes.{is_register}
use Rattle.wide_core.specs.Cycle.{touched, target_if}
use Rattle.wide_core.specs.Meaning.{func_of, first_ops}
use Rattle.wide_core.specs.Parts.{words_of, frame_of}
use Rattle.wide_core.specs.Valid.{Limits, Scope, IsValid, calls_well, count_of, goes_within, has_units, is_last, is_within, scope_of, takes}
use Rattle.machine_desc.specs.declared.machine.OpClass.{OpClass}
use Rattle.machine_desc.specs.declared.machine.OpClass.TheVariants.{Alu, Mul, Mem, Io, Control}
use Rattle.wide_core.specs.Word.{effects}
use Rattle.wide_core.proofs.Both.{both, both_first, both_second}
use Rattle.wide_core.proofs.Kept.{FuncKept, WordKept, func_kept, op_kept}
use Rattle.wide_sim.specs.declared.frame.Frame.{Frame}
use Rattle.wide_sim.specs.declared.frame.Suspended.{Suspended}
use Rattle.wide_sim.specs.declared.next.Next.{Next}
use Rattle.wide_sim.specs.declared.next.Next.TheVariants.{Word as WordNext, Call as Calls}
use Rattle.wide_sim.specs.declared.planned.Planned.{Planned}
use Rattle.wide_sim.specs.declared.planned.Planned.TheVariants.{Idle, Write, Save, Take, PutByte, PutNumber, Jump, Call as CallPlanned, Return, Report}
use Rattle.wide_sim.specs.declared.store.Store.{Store}
use Rattle.wide_sim.specs.Advance.{CanAdvance, FirstTakes, advanced, given, given_back}
use Rattle.wide_sim.specs.Cycles.{scope_at}
use Rattle.wide_sim.specs.EffectFits.{effect_fits}
use Rattle.wide_sim.specs.Effects.{turn_after}
use Rattle.wide_sim.specs.Fits.{op_fits}
use Rattle.wide_sim.specs.Frames.{AllFit, FrameFits, ops_at}
use Rattle.wide_sim.specs.Next.{IsNext, BeginsCall}
use Rattle.wide_sim.specs.Planned.{effect_of}
use Rattle.wide_sim.specs.Site.{Site, around, room_at, site_of}
use Rattle.wide_sim.specs.Store.{with_held}
use Rattle.wide_sim.proofs.Does.{plan_fits}
use Rattle.wide_sim.proofs.Fits.{effects_fit, effects_leave, is_leaving}
use Rattle.wide_sim.proofs.Turns.{turn_of_all, turn_goes}

-- ---- lists

pub below_of_some : {T : Type 0} (xs : List T) (i : ℕ) (x : T) → slice_get xs i ≡ Some x → i < length xs
below_of_some [] i x h = cc
below_of_some (y ∷ xs) zero x h = omega arith
below_of_some (y ∷ xs) (suc i) x h = let g = below_of_some xs i x h in omega arith

pub item_of_some : {T : Type 0} (xs : List T) (i : ℕ) (x d : T) → slice_get xs i ≡ Some x → get_or xs i d ≡ x
item_of_some [] i x d h = cc
item_of_some (y ∷ xs) zero x d h = cc
item_of_some (y ∷ xs) (suc i) x d h = item_of_some xs i x d h

some_of : {T : Type 0} (xs : List T) (i : ℕ) → i < length xs → (x : T) × (slice_get xs i ≡ Some x) × (drop i xs ≡ x ∷ drop (i + 1) xs)
some_of [] i lt = absurd (omega arith)
some_of (x ∷ xs) zero lt = (x, refl, refl)
some_of (x ∷ xs) (suc i) lt =
    let g = some_of xs i (omega arith) in
    let one : suc i + 1 ≡ suc (i + 1) = omega arith in
    (g.0, g.1, g.2 ∙ ap (λ n. g.0 ∷ drop n (x ∷ xs)) (sym one))

-- the word at hand of a call of the code
pub record HasWord (code : RawCode) (call : Frame) (func : WideFunc) (ops : List WideOp) : Type 0 where
  pub word : Word
  pub at : slice_get func.words call.at ≡ Some word
  pub at_hand : drop call.at func.words ≡ word ∷ drop (call.at + 1) func.words
  pub ops_is : ops ≡ word.ops

pub has_word : (regs : ℕ) (code : RawCode) (call : Frame) (fits : FrameFits regs code call) (ops : List WideOp) → ops ≡ ops_at code call → HasWord code call fits.func ops
has_word regs code call fits ops is =
    let w = some_of fits.func.words call.at fits.at_word in
    record {
      word = w.0;
      at = w.1;
      at_hand = w.2;
      ops_is = is ∙ ap (λ f. first_ops (drop call.at (words_of f))) fits.there ∙ ap first_ops w.2;
    }

more_left : (words : List Word) (i : ℕ) → i < length words → is_last (drop (suc i) words) ≡ false → suc i < length words
more_left [] i lt h = absurd (omega arith)
more_left (w ∷ []) zero lt h = cc
more_left (w ∷ v ∷ words) zero lt h = omega arith
more_left (w ∷ words) (suc i) lt h = let g = more_left words i (omega arith) h in omega arith

any_of_map : {A B : Type 0} (test : B → Bool) (f : A → B) (xs : List A) → list_any test (map f xs) ≡ list_any (λ x. test (f x)) xs
any_of_map test f [] = refl
any_of_map test f (x ∷ xs) = ap (λ b. test (f x) || b) (any_of_map test f xs)

pub ops_are : (code : RawCode) (call : Frame) (funcs : List WideFunc) (func : WideFunc) (words : List Word) (word : Word) (ops : List WideOp) → funcs ≡ code.funcs → words ≡ (get_or funcs call.func func).words → ops ≡ (get_or words call.at word).ops
    → (regs : ℕ) (fits : FrameFits regs code call) → ops ≡ ops_at code call
ops_are code call funcs func words word ops funcs_is words_is is regs fits =
    let w = has_word regs code call fits (ops_at code call) refl in
    let here : get_or funcs call.func func ≡ fits.func = ap (λ (l : List WideFunc). get_or l call.func func) funcs_is ∙ item_of_some code.funcs call.func fits.func func fits.there in
    let this : get_or words call.at word ≡ w.word = ap (λ (l : List Word). get_or l call.at word) (words_is ∙ ap (λ (g : WideFunc). g.words) here) ∙ item_of_some fits.func.words call.at w.word word w.at in
    is ∙ ap (λ (x : Word). x.ops) this ∙ sym w.ops_is

below : (a b : ℕ) → nat_lt a b ≡ true → a < b
below a b h = grind (arith, nat_tests)

pub at_most : (a b : ℕ) → nat_le a b ≡ true → a ≤ b
at_most a b h = grind (arith, nat_tests)

-- ---- the word at hand

module _ (limits : Limits) (code : RawCode) (valid : IsValid limits code) (call : Frame) (fits : FrameFits limits.regs code call) (word : Word) (ops : List WideOp)
    (word_at : slice_get fits.func.words call.at ≡ Some word) (ops_is : ops ≡ word.ops) where
  kept : FuncKept limits code.funcs fits.func
  kept = func_kept limits code valid call.func fits.func fits.there

  abbrev scope : Scope
  scope = scope_of limits code.funcs fits.func

  pub word_kept : WordKept limits scope (is_last (drop (suc call.at) fits.func.words)) ops
  word_kept =
      subst (λ (os : List WideOp). WordKept limits scope (is_last (drop (suc call.at) fits.func.words)) os) (sym ops_is)
      (kept.words_are call.at word word_at)

  pub few_ops : length ops ≤ limits.width
  few_ops =
      at_most (length ops) limits.width (both_second (nat_le limits.least (length ops)) (nat_le (length ops) limits.width) (both_first (nat_le limits.least (length ops) && nat_le (length ops) limits.width) _ word_kept.few))

  pub few_of : (class : OpClass) → count_of class ops ≤ limits.units class
  few_of class = at_most (count_of class ops) (limits.units class) (class_kept class (both_second (nat_le limits.least (length ops) && nat_le (length ops) limits.width) _ word_kept.few))
    where
      class_kept : (class : OpClass) → list_all (has_units limits ops) (Alu ∷ Mul ∷ Mem ∷ Io ∷ Control ∷ []) ≡ true → has_units limits ops class ≡ true
      class_kept Alu all = both_first (has_units limits ops Alu) _ all
      class_kept Mul all = both_first (has_units limits ops Mul) _ (both_second (has_units limits ops Alu) _ all)
      class_kept Mem all = both_first (has_units limits ops Mem) _ (both_second (has_units limits ops Mul) _ (both_second (has_units limits ops Alu) _ all))
      class_kept Io all =
          both_first (has_units limits ops Io) _ (both_second (has_units limits ops Mem) _ (both_second (has_units limits ops Mul) _ (both_second (has_units limits ops Alu) _ all)))
      class_kept Control all =
          both_first (has_units limits ops Control) _ (both_second (has_units limits ops Io) _ (both_second (has_units limits ops Mem) _ (both_second (has_units limits ops Mul) _ (both_second (has_units limits ops Alu) _ all))))

  one_fits : (os : List WideOp) → list_all (op_kept scope) os ≡ true → list_all (op_fits limits.regs fits.func.slots) os ≡ true
  one_fits [] h = refl
  one_fits (op ∷ os) h =
      both (op_fits limits.regs fits.func.slots op) _
      (both_first (list_all (is_within limits.regs fits.func.slots) (touched op.act)) (goes_within scope.words op.act)
      (both_first (list_all (is_within limits.regs fits.func.slots) (touched op.act) && goes_within scope.words op.act) (calls_well scope.funcs op.act)
      (both_first (list_all (is_within limits.regs fits.func.slots) (touched op.act) && goes_within scope.words op.act && calls_well scope.funcs op.act) (not op.flagged || is_register op.act)
      (both_first (op_kept scope op) _ h))))
      (one_fits os (both_second (op_kept scope op) _ h))

  ops_fit_so : list_all (op_fits limits.regs fits.func.slots) ops ≡ true
  ops_fit_so = one_fits ops word_kept.ops_are

  pub ops_fit : (regs slots : ℕ) → regs ≡ limits.regs → slots ≡ fits.func.slots → list_all (op_fits regs slots) ops ≡ true
  ops_fit regs slots r s =
      ap (λ n. list_all (op_fits n slots) ops) r ∙ ap (λ n. list_all (op_fits limits.regs n) ops) s ∙ ops_fit_so

  module _ (site : Site) (funcs_is : site.funcs ≡ code.funcs) (memory : List ℕ) (places : Loc → Tagged) where
    all_effects : list_all (effect_fits scope (room_at site)) (effects (around site memory) places ops) ≡ true
    all_effects = effects_fit scope (around site memory) ops places word_kept.ops_are

    pub effects_within : (regs slots : ℕ) → regs ≡ limits.regs → slots ≡ fits.func.slots → list_all (effect_fits (scope_at regs slots (length fits.func.words) site) (room_at site)) (effects (around site memory) places ops) ≡ true
    effects_within regs slots r s =
        ap (λ n. list_all (effect_fits (scope_at n slots (length fits.func.words) site) (room_at site)) (effects (around site memory) places ops)) r
        ∙ ap (λ n. list_all (effect_fits (scope_at limits.regs n (length fits.func.words) site) (room_at site)) (effects (around site memory) places ops)) s
        ∙ ap (λ (fs : List WideFunc). list_all (effect_fits (record { regs = limits.regs; slots = fits.func.slots; words = length fits.func.words; funcs = fs }) (room_at site)) (effects (around site memory) places ops)) funcs_is
        ∙ all_effects

    module _ (plan : List Planned) (planned : map (effect_of places) plan ≡ effects (around site memory) places ops) where
      abbrev turn : Planned
      turn = turn_after Idle plan

      pub turn_fits : effect_fits scope (room_at site) (effect_of places turn) ≡ true
      turn_fits =
          turn_of_all (λ f. effect_fits scope (room_at site) (effect_of places f)) plan Idle refl (plan_fits scope (room_at site) places plan (effects (around site memory) places ops) planned all_effects)

      pub turn_leaves : is_last (drop (suc call.at) fits.func.words) ≡ true → is_leaving (effect_of places turn) ≡ true
      turn_leaves last =
          turn_goes places plan Idle
          (sym (any_of_map is_leaving (effect_of places) plan) ∙ ap (list_any is_leaving) planned ∙ effects_leave (around site memory) scope ops places (word_kept.leaves last) word_kept.ops_are)

-- ---- behind the word

pub first_takes : (regs : ℕ) (code : RawCode) (callers : List Suspended) → AllFit regs code callers → FirstTakes callers
first_takes regs code [] h = tt
first_takes regs code (w ∷ callers) h = record {
  values = ap (λ n. list_all (is_within n (length w.frame.values.slots)) (target_if w.result)) h.0.fits.regs_is ∙ h.0.result_fits;
  ready = ap (λ n. list_all (is_within n (length w.frame.ready.slots)) (target_if w.result)) h.0.fits.ready_regs
      ∙ ap (λ n. list_all (is_within regs n) (target_if w.result)) (h.0.fits.ready_slots ∙ sym h.0.fits.slots_is)
      ∙ h.0.result_fits;
}

with_held_regs : {T : Type 0} (store : Store T) (loc : Loc) (item : T) → length (with_held store loc item).regs ≡ length store.regs
with_held_regs store (Reg r) item = length-set store.regs r item
with_held_regs store (Slot r) item = refl

with_held_slots : {T : Type 0} (store : Store T) (loc : Loc) (item : T) → length (with_held store loc item).slots ≡ length store.slots
with_held_slots store (Reg r) item = refl
with_held_slots store (Slot r) item = length-set store.slots r item

given_fits : (regs : ℕ) (code : RawCode) (f : Frame) (r : Option Loc) (z : ℤ) (soon : ℕ) → FrameFits regs code f → FrameFits regs code (given r z soon f)
given_fits regs code f None z soon h = h
given_fits regs code f (Some loc) z soon h = record {
  func = h.func;
  there = h.there;
  regs_is = with_held_regs f.values loc (Clear z) ∙ h.regs_is;
  slots_is = with_held_slots f.values loc (Clear z) ∙ h.slots_is;
  ready_regs = with_held_regs f.ready loc soon ∙ h.ready_regs;
  ready_slots = with_held_slots f.ready loc soon ∙ h.ready_slots;
  at_word = h.at_word;
  in_memory = h.in_memory;
}

neither : (a b : Bool) → not (a || b) ≡ true → (a ≡ false) × (b ≡ false)
neither false b h = (refl, none b h)
  where
    none : (c : Bool) → not c ≡ true → c ≡ false
    none false h = refl
    none true h = cc
neither true b h = cc

not_at_most : (a b : ℕ) → nat_le a b ≡ false → b < a
not_at_most a b h = grind (arith, nat_tests)

not_below : (a b : ℕ) → nat_lt a b ≡ false → b ≤ a
not_below a b h = grind (arith, nat_tests)

-- the call at hand and those that wait are calls of the code
pub record CallsFit (regs : ℕ) (code : RawCode) (call : Frame) (callers : List Suspended) : Type 0 where
  pub call_fits : FrameFits regs code call
  pub callers_fit : AllFit regs code callers

module _ (limits : Limits) (code : RawCode) (valid : IsValid limits code) (call : Frame) (fits : FrameFits limits.regs code call) (word : Word) (ops : List WideOp)
    (word_at : slice_get fits.func.words call.at ≡ Some word) (ops_is : ops ≡ word.ops) (callers : List Suspended) (callers_fit : AllFit limits.regs code callers) where
  abbrev here : Site
  here = site_of code call callers

  abbrev all : Scope
  all = scope_of limits code.funcs fits.func

  room_for : (f : ℕ) (callee : WideFunc) → slice_get code.funcs f ≡ Some callee → room_at here f ≡ true → (length callers < 4096) × ((call.base + frame_of (func_of code call.func)) + callee.frame ≤ 1048576)
  room_for f callee is room =
      let parts = neither (nat_le 4096 (suc (length callers))) (nat_lt 1048576 ((call.base + frame_of (func_of code call.func)) + frame_of (slice_get code.funcs f))) room in
      let few : suc (length callers) < 4096 = not_at_most 4096 (suc (length callers)) parts.0 in
      let ends : (call.base + frame_of (func_of code call.func)) + frame_of (slice_get code.funcs f) ≤ 1048576 = not_below 1048576 ((call.base + frame_of (func_of code call.func)) + frame_of (slice_get code.funcs f)) parts.1 in
      (omega arith, subst (λ x. (call.base + frame_of (func_of code call.func)) + frame_of x ≤ 1048576) is ends)

  abbrev Fits : (places : Loc → Tagged) → Planned → Type 0
  Fits places f = effect_fits all (room_at here) (effect_of places f) ≡ true

  -- a planned call has room, and its result's place is there
  pub can_advance : (places : Loc → Tagged) (turn : Planned) (next : Next) → IsNext limits.regs code.funcs (call.base + frame_of (func_of code call.func)) call.at places turn next → Fits places turn → CanAdvance code callers next
  can_advance places (CallPlanned result f at args) next h fit =
      let b = h.2 in
      let e = b.entered in
      let room = room_for f b.callee b.there (both_second (takes (slice_get code.funcs f) _) (room_at here f) (both_second (nat_lt at all.words && list_all (is_within all.regs all.slots) (target_if result)) _ fit)) in
      subst (λ (n : Next). CanAdvance code callers n) (sym h.1) (
        room.0,
        subst (λ x. h.0.base + x ≤ 1048576) (sym (ap (λ g. frame_of (func_of code g)) e.func_is ∙ ap frame_of b.there))
            (subst (λ x. x + b.callee.frame ≤ 1048576) (sym e.base_is) room.1),
      )
  can_advance places (Return z) next h fit = subst (λ (n : Next). CanAdvance code callers n) (sym h) (first_takes limits.regs code callers callers_fit)
  can_advance places (Report number kind) next h fit = subst (λ (n : Next). CanAdvance code callers n) (sym h) tt
  can_advance places (Jump to) next h fit = subst (λ (n : Next). CanAdvance code callers n) (sym h) tt
  can_advance places Idle next h fit = subst (λ (n : Next). CanAdvance code callers n) (sym h) tt
  can_advance places (Write to value) next h fit = subst (λ (n : Next). CanAdvance code callers n) (sym h) tt
  can_advance places (Save width address value) next h fit = subst (λ (n : Next). CanAdvance code callers n) (sym h) tt
  can_advance places (Take to) next h fit = subst (λ (n : Next). CanAdvance code callers n) (sym h) tt
  can_advance places (PutByte byte) next h fit = subst (λ (n : Next). CanAdvance code callers n) (sym h) tt
  can_advance places (PutNumber z) next h fit = subst (λ (n : Next). CanAdvance code callers n) (sym h) tt

  module _ (values : Store Tagged) (ready : Store ℕ) (v_regs : length values.regs ≡ length call.values.regs) (v_slots : length values.slots ≡ length call.values.slots) (r_regs : length ready.regs ≡ length call.ready.regs) (r_slots : length ready.slots ≡ length call.ready.slots)
      (places : Loc → Tagged) (soon : ℕ) (memory : List ℕ) where
    abbrev behind : Frame
    behind = record call { values = values; ready = ready }

    fits_at : (at : ℕ) → at < length fits.func.words → FrameFits limits.regs code (record behind { at = at })
    fits_at at lt = record {
      func = fits.func;
      there = fits.there;
      regs_is = v_regs ∙ fits.regs_is;
      slots_is = v_slots ∙ fits.slots_is;
      ready_regs = r_regs ∙ fits.ready_regs;
      ready_slots = r_slots ∙ fits.ready_slots;
      at_word = lt;
      in_memory = fits.in_memory;
    }

    abbrev Good : Next → Type 0
    Good next = CallsFit limits.regs code (advanced code soon next behind callers memory).call (advanced code soon next behind callers memory).callers

    good_at : (at : ℕ) → at < length fits.func.words → Good (WordNext at)
    good_at at lt = record { call_fits = fits_at at lt; callers_fit = callers_fit }

    good_back : (z : ℤ) (cs : List Suspended) → AllFit limits.regs code cs → CallsFit limits.regs code (given_back behind cs memory z soon).call (given_back behind cs memory z soon).callers
    good_back z [] h = record { call_fits = fits_at call.at fits.at_word; callers_fit = tt }
    good_back z (w ∷ cs) h = record { call_fits = given_fits limits.regs code w.frame w.result z soon h.0.fits; callers_fit = h.1 }

    -- where control does not leave, another word follows
    good_next : (is_leaving_is : Bool) → is_leaving_is ≡ false → (is_last (drop (suc call.at) fits.func.words) ≡ true → is_leaving_is ≡ true) → Good (WordNext (call.at + 1))
    good_next b stays leaves =
        let lt : suc call.at < length fits.func.words = more_left fits.func.words call.at fits.at_word (by_last (is_last (drop (suc call.at) fits.func.words)) refl) in
        good_at (call.at + 1) (omega arith)
      where
        by_last : (l : Bool) → is_last (drop (suc call.at) fits.func.words) ≡ l → is_last (drop (suc call.at) fits.func.words) ≡ false
        by_last false e = e
        by_last true e = absurd (let h = leaves e in cc)

    good_call : (result : Option Loc) (f at : ℕ) (args : List ℕ) (frame : Frame) → BeginsCall limits.regs code.funcs f (call.base + frame_of (func_of code call.func)) places args frame → at < length fits.func.words
        → list_all (is_within all.regs all.slots) (target_if result) ≡ true → room_at here f ≡ true → Good (Calls frame at result)
    good_call result f at args frame b lt to room =
        let e = b.entered in
        let ends = room_for f b.callee b.there room in
        let some : 1 ≤ length b.callee.words = at_most 1 (length b.callee.words) (both_second _ (nat_le 1 (length b.callee.words)) (func_kept limits code valid f b.callee b.there).sizes) in
        record {
          call_fits = record {
            func = b.callee;
            there = ap (func_of code) e.func_is ∙ b.there;
            regs_is = e.regs_is;
            slots_is = e.slots_is;
            ready_regs = e.ready_regs;
            ready_slots = e.ready_slots;
            at_word = subst (λ n. n < length b.callee.words) (sym e.first) some;
            in_memory = subst (λ n. n + b.callee.frame ≤ 1048576) (sym e.base_is) ends.1;
          };
          callers_fit = (
            record {
              fits = fits_at at lt;
              result_fits = ap (λ n. list_all (is_within limits.regs n) (target_if result)) (v_slots ∙ fits.slots_is) ∙ to;
            },
            callers_fit,
          );
        }

    pub goes_well : (turn : Planned) (next : Next) → IsNext limits.regs code.funcs (call.base + frame_of (func_of code call.func)) call.at places turn next → Fits places turn → (is_last (drop (suc call.at) fits.func.words) ≡ true → is_leaving (effect_of places turn) ≡ true) → Good next
    goes_well (Jump to) next h fit leaves = subst (λ (n : Next). Good n) (sym h) (good_at to (below to _ fit))
    goes_well (CallPlanned result f at args) next h fit leaves =
        let first = both_first (nat_lt at all.words && list_all (is_within all.regs all.slots) (target_if result)) _ fit in
        subst (λ (n : Next). Good n) (sym h.1)
        (good_call result f at args.now h.0 h.2 (below at _ (both_first (nat_lt at all.words) _ first)) (both_second (nat_lt at all.words) _ first)
        (both_second (takes (slice_get code.funcs f) _) (room_at here f) (both_second (nat_lt at all.words && list_all (is_within all.regs all.slots) (target_if result)) _ fit)))
    goes_well (Return z) next h fit leaves = subst (λ (n : Next). Good n) (sym h) (good_back z callers callers_fit)
    goes_well (Report number kind) next h fit leaves = subst (λ (n : Next). Good n) (sym h) (good_at call.at fits.at_word)
    goes_well Idle next h fit leaves = subst (λ (n : Next). Good n) (sym h) (good_next false refl leaves)
    goes_well (Write to value) next h fit leaves = subst (λ (n : Next). Good n) (sym h) (good_next false refl leaves)
    goes_well (Save width address value) next h fit leaves = subst (λ (n : Next). Good n) (sym h) (good_next false refl leaves)
    goes_well (Take to) next h fit leaves = subst (λ (n : Next). Good n) (sym h) (good_next false refl leaves)
    goes_well (PutByte byte) next h fit leaves = subst (λ (n : Next). Good n) (sym h) (good_next false refl leaves)
    goes_well (PutNumber z) next h fit leaves = subst (λ (n : Next). Good n) (sym h) (good_next false refl leaves)
