-- The words do what the lowered program does: one step is at most nine words.
use Rattle.std.proofs.Common.{◌≡◌, ℕ, zero, suc, ◌+◌, ◌≤◌, Bool, true, false, not, List, [], ◌∷◌, ◌++◌, length, drop, map, slice_get, replicate, Option, Some, None, ℤ, pos, negsuc, if◌then◌else◌, refl, sym, ap, ap₂, ◌∙◌, subst, arith}
use Rattle.std.specs.Prelude.{MatchOption}
use Rattle.std.specs.List.{All}
use Rattle.std.specs.Option.{option_map}
use Rattle.std.proofs.lemmas.List.Elements.{All-head, All-tail}
use Rattle.ib_base.specs.declared.integers.Width.TheVariants.{W4}
use Rattle.ib_base.specs.Integers.{wrapped}
use Rattle.ib_mem.specs.Memory.{cleared}
use Rattle.ib_meaning.specs.declared.place.Place.{Place}
use Rattle.ib_meaning.specs.declared.fault.FaultKind.TheVariants.{StackOverflow}
use Rattle.ib_meaning.specs.Agreement.{Returned, Faulted}
use Rattle.ib_meaning.specs.Machine.{Step, Goes, Stops, Reaches}
use Rattle.ib_meaning.proofs.Machine.{reach_one, halt_one, reach_trans, reach_halt}
use Rattle.ib_meaning.proofs.Simulation.{Together, Answers, answered}
use Rattle.ib_act.specs.Acts.{target}
use Rattle.tac_core.specs.declared.code.TacOp.{TacOp}
use Rattle.tac_core.specs.declared.code.End.{End}
use Rattle.tac_core.specs.declared.code.End.TheVariants.{Jump as Leads, Branch as Parts, Call as Calls, Ret}
use Rattle.tac_core.specs.declared.code.Block.{Block}
use Rattle.tac_core.specs.declared.code.TacFunc.{TacFunc}
use Rattle.tac_core.specs.Program.{Program}
use Rattle.tac_core.specs.Rules.{IsRegister, IsGoodOp, IsGoodEnd, IsGoodBlock, IsGoodFunc, IsValid}
use Rattle.tac_core.specs.Meaning.{Effect as TacEffect, Does, Fails, reg_of, number_in, set_in, effect_of, Waiting as TacWaiting, State, Lost, In, block_of, frame_of as tac_frame_of, enter as tac_enter, go, first_regs, call, overflows as tac_overflows, place_of, after_act, target_of, do_return, do_call, do_end_of, do_end, tac_step}
use Rattle.tac_core.proofs.Lists.{All-get}
use Rattle.wide_core.specs.declared.code.Loc.{Loc}
use Rattle.wide_core.specs.declared.code.Loc.TheVariants.{Reg}
use Rattle.wide_core.specs.declared.code.Tagged.{Tagged}
use Rattle.wide_core.specs.declared.code.Tagged.TheVariants.{Clear}
use Rattle.wide_core.specs.declared.code.WideAct.TheVariants.{Do, Jump, Branch, Call as CallTo, Return}
use Rattle.wide_core.specs.declared.code.RawCode.{RawCode}
use Rattle.wide_core.specs.Meaning.{Running, Waiting, word_step, func_of, has_room, put_all, entered, enter, around_of, step_by}
use Rattle.wide_core.specs.Operation.{Effect, Nothing, Go, Leave, Stop, To, Into, Around, is_zero, sources, effect_on, reg_of as loc_of}
use Rattle.wide_core.specs.Parts.{words_of, frame_of, params_of, overflows}
use Rattle.wide_core.specs.Places.{in_registers}
use Rattle.wide_core.specs.Renamed.{effect_moved, result_moved}
use Rattle.wide_core.specs.Tagged.{number_of, least_mark}
use Rattle.wide_core.specs.Uses.{opt_list, reads}
use Rattle.wide_core.specs.Word.{after_word}
use Rattle.plain_code.specs.Plain.{Item, item, place, left_in, reloads, spill, renamed, numbered, start, spread_all, end_acts, rest_items, func_from}
use Rattle.plain_code.proofs.Alike.{op_of}
use Rattle.plain_code.proofs.Numbers.{code_of, Homed, homed_first, first, items_in, func_at, words_at, numbered_drop, func_homed_from, Begins, at_in, func_block_at}
use Rattle.plain_code.proofs.Places.{Held, held_result, held_params, set_in_long, set_all_long, zeros_long}
use Rattle.plain_code.proofs.Words.{at_words, does_one, loaded, renamed_word}
use Rattle.plain_code.proofs.Operations.{regroup, few_read, Acts, op_acts}

-- ---- the effects of ends

jump_word : (code : RawCode) (func base n : ℕ) (home : Place) (to : ℕ) (xs : List Item) (f : Loc → Tagged) (ws : List Waiting) (memory left : List ℕ) → word_step code (at_words code func base n (item home (Jump to) ∷ xs) f ws memory) left ≡ Goes (record { call = record { func = func; base = base; rest = drop to (words_of (func_of code func)); places = f }; waiting = ws; memory = memory }) left []
unfolding word_step after_word effect_on
jump_word code func base n home to xs f ws memory left = refl

branch_effect : (n : ℕ) (home : Place) (r to : ℕ) (around : Around) (regs : List ℤ) → effect_on (op_of n home (Branch r to)) around (map (in_registers regs) (sources (Branch r to))) ≡ (if is_zero (reg_of regs r) then Nothing else Go (To to))
unfolding effect_on
branch_effect n home r to around regs = refl

return_effect : (n : ℕ) (home : Place) (r : Option ℕ) (around : Around) (regs : List ℤ) → effect_on (op_of n home (Return r)) around (map (in_registers regs) (sources (Return r))) ≡ Leave (number_in regs r)
unfolding effect_on
return_effect n home None around regs = refl
return_effect n home (Some r) around regs = refl

no_marks : (args : List ℕ) (regs : List ℤ) → least_mark (map (in_registers regs) (map (λ r. Reg r) args)) ≡ Clear (pos 0)
no_marks [] regs = refl
no_marks (a ∷ args) regs = no_marks args regs

arg_numbers : (args : List ℕ) (regs : List ℤ) → map number_of (map (in_registers regs) (map (λ r. Reg r) args)) ≡ map (reg_of regs) args
arg_numbers [] regs = refl
arg_numbers (a ∷ args) regs = ap (λ xs. reg_of regs a ∷ xs) (arg_numbers args regs)

-- a call goes into its function, if there is room
abbrev call_or_fault : Bool → ℕ → Option Loc → (func next : ℕ) → List ℤ → Effect
call_or_fault true n result func next values = Go (Into func next result values)
call_or_fault false n result func next values = Stop n StackOverflow

call_effect : (n : ℕ) (home : Place) (result : Option Loc) (func next : ℕ) (args : List ℕ) (around : Around) (regs : List ℤ) (room : Bool) → around.room func ≡ room → effect_on (op_of n home (CallTo result func next args)) around (map (in_registers regs) (sources (CallTo result func next args))) ≡ call_or_fault room n result func next (map (reg_of regs) args)
unfolding effect_on
call_effect n home result func next args around regs true e = rw (no_marks args regs, e) (ap (λ values. Go (Into func next result values)) (arg_numbers args regs))
call_effect n home result func next args around regs false e = rw (no_marks args regs, e) refl

-- ---- states that belong together

module _ (low : ℕ) (p : Program) (valid : IsValid p) where
  abbrev pub fs : List TacFunc
  fs = p.funcs

  abbrev pub code : RawCode
  code = code_of low p.places p.image p.funcs

  abbrev pub at : ℕ → ℕ → ℕ
  at func = at_in low p.places (slice_get fs func)

  abbrev pub regs_in : Option TacFunc → ℕ
  regs_in None = 0
  regs_in (Some f) = f.regs

  abbrev pub count : ℕ → ℕ
  count func = regs_in (slice_get fs func)

  -- at a label
  abbrev at_label : (func base l : ℕ) → (Loc → Tagged) → List Waiting → List ℕ → Running
  at_label func base l places ws memory =
      record { call = record { func = func; base = base; rest = drop (at func l) (words_of (func_of code func)); places = places }; waiting = ws; memory = memory }

  -- calls that wait
  pub data AreBack : List TacWaiting → List Waiting → Type 0 where
    Nobody : AreBack [] []
    Another : (func label base : ℕ) (regs : List ℤ) (dest : Option ℕ) (next : ℕ) (places : Loc → Tagged) (waiting : List TacWaiting) (ws : List Waiting) → Held low regs places → length regs ≡ count func → IsRegister (length regs) dest → AreBack waiting ws → AreBack (record { func = func; label = label; base = base; regs = regs; dest = dest; next = next } ∷ waiting) (record { call = record { func = func; base = base; rest = drop (at func next) (words_of (func_of code func)); places = places }; result = result_moved (place low) (loc_of dest) } ∷ ws)

  pub data Related : State → Running → Type 0 where
    Both_lost : (r : Running) → r.call.rest ≡ [] → Related Lost r
    Both_in : (func label base : ℕ) (regs : List ℤ) (ops : List TacOp) (waiting : List TacWaiting) (memory : List ℕ) (b : Block) (n : ℕ) (more : List Item) (places : Loc → Tagged) (ws : List Waiting) → block_of (slice_get fs func) label ≡ Some b → Held low regs places → length regs ≡ count func → All (IsGoodOp (count func) (length p.places)) ops → Homed code n (rest_items low p.places (at func) ops b ++ more) → AreBack waiting ws → Related (In (record { func = func; label = label; base = base; regs = regs; ops = ops }) waiting memory) (at_words code func base n (rest_items low p.places (at func) ops b ++ more) places ws memory)

  as_many : (waiting : List TacWaiting) (ws : List Waiting) → AreBack waiting ws → length ws ≡ length waiting
  as_many [] [] Nobody = refl
  as_many [] (v ∷ ws) x = elim x [ ]
  as_many (w ∷ waiting) [] x = elim x [ ]
  as_many (w ∷ waiting) (v ∷ ws) (Another func label base regs dest next places waiting' ws' h long good a) = ap suc (as_many waiting ws a)

  -- ---- blocks

  abbrev BlockIsGood : ℕ → Block → Type 0
  BlockIsGood func b = (blocks : ℕ) × IsGoodBlock (count func) blocks (length p.places) fs b

  good_in : (o : Option TacFunc) (func l : ℕ) (b : Block) → slice_get fs func ≡ o → block_of o l ≡ Some b → (blocks : ℕ) × IsGoodBlock (regs_in o) blocks (length p.places) fs b
  good_in None func l b is e = cc
  good_in (Some f) func l b is e =
      let good = All-get (IsGoodFunc (length p.places) fs) fs func f valid.each is in
      (length f.blocks, All-get (IsGoodBlock f.regs (length f.blocks) (length p.places) fs) f.blocks l b good.blocks e)

  good_block : (func l : ℕ) (b : Block) → block_of (slice_get fs func) l ≡ Some b → BlockIsGood func b
  good_block func l b e = good_in (slice_get fs func) func l b refl e

  in_block : (o : Option Block) (func l base n : ℕ) (xs : List Item) (regs : List ℤ) (waiting : List TacWaiting) (memory : List ℕ) (places : Loc → Tagged) (ws : List Waiting) → block_of (slice_get fs func) l ≡ o → Begins low p.places (at func) o xs → Homed code n xs → Held low regs places → length regs ≡ count func → AreBack waiting ws → Related (tac_enter o func l base regs waiting memory) (at_words code func base n xs places ws memory)
  in_block None func l base n xs regs waiting memory places ws e begins homed held long back =
      Both_lost (at_words code func base n xs places ws memory) (ap (numbered n) begins)
  in_block (Some b) func l base n xs regs waiting memory places ws e begins homed held long back =
      let good = good_block func l b e in
      let good' = good.1 in
      subst (λ zs. Related (In (record { func = func; label = l; base = base; regs = regs; ops = b.ops }) waiting memory) (at_words code func base n zs places ws memory)) (sym begins.1)
      (Both_in func l base regs b.ops waiting memory b n begins.0 places ws e held long good'.ops (subst (Homed code n) begins.1 homed) back)

  -- the words at a label
  words_of_label : (func l : ℕ) → drop (at func l) (words_of (func_of code func)) ≡ numbered (first low p.places 1 fs func + at func l) (drop (at func l) (items_in low p.places (slice_get fs func)))
  words_of_label func l =
      ap (drop (at func l)) (words_at low p.places 1 fs func) ∙ numbered_drop low p.places (at func l) (first low p.places 1 fs func) (items_in low p.places (slice_get fs func))

  go_related : (func l base : ℕ) (regs : List ℤ) (waiting : List TacWaiting) (memory : List ℕ) (places : Loc → Tagged) (ws : List Waiting) → Held low regs places → length regs ≡ count func → AreBack waiting ws → Related (go fs func l base regs waiting memory) (at_label func base l places ws memory)
  go_related func l base regs waiting memory places ws held long back =
      subst (λ words. Related (go fs func l base regs waiting memory) (record { call = record { func = func; base = base; rest = words; places = places }; waiting = ws; memory = memory })) (sym (words_of_label func l))
      (in_block (block_of (slice_get fs func) l) func l base (first low p.places 1 fs func + at func l) (drop (at func l) (items_in low p.places (slice_get fs func))) regs waiting memory places ws refl
      (func_block_at low p.places (slice_get fs func) l) (func_homed_from low p.places p.image fs func (at func l)) held long back)

  -- ---- calls

  same_frame : (func : ℕ) → frame_of (func_of code func) ≡ tac_frame_of (slice_get fs func)
  same_frame func = ap frame_of (func_at low p.places 1 fs func) ∙ by (first low p.places 1 fs func) (slice_get fs func)
    where
      by : (n : ℕ) (o : Option TacFunc) → frame_of (option_map (func_from low p.places n) o) ≡ tac_frame_of o
      by n None = refl
      by n (Some f) = refl

  first_word : (o : Option TacFunc) → at_in low p.places o 0 ≡ 0
  first_word None = refl
  first_word (Some f) = by f.blocks
    where
      by : (bs : List Block) → start low p.places bs 0 ≡ 0
      by [] = refl
      by (b ∷ bs) = refl

  first_held : (o : Option TacFunc) (func n : ℕ) (values : List ℤ) → slice_get fs func ≡ o → Held low (first_regs o values) (put_all (params_of (option_map (func_from low p.places n) o)) values (λ loc. Clear (pos 0))) × (length (first_regs o values) ≡ regs_in o)
  first_held None func n values is = (record { at = λ r. refl }, refl)
  first_held (Some f) func n values is =
      let good = All-get (IsGoodFunc (length p.places) fs) fs func f valid.each is in
      (held_params low f.regs f.params values good.params, set_all_long f.params values (replicate f.regs (pos 0)) ∙ zeros_long f.regs)

  pub call_related : (func base : ℕ) (values : List ℤ) (waiting : List TacWaiting) (memory : List ℕ) (ws : List Waiting) → AreBack waiting ws → Related (call fs func base values waiting memory) (enter code func base values ws memory)
  call_related func base values waiting memory ws back =
      let n = first low p.places 1 fs func in
      let h = first_held (slice_get fs func) func n values refl in
      let places = put_all (params_of (func_of code func)) values (λ loc. Clear (pos 0)) in
      let held = subst (λ o. Held low (first_regs (slice_get fs func) values) (put_all (params_of o) values (λ loc. Clear (pos 0)))) (sym (func_at low p.places 1 fs func)) h.0 in
      let memory' = cleared memory base (tac_frame_of (slice_get fs func)) in
      let there = go_related func 0 base (first_regs (slice_get fs func) values) waiting memory' places ws held h.1 back in
      subst (λ frame. Related (call fs func base values waiting memory) (record { call = entered code func base values; waiting = ws; memory = cleared memory base frame })) (sym (same_frame func))
      (subst (λ k. Related (call fs func base values waiting memory) (record { call = record { func = func; base = base; rest = drop k (words_of (func_of code func)); places = places }; waiting = ws; memory = memory' })) (first_word (slice_get fs func)) there)

  -- ---- steps

  abbrev pub IsFew : ℕ → Type 0
  IsFew k = k ≤ 9

  abbrev Answered : Running → List ℕ → Step State → Type 0
  Answered r left step = Answers (word_step code) IsFew Related r left step

  silent_step : (r t : Running) (s : State) (left : List ℕ) → word_step code r left ≡ Goes t left [] → Related s t → Answered r left (Goes s left [])
  silent_step r t s left e related = (1, t, omega arith, omega arith, reach_one (word_step code) r t left left [] e, related)

  -- behind words that print nothing
  behind : (j most : ℕ) (r t : Running) (left : List ℕ) (step : Step State) → j + most ≤ 9 → Reaches (word_step code) j r left [] t left → Answers (word_step code) (λ k. k ≤ most) Related t left step → Answered r left step
  behind j most r t left (Goes s left' printed) few reach a =
      let k = a.0 in let l1 = a.2 in let l2 = a.3 in
      (j + k, a.1, omega arith, omega arith, reach_trans reach a.4, a.5)
  behind j most r t left (Stops finish left' printed) few reach a =
      let k = a.0 in let l1 = a.1 in
      (j + k, omega arith, reach_halt reach a.2)

  -- ---- operations

  op_answered : (te : TacEffect) (home : Place) (func label base : ℕ) (regs : List ℤ) (op : TacOp) (rest : List TacOp) (b : Block) (more : List Item) (waiting : List TacWaiting) (ws : List Waiting) (r : Running) (left : List ℕ) → block_of (slice_get fs func) label ≡ Some b → length regs ≡ count func → All (IsGoodOp (count func) (length p.places)) rest → AreBack waiting ws → Acts code low (at func) func base ws 4 te home r left regs (rest_items low p.places (at func) rest b ++ more) → Answered r left (after_act te home (record { func = func; label = label; base = base; regs = regs; ops = op ∷ rest }) rest waiting left)
  op_answered (Does regs' memory' left' printed) home func label base regs op rest b more waiting ws r left e long good back a =
      let k = a.0 in let l1 = a.1 in let l2 = a.2 in
      (k, at_words code func base a.4.m (rest_items low p.places (at func) rest b ++ more) a.4.g ws memory', omega arith, omega arith, a.4.reach, Both_in func label base regs' rest waiting memory' b a.4.m more a.4.g ws e a.4.held (a.3 ∙ long) good a.4.homed back)
  op_answered (Fails kind) home func label base regs op rest b more waiting ws r left e long good back a =
      let l1 = a.1 in
      (a.0, omega arith, a.2)

  -- ---- ends

  branch_behind : (z : ℤ) (func base m y n : ℕ) (home : Place) (x : Item) (more : List Item) (regs : List ℤ) (waiting : List TacWaiting) (memory : List ℕ) (f : Loc → Tagged) (ws : List Waiting) (left : List ℕ) → Held low regs f → length regs ≡ count func → AreBack waiting ws → word_step code (at_words code func base m (x ∷ (item home (Jump (at func n)) ∷ more)) f ws memory) left ≡ does_one code func base m (item home (Jump (at func n)) ∷ more) x f ws memory left (effect_moved (left_in low) (place low) (at func) (if is_zero z then Nothing else Go (To y))) → Answers (word_step code) (λ k. k ≤ 2) Related (at_words code func base m (x ∷ (item home (Jump (at func n)) ∷ more)) f ws memory) left (Goes (go fs func (target_of z y n) base regs waiting memory) left [])
  branch_behind (pos zero) func base m y n home x more regs waiting memory f ws left held long back e = (
    1 + 1,
    at_label func base n f ws memory,
    omega arith,
    omega arith,
    reach_trans (reach_one (word_step code) _ _ left left [] e) (reach_one (word_step code) _ _ left left [] (jump_word code func base (suc m) home (at func n) more f ws memory left)),
    go_related func n base regs waiting memory f ws held long back,
  )
  branch_behind (pos (suc z)) func base m y n home x more regs waiting memory f ws left held long back e =
      (1, at_label func base y f ws memory, omega arith, omega arith, reach_one (word_step code) _ _ left left [] e, go_related func y base regs waiting memory f ws held long back)
  branch_behind (negsuc z) func base m y n home x more regs waiting memory f ws left held long back e =
      (1, at_label func base y f ws memory, omega arith, omega arith, reach_one (word_step code) _ _ left left [] e, go_related func y base regs waiting memory f ws held long back)

  room_is : (func base g : ℕ) (n : ℕ) (xs : List Item) (f : Loc → Tagged) (waiting : List TacWaiting) (ws : List Waiting) (memory : List ℕ) → AreBack waiting ws → has_room code (at_words code func base n xs f ws memory) g ≡ not (tac_overflows (length waiting) (base + tac_frame_of (slice_get fs func)) (tac_frame_of (slice_get fs g)))
  room_is func base g n xs f waiting ws memory back =
      ap (λ k. not (overflows k (base + frame_of (func_of code func)) (frame_of (func_of code g)))) (as_many waiting ws back)
      ∙ ap₂ (λ a b. not (overflows (length waiting) (base + a) b)) (same_frame func) (same_frame g)

  call_behind : (b : Bool) (func label base m g l : ℕ) (d : Option ℕ) (home : Place) (x : Item) (more : List Item) (regs values : List ℤ) (waiting : List TacWaiting) (memory : List ℕ) (f : Loc → Tagged) (ws : List Waiting) (left : List ℕ) → Held low regs f → length regs ≡ count func → IsRegister (length regs) d → AreBack waiting ws → Homed code m (x ∷ more) → x.home ≡ home → word_step code (at_words code func base m (x ∷ more) f ws memory) left ≡ does_one code func base m more x f ws memory left (effect_moved (left_in low) (place low) (at func) (call_or_fault (not b) m (loc_of d) g l values)) → Answers (word_step code) (λ k. k ≤ 1) Related (at_words code func base m (x ∷ more) f ws memory) left (do_call b (call fs g (base + tac_frame_of (slice_get fs func)) values (record { func = func; label = label; base = base; regs = regs; dest = d; next = l } ∷ waiting) memory) home left)
  call_behind true func label base m g l d home x more regs values waiting memory f ws left held long good back homed is e =
      (1, omega arith, halt_one (word_step code) _ left left [] (Faulted home StackOverflow) (e ∙ ap (λ z. Stops (Faulted z StackOverflow) left []) (homed_first code m x more homed ∙ is)))
  call_behind false func label base m g l d home x more regs values waiting memory f ws left held long good back homed is e =
      let w : Waiting = record { call = record { func = func; base = base; rest = drop (at func l) (words_of (func_of code func)); places = f }; result = result_moved (place low) (loc_of d) } in
      let top = base + tac_frame_of (slice_get fs func) in
      let waiting' : List TacWaiting = record { func = func; label = label; base = base; regs = regs; dest = d; next = l } ∷ waiting in (
        1,
        enter code g top values (w ∷ ws) memory,
        omega arith,
        omega arith,
        reach_one (word_step code) _ _ left left [] (e ∙ ap (λ frame. Goes (enter code g (base + frame) values (w ∷ ws) memory) left []) (same_frame func)),
        call_related g top values waiting' memory (w ∷ ws) (Another func label base regs d l f waiting ws held long good back),
      )

  return_behind : (z : ℤ) (func base m : ℕ) (x : Item) (more : List Item) (waiting : List TacWaiting) (memory : List ℕ) (f : Loc → Tagged) (ws : List Waiting) (left : List ℕ) → AreBack waiting ws → word_step code (at_words code func base m (x ∷ more) f ws memory) left ≡ does_one code func base m more x f ws memory left (Leave z) → Answers (word_step code) (λ k. k ≤ 1) Related (at_words code func base m (x ∷ more) f ws memory) left (do_return fs z waiting memory left)
  return_behind z func base m x more [] memory f [] left Nobody e =
      (1, omega arith, halt_one (word_step code) _ left left [] (Returned (wrapped W4 z)) e)
  return_behind z func base m x more [] memory f (v ∷ ws) left back e = elim back [ ]
  return_behind z func base m x more (w ∷ waiting) memory f [] left back e = elim back [ ]
  return_behind z func base m x more (w ∷ waiting) memory f (v ∷ ws) left (Another func' label base' regs dest next places waiting' ws' held long good back) e = (
    1,
    at_label func' base' next _ ws memory,
    omega arith,
    omega arith,
    reach_one (word_step code) _ _ left left [] e,
    go_related func' next base' (set_in regs dest z) waiting memory _ ws (held_result low regs places dest z good held) (set_in_long regs dest z ∙ long) back,
  )

  args_few : (o : Option TacFunc) (g k : ℕ) → slice_get fs g ≡ o → MatchOption o ⊥ (λ f. k ≡ length f.params) → k ≤ 8
  args_few None g k is takes = absurd takes
  args_few (Some f) g k is takes =
      let good = All-get (IsGoodFunc (length p.places) fs) fs g f valid.each is in
      let few = good.few in
      subst (λ n. n ≤ 8) (sym takes) few

  abbrev Words : End → Place → (func : ℕ) → List Item → List Item
  Words e home func more = spread_all low (at func) home (end_acts e) ++ more

  branch_answered : (r y n : ℕ) (home : Place) (func base m : ℕ) (more : List Item) (regs : List ℤ) (waiting : List TacWaiting) (memory : List ℕ) (places : Loc → Tagged) (ws : List Waiting) (left : List ℕ) → Held low regs places → length regs ≡ count func → AreBack waiting ws → Homed code m (reloads low home (r ∷ []) (r ∷ []) ++ item home (renamed low (at func) (Branch r y)) ∷ (item home (Jump (at func n)) ∷ more)) → Answered (at_words code func base m (reloads low home (r ∷ []) (r ∷ []) ++ item home (renamed low (at func) (Branch r y)) ∷ (item home (Jump (at func n)) ∷ more)) places ws memory) left (Goes (go fs func (target_of (reg_of regs r) y n) base regs waiting memory) left [])
  branch_answered r y n home func base m more regs waiting memory places ws left held long back homed =
      let x = item home (renamed low (at func) (Branch r y)) in
      let xs = item home (Jump (at func n)) ∷ more in
      let l = loaded code low home (r ∷ []) regs func base ws memory left m (x ∷ xs) places held homed in
      let few = l.few in
      let e = renamed_word code low (at func) (Branch r y) func base l.m home xs regs l.f ws memory left (λ d s e. cc) l.got
      ∙ ap (λ z. does_one code func base l.m xs x l.f ws memory left (effect_moved (left_in low) (place low) (at func) z)) (branch_effect l.m home r y (around_of code (at_words code func base l.m (x ∷ xs) l.f ws memory)) regs) in
      behind l.k 2 _ _ left (Goes (go fs func (target_of (reg_of regs r) y n) base regs waiting memory) left []) (omega arith) l.reach (branch_behind (reg_of regs r) func base l.m y n home x more regs waiting memory l.f ws left l.held long back e)

  call_answered : (d : Option ℕ) (g l : ℕ) (args : List ℕ) (home : Place) (func label base m : ℕ) (more : List Item) (regs : List ℤ) (waiting : List TacWaiting) (memory : List ℕ) (places : Loc → Tagged) (ws : List Waiting) (left : List ℕ) → length args ≤ 8 → IsRegister (length regs) d → Held low regs places → length regs ≡ count func → AreBack waiting ws → Homed code m (reloads low home args args ++ item home (renamed low (at func) (CallTo (loc_of d) g l args)) ∷ more) → Answered (at_words code func base m (reloads low home args args ++ item home (renamed low (at func) (CallTo (loc_of d) g l args)) ∷ more) places ws memory) left (do_end_of fs (Calls d g args l) home func label base regs waiting memory left)
  call_answered d g l args home func label base m more regs waiting memory places ws left eight good held long back homed =
      let x = item home (renamed low (at func) (CallTo (loc_of d) g l args)) in
      let h = loaded code low home args regs func base ws memory left m (x ∷ more) places held homed in
      let few = h.few in
      let r = at_words code func base h.m (x ∷ more) h.f ws memory in
      let b = tac_overflows (length waiting) (base + tac_frame_of (slice_get fs func)) (tac_frame_of (slice_get fs g)) in
      let e = renamed_word code low (at func) (CallTo (loc_of d) g l args) func base h.m home more regs h.f ws memory left (λ d s e. cc) h.got
      ∙ ap (λ z. does_one code func base h.m more x h.f ws memory left (effect_moved (left_in low) (place low) (at func) z)) (call_effect h.m home (loc_of d) g l args (around_of code r) regs (not b) (room_is func base g h.m (x ∷ more) h.f waiting ws memory back)) in
      behind h.k 1 _ _ left (do_end_of fs (Calls d g args l) home func label base regs waiting memory left) (omega arith) h.reach (call_behind b func label base h.m g l d home x more regs (map (reg_of regs) args) waiting memory h.f ws left h.held long good back h.homed refl e)

  return_answered : (o : Option ℕ) (home : Place) (func base m : ℕ) (more : List Item) (regs : List ℤ) (waiting : List TacWaiting) (memory : List ℕ) (places : Loc → Tagged) (ws : List Waiting) (left : List ℕ) → Held low regs places → AreBack waiting ws → Homed code m (reloads low home (opt_list o) (opt_list o) ++ item home (renamed low (at func) (Return o)) ∷ more) → Answered (at_words code func base m (reloads low home (opt_list o) (opt_list o) ++ item home (renamed low (at func) (Return o)) ∷ more) places ws memory) left (do_return fs (number_in regs o) waiting memory left)
  return_answered o home func base m more regs waiting memory places ws left held back homed =
      let x = item home (renamed low (at func) (Return o)) in
      let l = loaded code low home (opt_list o) regs func base ws memory left m (x ∷ more) places held homed in
      let few = l.few in let one = few_read o in
      let e = renamed_word code low (at func) (Return o) func base l.m home more regs l.f ws memory left (λ d s e. cc) l.got
      ∙ ap (λ z. does_one code func base l.m more x l.f ws memory left (effect_moved (left_in low) (place low) (at func) z)) (return_effect l.m home o (around_of code (at_words code func base l.m (x ∷ more) l.f ws memory)) regs) in
      behind l.k 1 _ _ left (do_return fs (number_in regs o) waiting memory left) (omega arith) l.reach (return_behind (number_in regs o) func base l.m x more waiting memory l.f ws left back e)

  end_answered : (e : End) (home : Place) (blocks func label base m : ℕ) (more : List Item) (regs : List ℤ) (waiting : List TacWaiting) (memory : List ℕ) (places : Loc → Tagged) (ws : List Waiting) (left : List ℕ) → IsGoodEnd (count func) blocks fs e → Held low regs places → length regs ≡ count func → AreBack waiting ws → Homed code m (Words e home func more) → Answered (at_words code func base m (Words e home func more) places ws memory) left (do_end_of fs e home func label base regs waiting memory left)
  end_answered (Leads l) home blocks func label base m more regs waiting memory places ws left good held long back homed =
      silent_step _ _ _ left (jump_word code func base m home (at func l) more places ws memory left) (go_related func l base regs waiting memory places ws held long back)
  end_answered (Parts r y n) home blocks func label base m more regs waiting memory places ws left good held long back homed =
      let same = regroup (reloads low home (r ∷ []) (r ∷ [])) (item home (renamed low (at func) (Branch r y))) [] (item home (Jump (at func n)) ∷ []) more in
      subst (λ zs. Answered (at_words code func base m zs places ws memory) left (Goes (go fs func (target_of (reg_of regs r) y n) base regs waiting memory) left [])) (sym same)
      (branch_answered r y n home func base m more regs waiting memory places ws left held long back (subst (Homed code m) same homed))
  end_answered (Calls d g args l) home blocks func label base m more regs waiting memory places ws left good held long back homed =
      let same = regroup (reloads low home args args) (item home (renamed low (at func) (CallTo (loc_of d) g l args))) [] [] more in
      subst (λ zs. Answered (at_words code func base m zs places ws memory) left (do_end_of fs (Calls d g args l) home func label base regs waiting memory left)) (sym same)
      (call_answered d g l args home func label base m more regs waiting memory places ws left (args_few (slice_get fs g) g (length args) refl good.3) (subst (λ n. IsRegister n d) (sym long) good.0) held long back (subst (Homed code m) same homed))
  end_answered (Ret o) home blocks func label base m more regs waiting memory places ws left good held long back homed =
      let same = regroup (reloads low home (opt_list o) (opt_list o)) (item home (renamed low (at func) (Return o))) [] [] more in
      subst (λ zs. Answered (at_words code func base m zs places ws memory) left (do_return fs (number_in regs o) waiting memory left)) (sym same)
      (return_answered o home func base m more regs waiting memory places ws left held back (subst (Homed code m) same homed))

  -- ---- one step of the lowered program

  lost_word : (r : Running) (left : List ℕ) → r.call.rest ≡ [] → word_step code r left ≡ Goes r left []
  unfolding word_step
  lost_word r left e = ap (λ words. step_by true code words r left) e

  step_answered : (s : State) (r : Running) (left : List ℕ) → Related s r → Answered r left (tac_step fs p.places s left)
  step_answered s r left (Both_lost t e) = silent_step t t Lost left (lost_word t left e) (Both_lost t e)
  step_answered s r left (Both_in func label base regs [] waiting memory b n more places ws e held long good homed back) =
      let g = good_block func label b e in
      let g' = g.1 in
      subst (λ o. Answered (at_words code func base n (rest_items low p.places (at func) [] b ++ more) places ws memory) left (do_end fs p.places o (record { func = func; label = label; base = base; regs = regs; ops = [] }) waiting memory left)) (sym e)
      (end_answered b.«end» (place_of p.places b.end_stmt) g.0 func label base n more regs waiting memory places ws left g'.ends held long back homed)
  step_answered s r left (Both_in func label base regs (op ∷ rest) waiting memory b n more places ws e held long good homed back) =
      let home = place_of p.places op.stmt in
      let ys = rest_items low p.places (at func) rest b ++ more in
      let same = regroup (reloads low home (reads (Do op.act)) (reads (Do op.act))) (item home (renamed low (at func) (Do op.act))) (spill low home (target op.act)) (rest_items low p.places (at func) rest b) more in
      let first = All-head (IsGoodOp (count func) (length p.places)) op rest good in
      let writes = subst (λ n. IsRegister n (target op.act)) (sym long) first.act.writes in
      let acts = op_acts code low (at func) func base ws op.act home regs memory left n ys places writes held (subst (Homed code n) same homed) in
      subst (λ zs. Answered (at_words code func base n zs places ws memory) left (after_act (effect_of op.act base regs memory left) home (record { func = func; label = label; base = base; regs = regs; ops = op ∷ rest }) rest waiting left)) (sym same)
      (op_answered (effect_of op.act base regs memory left) home func label base regs op rest b more waiting ws _ left e long (All-tail (IsGoodOp (count func) (length p.places)) op rest good) back acts)

  pub together : (s : State) (r : Running) (left : List ℕ) → Related s r → Together (tac_step fs p.places) (word_step code) IsFew Related s r left
  together s r left related =
      answered (tac_step fs p.places) (word_step code) IsFew Related s r left (tac_step fs p.places s left) refl (step_answered s r left related)
