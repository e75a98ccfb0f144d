-- The simulator at the start of `main`.
use Rattle.std.proofs.Common.{◌≡◌, ℕ, zero, suc, Option, IfSome, ◌+◌, ◌<◌, ◌≤◌, pos, Bool, true, false, ◌&&◌, ◌||◌, nat_le, get_or, List, [], ◌∷◌, length, drop, Some, refl, sym, ap, ◌∙◌, subst, slice_get, arith}
use Rattle.std.specs.Prelude.{if◌then◌else◌, slice_index_or}
use Rattle.std.specs.List.{list_any}
use Rattle.ib_mem.specs.Memory.{cleared}
use Rattle.machine_desc.specs.declared.machine.OpClass.{OpClass}
use Rattle.wide_core.specs.declared.code.Loc.{Loc}
use Rattle.wide_core.specs.declared.code.Loc.TheVariants.{Reg}
use Rattle.wide_core.specs.declared.code.RawCode.{RawCode}
use Rattle.wide_core.specs.declared.code.Tagged.{Tagged}
use Rattle.wide_core.specs.declared.code.Tagged.TheVariants.{Clear}
use Rattle.wide_core.specs.declared.code.WideFunc.{WideFunc}
use Rattle.wide_core.specs.declared.code.Word.{Word}
use Rattle.wide_core.specs.Cycle.{Times}
use Rattle.wide_core.specs.Meaning.{Wide, func_of, put_all, word_start, wide_start}
use Rattle.wide_core.specs.Parts.{first_base, first_memory, frame_of, is_main, number_of_main, params_of, words_of}
use Rattle.wide_core.specs.Valid.{Limits, IsValid, is_empty, is_entry}
use Rattle.wide_core.proofs.Both.{both_first, both_second}
use Rattle.wide_core.proofs.Kept.{func_kept, image_kept, entry_kept}
use Rattle.wide_sim.specs.declared.frame.Frame.{Frame}
use Rattle.wide_sim.specs.Frames.{IsEntered}
use Rattle.wide_sim.specs.Simulation.{Simulation, IsLoaded, IsSound, going_at, state_of}
use Rattle.wide_sim.specs.Store.{held}
use Rattle.wide_sim.proofs.Sound.{at_most, below_of_some, item_of_some}

main_there : (funcs : List WideFunc) → list_any is_entry funcs ≡ true → (main : WideFunc) × (slice_get funcs (number_of_main funcs) ≡ Some main)
main_there [] h = cc
main_there (func ∷ funcs) h = by_name (is_main func) refl (main_there funcs)
  where
    in_rest : is_main func ≡ false → list_any is_entry funcs ≡ true
    in_rest e = ap (λ b. (b && is_empty func.params) || list_any is_entry funcs) (sym e) ∙ h

    by_name : (b : Bool) → is_main func ≡ b → (list_any is_entry funcs ≡ true → (main : WideFunc) × (slice_get funcs (number_of_main funcs) ≡ Some main)) → (main : WideFunc) × (slice_get (func ∷ funcs) (if b then 0 else suc (number_of_main funcs)) ≡ Some main)
    by_name true e rest = (func, refl)
    by_name false e rest = rest (in_rest e)

module _ (limits : Limits) (code raw : RawCode) (valid : IsValid limits code) (raw_is : raw ≡ code) where
  pub few_bytes : (image : List ℕ) → image ≡ raw.image → length image ≤ 524288
  few_bytes image is =
      let few : length code.image ≤ 524288 = at_most (length code.image) 524288 (image_kept limits code valid) in
      subst (λ (i : List ℕ). length i ≤ 524288) (sym (is ∙ ap (λ (c : RawCode). c.image) raw_is)) few

  there : (main : WideFunc) × (slice_get code.funcs (number_of_main code.funcs) ≡ Some main)
  there = main_there code.funcs (entry_kept limits code valid)

  module _ (funcs : List WideFunc) (funcs_is : funcs ≡ raw.funcs) (func : ℕ) (func_is : func ≡ number_of_main funcs) where
    all_funcs : funcs ≡ code.funcs
    all_funcs = funcs_is ∙ ap (λ (c : RawCode). c.funcs) raw_is

    number_is : func ≡ number_of_main code.funcs
    number_is = func_is ∙ ap number_of_main all_funcs

    pub main_below : func < length funcs
    main_below =
        let lt = below_of_some code.funcs (number_of_main code.funcs) there.0 there.1 in
        subst (λ (fs : List WideFunc). func < length fs) (sym all_funcs) (subst (λ n. n < length code.funcs) (sym number_is) lt)

    module _ (main : WideFunc) (main_is : main ≡ get_or funcs func main) where
      main_same : main ≡ there.0
      main_same =
          main_is ∙ ap (λ (fs : List WideFunc). get_or fs func main) all_funcs ∙ ap (λ n. get_or code.funcs n main) number_is
          ∙ item_of_some code.funcs (number_of_main code.funcs) there.0 main there.1

      at_main : slice_get code.funcs (number_of_main code.funcs) ≡ Some main
      at_main = there.1 ∙ ap (λ (f : WideFunc). Some f) (sym main_same)

      abbrev base : ℕ
      base = first_base (length code.image)

      small : main.frame ≤ 262144
      small =
          at_most main.frame 262144
          (both_first (nat_le main.frame 262144) _ (both_first (nat_le main.frame 262144 && _) _ (both_first (nat_le main.frame 262144 && _ && _) _ (both_first (nat_le main.frame 262144 && _ && _ && _) _ (func_kept limits code valid (number_of_main code.funcs) main at_main).sizes))))

      ends : base + main.frame ≤ 1048576
      ends =
          let few : length code.image ≤ 524288 = at_most (length code.image) 524288 (image_kept limits code valid) in
          let little = small in
          omega arith

      module _ (image : List ℕ) (image_is : image ≡ raw.image) (at : ℕ) (at_is : at ≡ first_base (length image)) where
        same_image : image ≡ code.image
        same_image = image_is ∙ ap (λ (c : RawCode). c.image) raw_is

        base_is : at ≡ base
        base_is = at_is ∙ ap (λ (i : List ℕ). first_base (length i)) same_image

        pub frame_ends : at + main.frame ≤ 1048576
        frame_ends = subst (λ n. n + main.frame ≤ 1048576) (sym base_is) ends

        module _ (call : Frame) (e : IsEntered limits.regs main func at [] call) (room : ℕ) (plan : 64 ≤ room) where
          pub sound : IsSound limits code call [] room
          sound =
              let some : 1 ≤ length main.words = at_most 1 (length main.words) (both_second _ (nat_le 1 (length main.words)) (func_kept limits code valid (number_of_main code.funcs) main at_main).sizes) in
              record {
                valid = valid;
                call_fits = record {
                  func = main;
                  there = ap (func_of code) (e.func_is ∙ number_is) ∙ at_main;
                  regs_is = e.regs_is;
                  slots_is = e.slots_is;
                  ready_regs = e.ready_regs;
                  ready_slots = e.ready_slots;
                  at_word = subst (λ n. n < length main.words) (sym e.first) some;
                  in_memory = subst (λ n. n + main.frame ≤ 1048576) (sym (e.base_is ∙ base_is)) ends;
                };
                callers_fit = tt;
                plan_room = plan;
              }

          module _ (latency : OpClass → ℕ) (filled memory : List ℕ) (filled_is : filled ≡ first_memory image) (memory_is : memory ≡ cleared filled at main.frame) where
            abbrev stands : (f b : ℕ) (words : List Word) (p : Loc → Tagged) (t : Times) (m : List ℕ) → Wide
            stands f b words p t m = record {
              word = record { call = record { func = f; base = b; rest = words; places = p }; waiting = []; memory = m };
              ready = record { top = t; waiting = [] };
              now = 0;
            }

            abbrev main_words : List Word
            main_words = words_of (func_of code (number_of_main code.funcs))

            memory_so : memory ≡ cleared (first_memory code.image) base (frame_of (func_of code (number_of_main code.funcs)))
            memory_so =
                memory_is ∙ ap (λ m. cleared m at main.frame) (filled_is ∙ ap first_memory same_image)
                ∙ ap (λ b. cleared (first_memory code.image) b main.frame) base_is
                ∙ ap (λ f. cleared (first_memory code.image) base (frame_of f)) (sym at_main)

            start_is : state_of (going_at code call [] memory 0) ≡ wide_start latency code
            unfolding state_of wide_start word_start
            start_is =
                ap (λ a. stands call.func call.base (drop a (words_of (func_of code call.func))) (held (Clear (pos 0)) call.values) (held 0 call.ready) memory) e.first
                ∙ ap (λ f. stands f call.base (words_of (func_of code f)) (held (Clear (pos 0)) call.values) (held 0 call.ready) memory) (e.func_is ∙ number_is)
                ∙ ap (λ b. stands (number_of_main code.funcs) b main_words (held (Clear (pos 0)) call.values) (held 0 call.ready) memory) (e.base_is ∙ base_is)
                ∙ ap (λ p. stands (number_of_main code.funcs) base main_words p (held 0 call.ready) memory) (e.places ∙ ap (λ f. put_all (params_of f) [] (λ loc. Clear (pos 0))) (sym at_main))
                ∙ ap (λ t. stands (number_of_main code.funcs) base main_words (put_all (params_of (func_of code (number_of_main code.funcs))) [] (λ loc. Clear (pos 0))) t memory) e.times
                ∙ ap (λ m. stands (number_of_main code.funcs) base main_words (put_all (params_of (func_of code (number_of_main code.funcs))) [] (λ loc. Clear (pos 0))) (λ loc. 0) m) memory_so

            pub loaded : IsLoaded latency code (going_at code call [] memory 0)
            loaded = record { same_code = refl; going = refl; first = refl; start = start_is }

-- ---- a register

reg_held : (regs : List Tagged) (reg : ℕ) → IfSome (slice_get regs reg) (λ value. value ≡ slice_index_or regs reg (Clear (pos 0)))
reg_held [] reg = tt
reg_held (value ∷ regs) zero = refl
reg_held (value ∷ regs) (suc reg) = reg_held regs reg

pub reg_is : (sim : Simulation) (reg : ℕ) (found : Option Tagged) → found ≡ slice_get sim.call.values.regs reg → IfSome found (λ value. value ≡ (state_of sim).word.call.places (Reg reg))
unfolding state_of
reg_is sim reg found is = subst (λ f. IfSome f (λ value. value ≡ held (Clear (pos 0)) sim.call.values (Reg reg))) (sym is) (reg_held sim.call.values.regs reg)
