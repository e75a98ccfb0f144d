-- What a word does, from its planned effects.
use Rattle.std.proofs.Common.{◌≡◌, ℕ, zero, suc, true, false, Bool, subst, ◌&&◌, List, [], ◌∷◌, length, map, take, refl, sym, ap, ◌∙◌, slice_get}
use Rattle.std.specs.List.{list_all}
use Rattle.wide_core.specs.declared.code.Loc.{Loc}
use Rattle.wide_core.specs.declared.code.Loc.TheVariants.{Reg}
use Rattle.wide_core.specs.declared.code.Tagged.{Tagged}
use Rattle.wide_core.specs.Operation.{Effect, Go, Stop, Nothing, Print, Leave as LeaveCall, Write as WriteTo, Save as SaveAt, Take as TakeInto}
use Rattle.wide_core.specs.Tagged.{number_of}
use Rattle.wide_core.specs.Valid.{Scope, takes}
use Rattle.wide_core.proofs.Both.{both, both_first, both_second}
use Rattle.wide_core.proofs.Lists.{all_of_map}
use Rattle.wide_sim.specs.declared.planned.Planned.{Planned}
use Rattle.wide_sim.specs.declared.planned.Planned.TheVariants.{Idle, Write, Save, Take, PutByte, PutNumber, Jump, Call, Return, Report}
use Rattle.wide_sim.specs.EffectFits.{effect_fits}
use Rattle.ib_base.specs.World.{World}
use Rattle.wide_core.specs.declared.code.WideOp.{WideOp}
use Rattle.ib_meaning.specs.Agreement.{IsPrefix}
use Rattle.ib_run.specs.OverHost.{OverHost}
use Rattle.ib_run.proofs.OverHost.{over_weaken}
use Rattle.wide_core.specs.Word.{Flow, Outcome, done, done_with, effect, effects, flow_of}
use Rattle.wide_sim.specs.declared.next.Next.{Next}
use Rattle.wide_sim.specs.Cycles.{Breaks, ComesOut, Does, done_at, finish, flow, outcome_at}
use Rattle.wide_sim.specs.Site.{Site, around, room_at}
use Rattle.wide_sim.proofs.Words.{word_comes}
use Rattle.wide_sim.specs.Effects.{Asked, Hears, PrintsSome, turn_after, before_report, is_report, text, heard, left_after, places_after, memory_after}
use Rattle.wide_sim.specs.Next.{IsNext, calls_well, has_args}
use Rattle.wide_sim.specs.Planned.{effect_of}
use Rattle.wide_sim.specs.Quiet.{is_quiet_plan}
use Rattle.wide_sim.proofs.Turns.{other_first, report_first, turn_of_all}

pub all_take : {T : Type 0} (test : T → Bool) (xs : List T) (n : ℕ) → list_all test xs ≡ true → list_all test (take n xs) ≡ true
all_take test xs zero h = refl
all_take test [] (suc n) h = refl
all_take test (x ∷ xs) (suc n) h = both (test x) _ (both_first (test x) _ h) (all_take test xs n (both_second (test x) _ h))

length_map : {A B : Type 0} (f : A → B) (xs : List A) → length (map f xs) ≡ length xs
length_map f [] = refl
length_map f (x ∷ xs) = ap suc (length_map f xs)

module _ (scope : Scope) (room : ℕ → Bool) (places : Loc → Tagged) where
  -- a planned call is of a function that is there
  pub calls_from : (f : Planned) → effect_fits scope room (effect_of places f) ≡ true → calls_well scope.funcs f ≡ true
  calls_from (Call result func next args) h =
      ap (λ n. takes (slice_get scope.funcs func) n) (sym (length_map (λ r. number_of (places (Reg r))) args.now))
      ∙ both_first (takes (slice_get scope.funcs func) _) (room func) (both_second _ (takes (slice_get scope.funcs func) (length (map (λ r. number_of (places (Reg r))) args.now)) && room func) h)
  calls_from Idle h = refl
  calls_from (Write to value) h = refl
  calls_from (Save width address value) h = refl
  calls_from (Take to) h = refl
  calls_from (PutByte byte) h = refl
  calls_from (PutNumber z) h = refl
  calls_from (Jump to) h = refl
  calls_from (Return z) h = refl
  calls_from (Report number kind) h = refl

  -- planned effects fit where the word's effects do
  pub plan_fits : (fs : List Planned) (es : List Effect) → map (effect_of places) fs ≡ es → list_all (effect_fits scope room) es ≡ true → list_all (λ f. effect_fits scope room (effect_of places f)) fs ≡ true
  plan_fits fs es is h = sym (all_of_map (effect_fits scope room) (effect_of places) fs) ∙ ap (list_all (effect_fits scope room)) is ∙ h

  pub turn_calls : (fs : List Planned) (turn : Planned) → turn ≡ turn_after Idle fs → list_all (λ f. effect_fits scope room (effect_of places f)) fs ≡ true → calls_well scope.funcs turn ≡ true
  turn_calls fs turn is h =
      ap (calls_well scope.funcs) is ∙ calls_from (turn_after Idle fs) (turn_of_all (λ f. effect_fits scope room (effect_of places f)) fs Idle refl h)

pub turn_args : (regs slots : ℕ) (fs : List Planned) (turn : Planned) → turn ≡ turn_after Idle fs → list_all (has_args regs slots) fs ≡ true → has_args regs slots turn ≡ true
turn_args regs slots fs turn is h = ap (has_args regs slots) is ∙ turn_of_all (has_args regs slots) fs Idle refl h

-- where nothing is asked for, neither does what control does
pub turn_quiet : (fs : List Planned) (turn : Planned) → turn ≡ turn_after Idle fs → list_all is_quiet_plan fs ≡ true → is_quiet_plan turn ≡ true
turn_quiet fs turn is h = ap is_quiet_plan is ∙ turn_of_all is_quiet_plan fs Idle refl h

pub finished : (turn : Effect) (s : Flow) → flow_of (finish turn s) ≡ s
finished (Go exit) s = refl
finished (LeaveCall z) s = refl
finished (Stop number kind) s = refl
finished Nothing s = refl
finished (WriteTo to value) s = refl
finished (SaveAt width address value) s = refl
finished (TakeInto to) s = refl
finished (Print text) s = refl

-- where control has one place, the operations that are done are those whose effects stand before the first report
module _ (effect_at : WideOp → Effect) (places : Loc → Tagged) where
  none_left : (count : ℕ) → take count [] ≡ done true effect_at []
  none_left zero = refl
  none_left (suc count) = refl

  none_done : (f : Planned) (op : WideOp) (more : List WideOp) → is_report f ≡ true → done_with true (effect_of places f) op more ≡ []
  none_done (Report number kind) op more h = refl
  none_done Idle op more h = cc
  none_done (Write to value) op more h = cc
  none_done (Save width address value) op more h = cc
  none_done (Take to) op more h = cc
  none_done (PutByte byte) op more h = cc
  none_done (PutNumber z) op more h = cc
  none_done (Jump to) op more h = cc
  none_done (Call result func next args) op more h = cc
  none_done (Return z) op more h = cc

  one_done : (f : Planned) (op : WideOp) (more : List WideOp) → is_report f ≡ false → done_with true (effect_of places f) op more ≡ op ∷ more
  one_done (Report number kind) op more h = cc
  one_done Idle op more h = refl
  one_done (Write to value) op more h = refl
  one_done (Save width address value) op more h = refl
  one_done (Take to) op more h = refl
  one_done (PutByte byte) op more h = refl
  one_done (PutNumber z) op more h = refl
  one_done (Jump to) op more h = refl
  one_done (Call result func next args) op more h = refl
  one_done (Return z) op more h = refl

  done_first : (f : Planned) (fs : List Planned) (op : WideOp) (ops : List WideOp) → effect_of places f ≡ effect_at op → ((c : ℕ) → take c fs ≡ before_report fs → take c ops ≡ done true effect_at ops)
      → (b : Bool) → is_report f ≡ b → (count : ℕ) → take count (f ∷ fs) ≡ before_report (f ∷ fs) → take count (op ∷ ops) ≡ done true effect_at (op ∷ ops)
  done_first f fs op ops is more true r zero cut = sym (ap (λ e. done_with true e op (done true effect_at ops)) (sym is) ∙ none_done f op (done true effect_at ops) r)
  done_first f fs op ops is more true r (suc c) cut = let none = cut ∙ report_first f fs r in cc
  done_first f fs op ops is more false r zero cut = let some = cut ∙ other_first f fs r in cc
  done_first f fs op ops is more false r (suc c) cut =
      let both_are = cut ∙ other_first f fs r in
      let rest : take c fs ≡ before_report fs = cc in
      ap (λ os. op ∷ os) (more c rest) ∙ sym (ap (λ e. done_with true e op (done true effect_at ops)) (sym is) ∙ one_done f op (done true effect_at ops) r)

  pub done_of_cut : (fs : List Planned) (ops : List WideOp) → map (effect_of places) fs ≡ map effect_at ops → (count : ℕ) → take count fs ≡ before_report fs → take count ops ≡ done true effect_at ops
  done_of_cut fs [] planned count cut = none_left count
  done_of_cut [] (op ∷ ops) planned count cut = cc
  done_of_cut (f ∷ fs) (op ∷ ops) planned count cut =
      let first : effect_of places f ≡ effect_at op = cc in
      let rest : map (effect_of places) fs ≡ map effect_at ops = cc in
      done_first f fs op ops first (done_of_cut fs ops rest) (is_report f) refl count cut

module _ (site : Site) (ops : List WideOp) (places : Loc → Tagged) (memory : List ℕ) (fs cut : List Planned) (planned : map (effect_of places) fs ≡ effects (around site memory) places ops) (cut_is : cut ≡ before_report fs) where
  abbrev control : Effect
  control = effect_of places (turn_after Idle fs)

  abbrev comes_out : List Planned → (input left out : List ℕ) → Type 0
  comes_out gs input left out = ComesOut site ops places (places_after gs places) memory (memory_after gs memory) control input left out

  comes_so : (gs : List Planned) (input left out : List ℕ) → Hears cut gs input left out → comes_out gs input left out
  comes_so gs input left out h =
      word_comes places site.base (room_at site) memory ops fs gs input left planned (ap (heard input) (sym cut_is) ∙ h.given) (ap (λ x. left_after x input) (sym cut_is) ∙ h.rest)
      ∙ ap (λ x. finish control (flow (places_after gs places) (memory_after gs memory) left (text x))) (sym cut_is)
      ∙ ap (λ o. finish control (flow (places_after gs places) (memory_after gs memory) left o)) (sym h.prints)

  pub does_word : (regs at : ℕ) (next : Next) (gs : List Planned) (after : Loc → Tagged) (memory_behind : List ℕ) (before behind : World)
      → IsNext regs site.funcs site.next_base at places (turn_after Idle fs) next → Asked cut gs before behind → after ≡ places_after gs places → memory_behind ≡ memory_after gs memory
      → (count : ℕ) → cut ≡ take count fs → Does regs at site ops places after memory memory_behind before behind next count
  does_word regs at next gs after memory_behind before behind goes asked after_is memory_is count count_is = record {
    plan = fs;
    planned = planned;
    goes = goes;
    counted = done_of_cut (effect (around site memory) places) places fs ops planned count (sym count_is ∙ cut_is);
    over = over_weaken (Hears cut gs) (ComesOut site ops places after memory memory_behind control) before behind asked.over
        (λ input left out h.
        comes_so gs input left out h
        ∙ ap (λ p. finish control (flow p (memory_after gs memory) left out)) (sym after_is)
        ∙ ap (λ m. finish control (flow after m left out)) (sym memory_is));
  }

  prints_so : (input : List ℕ) → (flow_of (outcome_at site ops places memory input)).out ≡ text cut
  prints_so input =
      ap (λ (o : Outcome). (flow_of o).out) (comes_so (heard input cut) input (left_after cut input) (text cut) (record { given = refl; rest = refl; prints = refl }))
      ∙ ap (λ (s : Flow). s.out) (finished control (flow (places_after (heard input cut) places) (memory_after (heard input cut) memory) (left_after cut input) (text cut)))

  pub breaks_word : (before behind : World) → OverHost (PrintsSome (text cut)) before behind → OverHost (Breaks site ops places memory) before behind
  breaks_word before behind some =
      over_weaken (PrintsSome (text cut)) (Breaks site ops places memory) before behind some
      (λ input left out p. record { begins = subst (λ (t : List ℕ). IsPrefix out t) (sym (prints_so input)) p.begins; kept = p.kept })
