-- Behind a word the simulator stands for the machine's next state.
use Rattle.std.proofs.Common.{◌≡◌, ℕ, suc, ◌+◌, ℤ, pos, Bool, true, false, not, List, [], ◌∷◌, length, drop, map, Option, Some, None, refl, sym, ap, ◌∙◌, subst}
use Rattle.std.specs.Prelude.{IsTrue}
use Rattle.ib_base.specs.World.{World}
use Rattle.ib_meaning.specs.Machine.{Step, Goes}
use Rattle.ib_run.specs.OverHost.{OverHost}
use Rattle.ib_run.proofs.OverHost.{over_none, over_weaken}
use Rattle.ib_run.specs.Path.{printed_of}
use Rattle.ib_meaning.specs.Agreement.{IsPrefix}
use Rattle.ib_mem.specs.Memory.{cleared}
use Rattle.machine_desc.specs.declared.machine.OpClass.{OpClass}
use Rattle.wide_core.specs.declared.code.Loc.{Loc}
use Rattle.wide_core.specs.declared.code.RawCode.{RawCode}
use Rattle.wide_core.specs.declared.code.Tagged.{Tagged}
use Rattle.wide_core.specs.declared.code.Tagged.TheVariants.{Clear}
use Rattle.wide_core.specs.declared.code.WideFunc.{WideFunc}
use Rattle.wide_core.specs.declared.code.WideOp.{WideOp}
use Rattle.wide_core.specs.declared.code.Word.{Word}
use Rattle.wide_core.specs.Cycle.{Times, any_late, times_after}
use Rattle.wide_core.specs.Meaning.{Running, Clock, Call, Waiting, Wide, at_end, done_by, func_of, outcome_by, wide_end, wide_step, put_all, leave, resumed}
use Rattle.wide_core.specs.Parts.{words_of, frame_of, params_of, overflows}
use Rattle.wide_core.specs.Operation.{To, Into}
use Rattle.wide_core.specs.Places.{put, put_if}
use Rattle.wide_core.specs.Word.{Flow, Outcome, Through, Gone, Left, Stopped, after_word, done as done_of, effect, flow_of}
use Rattle.wide_core.proofs.Both.{both_first}
use Rattle.wide_sim.specs.declared.frame.Frame.{Frame}
use Rattle.wide_sim.specs.declared.frame.Suspended.{Suspended}
use Rattle.wide_sim.specs.declared.next.Next.{Next}
use Rattle.wide_sim.specs.declared.next.Next.TheVariants.{Word as WordNext, Call as Calls}
use Rattle.wide_sim.specs.declared.outcome.Stepped.{Stepped}
use Rattle.wide_sim.specs.declared.outcome.Stepped.TheVariants.{Going}
use Rattle.wide_sim.specs.declared.planned.Planned.{Planned}
use Rattle.wide_sim.specs.declared.planned.Planned.TheVariants.{Idle, Write, Save, Take, PutByte, PutNumber, Jump, Call as CallPlanned, Return, Report}
use Rattle.wide_sim.specs.declared.store.Store.{Store}
use Rattle.wide_sim.specs.Advance.{TakesResult, FirstTakes, advanced, given, given_back, standing}
use Rattle.wide_sim.specs.Cycles.{Breaks, ComesOut, Does, done_at, finish, flow, outcome_at}
use Rattle.wide_sim.specs.Effects.{turn_after}
use Rattle.wide_sim.specs.Frames.{IsEntered, call_of, waiting_of, times_of}
use Rattle.wide_sim.specs.Next.{IsNext}
use Rattle.wide_sim.specs.Planned.{effect_of}
use Rattle.wide_sim.specs.Simulation.{Simulation, BreaksOff, Cycles, going_at, is_over, sim_of, state_of, step_to}
use Rattle.wide_sim.specs.Site.{Site, site_of}
use Rattle.wide_sim.specs.Store.{held, holds, with_held}
use Rattle.wide_sim.proofs.Places.{held_put}
use Rattle.wide_sim.proofs.Does.{finished}
use Rattle.wide_sim.proofs.Steps.{doing_step, end_is, ended, timed, turned, waiting_step}

length_map : {A B : Type 0} (f : A → B) (xs : List A) → length (map f xs) ≡ length xs
length_map f [] = refl
length_map f (x ∷ xs) = ap suc (length_map f xs)

-- what goes on is not over
goes_on : {P : Type 0} → IsTrue false → P
goes_on over = absurd (let none : ⊥ = cc in none)

module _ (latency : OpClass → ℕ) (regs : ℕ) (code : RawCode) (call : Frame) (callers : List Suspended) (memory : List ℕ) (cycle : ℕ)
    (func : WideFunc) (there : func_of code call.func ≡ Some func) (word : Word) (at_hand : drop call.at func.words ≡ word ∷ drop (call.at + 1) func.words) where
  abbrev old : Simulation
  old = going_at code call callers memory cycle

  abbrev site : Site
  site = site_of code call callers

  abbrev rest : List Word
  rest = drop (call.at + 1) func.words

  abbrev places : Loc → Tagged
  places = held (Clear (pos 0)) call.values

  abbrev machine : Running
  machine = record { call = call_of code call; waiting = map (waiting_of code) callers; memory = memory }

  abbrev state : Wide
  state = record { word = machine; ready = record { top = held 0 call.ready; waiting = map times_of callers }; now = cycle }

  rest_is : machine.call.rest ≡ word ∷ rest
  rest_is = ap (λ f. drop call.at (words_of f)) there ∙ at_hand

  state_is : state_of old ≡ state
  unfolding state_of
  state_is = refl

  abbrev room_behind : ℕ → ℕ → Bool
  room_behind waiting f = not (overflows waiting (call.base + frame_of (func_of code call.func)) (frame_of (func_of code f)))

  outcome_is : (input : List ℕ) → outcome_by true code machine word.ops input ≡ outcome_at site word.ops places memory input
  outcome_is input =
      ap (λ n. after_word true word.ops call.base (room_behind n) places memory input) (length_map (waiting_of code) callers)

  -- the operations that are done
  abbrev ops_done : List WideOp
  ops_done = done_at site word.ops places memory

  done_is : done_by true code machine word.ops ≡ ops_done
  done_is =
      ap (λ n. done_of true (effect (record { base = call.base; memory = memory; room = room_behind n }) places) word.ops) (length_map (waiting_of code) callers)

  abbrev times_behind : Times
  times_behind = times_after latency cycle ops_done (held 0 call.ready)

  module _ (values : Store Tagged) (ready : Store ℕ) (memory_behind : List ℕ) (soon : ℕ) (soon_is : soon ≡ suc cycle) (times : held 0 ready ≡ times_behind) where
    abbrev behind : Frame
    behind = record call { values = values; ready = ready }

    abbrev after : Loc → Tagged
    after = held (Clear (pos 0)) values

    abbrev new : Next → Simulation
    new next = sim_of code (advanced code soon next behind callers memory_behind) soon

    abbrev comes_to : Planned → (left out : List ℕ) → Step Wide
    comes_to turn left out = turned latency code state word rest rest_is times_behind (finish (effect_of places turn) (flow after memory_behind left out))

    abbrev now_at : Call → Times → ℕ → Wide
    now_at c t now = record {
      word = record { call = c; waiting = map (waiting_of code) callers; memory = memory_behind };
      ready = record { top = t; waiting = map times_of callers };
      now = now;
    }

    goes_to : (at : ℕ) (words : List Word) (left out : List ℕ) → words ≡ drop at (words_of (func_of code call.func))
        → Goes (now_at (record { func = call.func; base = call.base; rest = words; places = after }) times_behind (suc cycle)) left out ≡ step_to Going (state_of (new (WordNext at))) left out
    unfolding state_of
    goes_to at words left out is =
        ap (λ ws. Goes (now_at (record { func = call.func; base = call.base; rest = ws; places = after }) times_behind (suc cycle)) left out) is
        ∙ ap (λ t. Goes (now_at (call_of code (record behind { at = at })) t (suc cycle)) left out) (sym times)
        ∙ ap (λ n. Goes (now_at (call_of code (record behind { at = at })) (held 0 ready) n) left out) (sym soon_is)

    further : (left out : List ℕ) → Goes (now_at (record { func = call.func; base = call.base; rest = rest; places = after }) times_behind (suc cycle)) left out ≡ step_to Going (state_of (new (WordNext (call.at + 1)))) left out
    further left out = goes_to (call.at + 1) rest left out (ap (λ f. drop (call.at + 1) (words_of f)) (sym there))

    -- a call begins
    module _ (result : Option Loc) (next : ℕ) (left out : List ℕ) where
      abbrev called : (f base : ℕ) (words : List Word) (p : Loc → Tagged) (top t : Times) (now : ℕ) → Step Wide
      called f base words p top t now =
          Goes (record {
            word = record {
              call = record { func = f; base = base; rest = words; places = p };
              waiting = record { call = record { func = call.func; base = call.base; rest = drop next (words_of (func_of code call.func)); places = after }; result = result } ∷ map (waiting_of code) callers;
              memory = cleared memory_behind base (frame_of (func_of code f));
            };
            ready = record { top = top; waiting = t ∷ map times_of callers };
            now = now;
          }) left out

      calls_to : (f : ℕ) (args : List ℤ) (frame : Frame) (callee : WideFunc) → func_of code f ≡ Some callee → IsEntered regs callee f (call.base + frame_of (func_of code call.func)) args frame
          → called f (call.base + frame_of (func_of code call.func)) (words_of (func_of code f)) (put_all (params_of (func_of code f)) args (λ loc. Clear (pos 0))) (λ loc. 0) times_behind (suc cycle)
          ≡ step_to Going (state_of (new (Calls frame next result))) left out
      unfolding state_of
      calls_to f args frame callee is e =
          ap (λ b. called f b (words_of (func_of code f)) (put_all (params_of (func_of code f)) args (λ loc. Clear (pos 0))) (λ loc. 0) times_behind (suc cycle)) (sym e.base_is)
          ∙ ap (λ p. called f frame.base (words_of (func_of code f)) p (λ loc. 0) times_behind (suc cycle)) (ap (λ x. put_all (params_of x) args (λ loc. Clear (pos 0))) is ∙ sym e.places)
          ∙ ap (λ t. called f frame.base (words_of (func_of code f)) (held (Clear (pos 0)) frame.values) t times_behind (suc cycle)) (sym e.times)
          ∙ ap (λ t. called f frame.base (words_of (func_of code f)) (held (Clear (pos 0)) frame.values) (held 0 frame.ready) t (suc cycle)) (sym times)
          ∙ ap (λ n. called f frame.base (words_of (func_of code f)) (held (Clear (pos 0)) frame.values) (held 0 frame.ready) (held 0 ready) n) (sym soon_is)
          ∙ ap (λ g. called g frame.base (words_of (func_of code g)) (held (Clear (pos 0)) frame.values) (held 0 frame.ready) (held 0 ready) soon) (sym e.func_is)
          ∙ ap (λ a. called frame.func frame.base (drop a (words_of (func_of code frame.func))) (held (Clear (pos 0)) frame.values) (held 0 frame.ready) (held 0 ready) soon) (sym e.first)

    -- a call returns
    abbrev back_in : (z : ℤ) (cs : List Suspended) (left out : List ℕ) → Frame → Step Wide
    back_in z cs left out frame = step_to Going (state_of (sim_of code (standing frame cs memory_behind Going) soon)) left out

    abbrev resumes : (cs : List Suspended) (f : Frame) (p : Loc → Tagged) (t : Times) (now : ℕ) (left out : List ℕ) → Step Wide
    resumes cs f p t now left out =
        Goes (record {
          word = record { call = record { func = f.func; base = f.base; rest = drop f.at (words_of (func_of code f.func)); places = p }; waiting = map (waiting_of code) cs; memory = memory_behind };
          ready = record { top = t; waiting = map times_of cs };
          now = now;
        }) left out

    given_to : (z : ℤ) (cs : List Suspended) (f : Frame) (r : Option Loc) (left out : List ℕ) → TakesResult (record { frame = f; result = r })
        → resumes cs f (put_if r (Clear z) (held (Clear (pos 0)) f.values)) (put_if r (suc cycle) (held 0 f.ready)) (suc cycle) left out ≡ back_in z cs left out (given r z soon f)
    unfolding state_of
    given_to z cs f None left out takes = ap (λ n. resumes cs f (held (Clear (pos 0)) f.values) (held 0 f.ready) n left out) (sym soon_is)
    given_to z cs f (Some loc) left out takes =
        ap (λ n. resumes cs f (put loc (Clear z) (held (Clear (pos 0)) f.values)) (put loc n (held 0 f.ready)) n left out) (sym soon_is)
        ∙ ap (λ p. resumes cs f p (put loc soon (held 0 f.ready)) soon left out) (sym (held_put (Clear (pos 0)) f.values loc (Clear z) (both_first (holds f.values loc) _ takes.values)))
        ∙ ap (λ t. resumes cs f (held (Clear (pos 0)) (with_held f.values loc (Clear z))) t soon left out) (sym (held_put 0 f.ready loc soon (both_first (holds f.ready loc) _ takes.ready)))

    gives_to : (z : ℤ) (cs : List Suspended) (left out : List ℕ) → FirstTakes cs
        → timed latency code state word rest rest_is (leave (map (waiting_of code) cs) z (flow after memory_behind left out)) (resumed times_behind (map times_of cs) (map (waiting_of code) cs) (suc cycle))
        ≡ step_to (given_back behind cs memory_behind z soon).stepped (state_of (sim_of code (given_back behind cs memory_behind z soon) soon)) left out
    gives_to z [] left out takes = refl
    gives_to z (w ∷ cs) left out takes = given_to z cs w.frame w.result left out takes

    -- where control goes
    abbrev TurnTo : Planned → Next → (left out : List ℕ) → Type 0
    TurnTo turn next left out = comes_to turn left out ≡ step_to (new next).stepped (state_of (new next)) left out

    turn_to : (turn : Planned) (next : Next) (left out : List ℕ) → IsNext regs code.funcs (call.base + frame_of (func_of code call.func)) call.at places turn next → FirstTakes callers → TurnTo turn next left out
    turn_to (Jump to) next left out h takes =
        subst (λ (n : Next). TurnTo (Jump to) n left out) (sym h) (goes_to to (drop to (words_of (func_of code call.func))) left out refl)
    turn_to (CallPlanned result f at args) next left out h takes =
        subst (λ (n : Next). TurnTo (CallPlanned result f at args) n left out) (sym h.1) (calls_to result at left out f _ h.0 h.2.callee h.2.there h.2.entered)
    turn_to (Return z) next left out h takes = subst (λ (n : Next). TurnTo (Return z) n left out) (sym h) (gives_to z callers left out takes)
    turn_to (Report number kind) next left out h takes = subst (λ (n : Next). TurnTo (Report number kind) n left out) (sym h) refl
    turn_to Idle next left out h takes = subst (λ (n : Next). TurnTo Idle n left out) (sym h) (further left out)
    turn_to (Write to value) next left out h takes = subst (λ (n : Next). TurnTo (Write to value) n left out) (sym h) (further left out)
    turn_to (Save width address value) next left out h takes = subst (λ (n : Next). TurnTo (Save width address value) n left out) (sym h) (further left out)
    turn_to (Take to) next left out h takes = subst (λ (n : Next). TurnTo (Take to) n left out) (sym h) (further left out)
    turn_to (PutByte byte) next left out h takes = subst (λ (n : Next). TurnTo (PutByte byte) n left out) (sym h) (further left out)
    turn_to (PutNumber z) next left out h takes = subst (λ (n : Next). TurnTo (PutNumber z) n left out) (sym h) (further left out)

    -- where the machine is over it stays at its word
    abbrev resting : List Suspended → Wide
    resting cs = record {
      word = record { call = record { func = call.func; base = call.base; rest = drop call.at (words_of (func_of code call.func)); places = after }; waiting = map (waiting_of code) cs; memory = memory_behind };
      ready = record { top = times_behind; waiting = map times_of cs };
      now = suc cycle;
    }

    rests_at : (cs : List Suspended) (stepped : Stepped) → state_of (sim_of code (standing behind cs memory_behind stepped) soon) ≡ resting cs
    unfolding state_of
    rests_at cs stepped =
        ap (λ t. record (resting cs) { ready = record { top = t; waiting = map times_of cs }; now = soon }) times
        ∙ ap (λ n. record (resting cs) { now = n }) soon_is

    rests_back : (z : ℤ) (cs : List Suspended) → IsTrue (is_over (given_back behind cs memory_behind z soon).stepped) → state_of (sim_of code (given_back behind cs memory_behind z soon) soon) ≡ resting cs
    rests_back z [] over = rests_at [] _
    rests_back z (w ∷ cs) over = goes_on over

    abbrev RestsTo : Next → Type 0
    RestsTo next = IsTrue (is_over (new next).stepped) → state_of (new next) ≡ resting callers

    rests_to : (turn : Planned) (next : Next) → IsNext regs code.funcs (call.base + frame_of (func_of code call.func)) call.at places turn next → RestsTo next
    rests_to (Jump to) next h = subst (λ (n : Next). RestsTo n) (sym h) goes_on
    rests_to (CallPlanned result f at args) next h = subst (λ (n : Next). RestsTo n) (sym h.1) goes_on
    rests_to (Return z) next h = subst (λ (n : Next). RestsTo n) (sym h) (rests_back z callers)
    rests_to (Report number kind) next h = subst (λ (n : Next). RestsTo n) (sym h) (λ over. rests_at callers _)
    rests_to Idle next h = subst (λ (n : Next). RestsTo n) (sym h) goes_on
    rests_to (Write to value) next h = subst (λ (n : Next). RestsTo n) (sym h) goes_on
    rests_to (Save width address value) next h = subst (λ (n : Next). RestsTo n) (sym h) goes_on
    rests_to (Take to) next h = subst (λ (n : Next). RestsTo n) (sym h) goes_on
    rests_to (PutByte byte) next h = subst (λ (n : Next). RestsTo n) (sym h) goes_on
    rests_to (PutNumber z) next h = subst (λ (n : Next). RestsTo n) (sym h) goes_on

    -- the word is done
    pub done : (next : Next) (count : ℕ) (before after_it : World) → any_late (held 0 call.ready) cycle word.ops ≡ false → FirstTakes callers → Does regs call.at site word.ops places after memory memory_behind before after_it next count → OverHost (Cycles latency old (new next)) before after_it
    done next count before after_it in_time takes does =
        over_weaken (ComesOut site word.ops places after memory memory_behind (effect_of places (turn_after Idle does.plan))) (Cycles latency old (new next)) before after_it does.over
        (λ input left out h. record {
          step = ap (λ s. wide_step latency code s input) state_is
              ∙ doing_step latency code state word rest rest_is input (finish (effect_of places (turn_after Idle does.plan)) (flow after memory_behind left out)) ops_done in_time (outcome_is input ∙ h) done_is
              ∙ turn_to (turn_after Idle does.plan) next left out does.goes takes;
          last = λ over.
              rests_to (turn_after Idle does.plan) next does.goes over
              ∙ sym (ap (λ s. wide_end latency code s input) state_is
              ∙ end_is latency code state word rest rest_is input (finish (effect_of places (turn_after Idle does.plan)) (flow after memory_behind left out)) ops_done (outcome_is input ∙ h) done_is
              ∙ ap (λ s. ended latency code state word rest rest_is s ops_done) (finished (effect_of places (turn_after Idle does.plan)) (flow after memory_behind left out)));
        })

  -- the word waits
  pub waited : (soon : ℕ) (w : World) → soon ≡ suc cycle → any_late (held 0 call.ready) cycle word.ops ≡ true → OverHost (Cycles latency old (record old { cycle = soon })) w w
  unfolding state_of
  waited soon w soon_is late =
      over_none (Cycles latency old (record old { cycle = soon }))
      (λ left. record {
        step = waiting_step latency code state word rest rest_is left late
            ∙ ap (λ n. Goes (record { word = machine; ready = state.ready; now = n }) left []) (sym soon_is);
        last = goes_on;
      }) w

  -- the word is broken off
  left_prints : (ws : List Waiting) (z : ℤ) (s : Flow) (clock : Clock) → printed_of (timed latency code state word rest rest_is (leave ws z s) clock) ≡ s.out
  left_prints [] z s clock = refl
  left_prints (w ∷ ws) z s clock = refl

  prints_so : (x : Outcome) → printed_of (turned latency code state word rest rest_is times_behind x) ≡ (flow_of x).out
  prints_so (Through s) = refl
  prints_so (Gone (To at) s) = refl
  prints_so (Gone (Into f next result args) s) = refl
  prints_so (Left z s) = left_prints (map (waiting_of code) callers) z s _
  prints_so (Stopped number kind s) = refl

  pub broken_off : (before after_it : World) → any_late (held 0 call.ready) cycle word.ops ≡ false → OverHost (Breaks site word.ops places memory) before after_it → OverHost (BreaksOff latency old) before after_it
  broken_off before after_it in_time some =
      over_weaken (Breaks site word.ops places memory) (BreaksOff latency old) before after_it some
      (λ input left out p. record {
        begins = subst (λ (whole : List ℕ). IsPrefix out whole)
            (sym (ap (λ s. printed_of (wide_step latency code s input)) state_is
            ∙ ap printed_of (doing_step latency code state word rest rest_is input (outcome_by true code machine word.ops input) ops_done in_time refl done_is)
            ∙ prints_so (outcome_by true code machine word.ops input)
            ∙ ap (λ (x : Outcome). (flow_of x).out) (outcome_is input))) p.begins;
        kept = p.kept;
      })
