-- A simulator, the state of the machine that it stands for, and what its cycles and runs show.
use Rattle.std.specs.Prelude.{◌≡◌, ℕ, suc, ◌+◌, ◌<◌, ◌≤◌, Bool, true, false, IsTrue, List, map}
use Rattle.ib_meaning.specs.Agreement.{Meaning, Finish, Returned, Faulted, More, Over, IsPrefix, out_of}
use Rattle.ib_meaning.specs.Machine.{Step, Goes, Stops, means}
use Rattle.ib_base.specs.World.{World}
use Rattle.ib_run.specs.OverHost.{OverHost}
use Rattle.ib_run.specs.Path.{Path, printed_of}
use Rattle.machine_desc.specs.declared.machine.OpClass.{OpClass}
use Rattle.wide_core.specs.declared.code.RawCode.{RawCode}
use Rattle.wide_core.specs.Meaning.{Wide, wide_step, wide_end, wide_start}
use Rattle.wide_core.specs.Valid.{Limits, IsValid}
use Rattle.wide_sim.specs.declared.frame.Frame.{Frame}
use Rattle.wide_sim.specs.declared.frame.Suspended.{Suspended}
use Rattle.wide_sim.specs.declared.outcome.SimOutcome.{SimOutcome}
use Rattle.wide_sim.specs.declared.outcome.SimOutcome.TheVariants.{Ended as EndedAfter, Reported as ReportedAfter, Spent}
use Rattle.wide_sim.specs.declared.outcome.Stepped.{Stepped}
use Rattle.wide_sim.specs.declared.outcome.Stepped.TheVariants.{Going, Ended, Reported}
use Rattle.wide_sim.specs.Advance.{Standing, standing}
use Rattle.wide_sim.specs.Frames.{FrameFits, AllFit, call_of, waiting_of, times_of}
use Rattle.wide_sim.specs.Store.{held}

-- the code, the call at hand and those that wait, the last to have come first, the memory, the cycle, and whether the
-- machine is over
pub record Simulation : Type 0 where
  pub code : RawCode
  pub call : Frame
  pub callers : List Suspended
  pub memory : List ℕ
  pub cycle : ℕ
  pub stepped : Stepped

-- a simulator in this cycle, with these parts
abbrev pub sim_of : RawCode → Standing → (cycle : ℕ) → Simulation
sim_of code s cycle = record { code = code; call = s.call; callers = s.callers; memory = s.memory; cycle = cycle; stepped = s.stepped }

-- one that goes on
abbrev pub going_at : RawCode → Frame → List Suspended → (memory : List ℕ) (cycle : ℕ) → Simulation
going_at code call callers memory cycle = sim_of code (standing call callers memory Going) cycle

-- the machine's state
unfoldable pub state_of : Simulation → Wide
state_of sim = record {
  word = record { call = call_of sim.code sim.call; waiting = map (waiting_of sim.code) sim.callers; memory = sim.memory };
  ready = record { top = held 0 sim.call.ready; waiting = map times_of sim.callers };
  now = sim.cycle;
}

-- what a simulator keeps: its code is valid, its calls are calls of the code, and there is room for a word's effects
pub record IsSound (limits : Limits) (code : RawCode) (call : Frame) (callers : List Suspended) (room : ℕ) : Type 0 where
  pub valid : IsValid limits code
  pub call_fits : FrameFits limits.regs code call
  pub callers_fit : AllFit limits.regs code callers
  pub plan_room : 64 ≤ room

abbrev pub is_over : Stepped → Bool
is_over Going = false
is_over (Ended result) = true
is_over (Reported place kind) = true

-- how a run comes out that leaves the machine so
abbrev pub outcome_by : Stepped → (cycle : ℕ) → SimOutcome
outcome_by Going cycle = Spent
outcome_by (Ended result) cycle = EndedAfter result cycle
outcome_by (Reported place kind) cycle = ReportedAfter place kind cycle

-- a step of the machine: to a state, or its end
abbrev pub step_to : Stepped → Wide → (left out : List ℕ) → Step Wide
step_to Going s left out = Goes s left out
step_to (Ended result) s left out = Stops (Returned result) left out
step_to (Reported place kind) s left out = Stops (Faulted place kind) left out

module _ (latency : OpClass → ℕ) where
  -- a simulator at the start of `main`
  pub record IsLoaded (code : RawCode) (sim : Simulation) : Type 0 where
    pub same_code : sim.code ≡ code
    pub going : sim.stepped ≡ Going
    pub first : sim.cycle ≡ 0
    pub start : state_of sim ≡ wide_start latency code

  -- one cycle of the machine; where it is the last, the machine stands as its end leaves it
  pub record Cycles (old new : Simulation) (input left out : List ℕ) : Type 0 where
    pub step : wide_step latency old.code (state_of old) input ≡ step_to new.stepped (state_of new) left out
    pub last : IsTrue (is_over new.stepped) → state_of new ≡ wide_end latency old.code (state_of old) input

  -- a beginning of what the cycle prints, and nothing was taken
  pub record BreaksOff (sim : Simulation) (input left out : List ℕ) : Type 0 where
    pub begins : IsPrefix out (printed_of (wide_step latency sim.code (state_of sim) input))
    pub kept : left ≡ input

  -- so many cycles of the machine, before its end
  abbrev pub Leads : ℕ → (old new : Simulation) → (input left out : List ℕ) → Type 0
  Leads cycles old new input left out = Path (wide_step latency old.code) (state_of old) input cycles (state_of new) left out

  -- what the machine means from here on
  abbrev pub meaning_from : Simulation → Meaning
  meaning_from sim = means (wide_step latency sim.code) (state_of sim)

-- with no fewer cycles than these the meaning is over so
pub record EndsAfter (meaning : Meaning) (finish : Finish) (cycles : ℕ) (input left out : List ℕ) : Type 0 where
  pub over : meaning input cycles ≡ Over finish out left
  pub sooner : (m : ℕ) → m < cycles → (printed : List ℕ) × (rest : List ℕ) × (meaning input m ≡ More printed rest)

-- so the run of a meaning comes out, of so many cycles at most
abbrev pub Simulates : Meaning → (most : ℕ) → SimOutcome → (input left out : List ℕ) → Type 0
Simulates meaning most (EndedAfter result cycles) input left out = (cycles ≤ most) × EndsAfter meaning (Returned result) cycles input left out
Simulates meaning most (ReportedAfter place kind cycles) input left out = (cycles ≤ most) × EndsAfter meaning (Faulted place kind) cycles input left out
Simulates meaning most Spent input left out = meaning input most ≡ More out left

-- what was printed begins an output of the meaning
abbrev pub Begins : Meaning → (most : ℕ) → (input left out : List ℕ) → Type 0
Begins meaning most input left out = IsPrefix out (out_of (meaning input most))

module _ (latency : OpClass → ℕ) where
  -- where the last of so many cycles is the machine's last, it leaves the machine so
  pub record StandsAfter (steps : ℕ) (old new : Simulation) (input : List ℕ) : Type 0 where
    pub earlier : ℕ
    pub count : steps ≡ suc earlier
    pub state : Wide
    pub rest : List ℕ
    pub printed : List ℕ
    pub leads : Path (wide_step latency old.code) (state_of old) input earlier state rest printed
    pub stands : state_of new ≡ wide_end latency old.code state rest

  -- so many cycles and no fewer bring the machine to this end, and leave it so
  abbrev pub ComesToEnd : (finish : Finish) (steps : ℕ) (old new : Simulation) → (input left out : List ℕ) → Type 0
  ComesToEnd finish steps old new input left out =
      EndsAfter (meaning_from latency old) finish steps input left out × StandsAfter steps old new input

  -- a run came to an end that came with this cycle, counted from the start of `main`
  pub record RunEnds (finish : Finish) (cycles most : ℕ) (old new : Simulation) (before after : World) : Type 0 where
    pub steps : ℕ
    pub within : steps ≤ most
    pub count : cycles ≡ old.cycle + steps
    pub over : OverHost (ComesToEnd finish steps old new) before after

  -- a run from a simulator that goes on
  abbrev pub Ran : SimOutcome → (most : ℕ) → (old new : Simulation) → (before after : World) → Type 0
  Ran (EndedAfter result cycles) most old new before after = RunEnds (Returned result) cycles most old new before after
  Ran (ReportedAfter place kind cycles) most old new before after = RunEnds (Faulted place kind) cycles most old new before after
  Ran Spent most old new before after = OverHost (Leads latency most old new) before after

  -- a run broke off in a cycle, before which the simulator stands
  pub record RunBreaksOff (most : ℕ) (old new : Simulation) (before after : World) : Type 0 where
    pub steps : ℕ
    pub within : steps < most
    pub count : new.cycle ≡ old.cycle + steps
    pub going : new.stepped ≡ Going
    pub middle : World
    pub leads : OverHost (Leads latency steps old new) before middle
    pub broken : OverHost (BreaksOff latency new) middle after
