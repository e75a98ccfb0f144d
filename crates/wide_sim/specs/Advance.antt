-- What control changes behind a word, once its effects are written.
use Rattle.std.specs.Prelude.{◌≡◌, ℕ, ℤ, ◌+◌, ◌<◌, ◌≤◌, true, List, [], ◌∷◌, length, Option, Some, None}
use Rattle.std.specs.List.{list_all}
use Rattle.ib_base.specs.declared.integers.Width.TheVariants.{W4}
use Rattle.ib_base.specs.Integers.{wrapped}
use Rattle.ib_mem.specs.Memory.{cleared}
use Rattle.wide_core.specs.declared.code.Loc.{Loc}
use Rattle.wide_core.specs.declared.code.Tagged.TheVariants.{Clear}
use Rattle.wide_core.specs.declared.code.RawCode.{RawCode}
use Rattle.wide_core.specs.Cycle.{target_if}
use Rattle.wide_core.specs.Meaning.{func_of}
use Rattle.wide_core.specs.Parts.{home_of, frame_of}
use Rattle.wide_core.specs.Valid.{is_within}
use Rattle.wide_sim.specs.declared.frame.Frame.{Frame}
use Rattle.wide_sim.specs.declared.frame.Suspended.{Suspended}
use Rattle.wide_sim.specs.declared.next.Next.{Next}
use Rattle.wide_sim.specs.declared.next.Next.TheVariants.{Word, Call as Calls, Return as Returns, Report as Reports}
use Rattle.wide_sim.specs.declared.outcome.Stepped.{Stepped}
use Rattle.wide_sim.specs.declared.outcome.Stepped.TheVariants.{Going, Ended, Reported}
use Rattle.wide_sim.specs.Store.{with_held}

-- the call at hand, the calls that wait, the memory, and whether the machine is over
pub record Standing : Type 0 where
  pub call : Frame
  pub callers : List Suspended
  pub memory : List ℕ
  pub stepped : Stepped

abbrev pub standing : Frame → List Suspended → List ℕ → Stepped → Standing
standing call callers memory stepped = record { call = call; callers = callers; memory = memory; stepped = stepped }

-- with a number in the place, which is ready soon
abbrev pub given : Option Loc → ℤ → (soon : ℕ) → Frame → Frame
given None z soon f = f
given (Some loc) z soon f = record f { values = with_held f.values loc (Clear z); ready = with_held f.ready loc soon }

abbrev pub given_back : (call : Frame) → List Suspended → List ℕ → ℤ → (soon : ℕ) → Standing
given_back call [] memory z soon = standing call [] memory (Ended (wrapped W4 z))
given_back call (w ∷ callers) memory z soon = standing (given w.result z soon w.frame) callers memory Going

abbrev pub suspended : Frame → (next : ℕ) → Option Loc → Suspended
suspended call next result = record { frame = record call { at = next }; result = result }

abbrev pub advanced : RawCode → (soon : ℕ) → Next → Frame → List Suspended → List ℕ → Standing
advanced code soon (Word at) call callers memory = standing (record call { at = at }) callers memory Going
advanced code soon (Calls frame next result) call callers memory =
    standing frame (suspended call next result ∷ callers) (cleared memory frame.base (frame_of (func_of code frame.func))) Going
advanced code soon (Returns z) call callers memory = given_back call callers memory z soon
advanced code soon (Reports number kind) call callers memory = standing call callers memory (Reported (home_of code number) kind)

-- the place of a result is among the registers and slots
pub record TakesResult (w : Suspended) : Type 0 where
  pub values : list_all (is_within (length w.frame.values.regs) (length w.frame.values.slots)) (target_if w.result) ≡ true
  pub ready : list_all (is_within (length w.frame.ready.regs) (length w.frame.ready.slots)) (target_if w.result) ≡ true

abbrev pub FirstTakes : List Suspended → Type 0
FirstTakes [] = Unit {0}
FirstTakes (w ∷ callers) = TakesResult w

-- there is room for a call, and the call that waits takes what is returned
abbrev pub CanAdvance : RawCode → List Suspended → Next → Type 0
CanAdvance code callers (Word at) = Unit {0}
CanAdvance code callers (Calls frame next result) = (length callers < 4096) × (frame.base + frame_of (func_of code frame.func) ≤ 1048576)
CanAdvance code callers (Returns z) = FirstTakes callers
CanAdvance code callers (Reports number kind) = Unit {0}
