-- One cycle: the word at hand waits while something that it touches is not ready, or is done.
use Rattle.std.specs.Prelude.{ℕ, suc, ◌+◌, Bool, true, false, nat_lt, List, [], ◌∷◌, ◌++◌, Option, Some, None}
use Rattle.std.specs.List.{list_any}
use Rattle.ib_meaning.specs.Machine.{Machine, Step, Goes, Stops}
use Rattle.machine_desc.specs.declared.machine.OpClass.{OpClass}
use Rattle.wide_core.specs.declared.code.Loc.{Loc}
use Rattle.wide_core.specs.declared.code.WideAct.{WideAct}
use Rattle.wide_core.specs.declared.code.WideOp.{WideOp}
use Rattle.wide_core.specs.Classes.{class_of}
use Rattle.wide_core.specs.Operation.{sources, target}
use Rattle.wide_core.specs.Places.{put_if}

-- a state of the machine by words, the times at which things are ready, and the cycle
pub record Timed (W T : Type 0) : Type 0 where
  pub word : W
  pub ready : T
  pub now : ℕ

-- by cycles, from a machine that goes word by word: whether its word is late, and the times behind its word
module _ {W T : Type 0} (step : Machine W) (late : W → T → ℕ → Bool) (times : W → T → ℕ → List ℕ → T) where
  abbrev pub ticked : Timed W T → Timed W T
  ticked c = record { word = c.word; ready = c.ready; now = suc c.now }

  abbrev pub behind_word : Timed W T → List ℕ → Step W → Step (Timed W T)
  behind_word c before (Goes w left printed) = Goes (record { word = w; ready = times c.word c.ready c.now before; now = suc c.now }) left printed
  behind_word c before (Stops finish left printed) = Stops finish left printed

  abbrev pub cycle_if : Bool → Timed W T → List ℕ → Step (Timed W T)
  cycle_if true c left = Goes (ticked c) left []
  cycle_if false c left = behind_word c left (step c.word left)

  -- one cycle: it waits, or does the word
  abbrev pub by_cycles : Machine (Timed W T)
  by_cycles c left = cycle_if (late c.word c.ready c.now) c left

-- ---- times of registers and slots

abbrev pub Times : Type 0
Times = Loc → ℕ

abbrev pub target_if : Option Loc → List Loc
target_if None = []
target_if (Some to) = to ∷ []

-- the registers and slots that the operation writes or reads
abbrev pub touched : WideAct → List Loc
touched act = target_if (target act) ++ sources act

abbrev pub is_late : Times → ℕ → WideOp → Bool
is_late ready now op = list_any (λ loc. nat_lt now (ready loc)) (touched op.act)

abbrev pub any_late : Times → ℕ → List WideOp → Bool
any_late ready now ops = list_any (is_late ready now) ops

-- what each operation writes is ready at now plus its class's latency
abbrev pub times_after : (OpClass → ℕ) → ℕ → List WideOp → Times → Times
times_after latency now [] ready = ready
times_after latency now (op ∷ ops) ready =
    times_after latency now ops (put_if (target op.act) (now + latency (class_of op.act)) ready)
