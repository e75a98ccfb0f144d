-- Calls of the simulator, and the calls of the machine that they stand for.
use Rattle.std.specs.Prelude.{◌≡◌, ℕ, ℤ, ◌+◌, ◌<◌, ◌≤◌, pos, true, List, [], ◌∷◌, length, drop, Some}
use Rattle.std.specs.List.{list_all}
use Rattle.wide_core.specs.declared.code.Tagged.TheVariants.{Clear}
use Rattle.wide_core.specs.declared.code.WideFunc.{WideFunc}
use Rattle.wide_core.specs.declared.code.WideOp.{WideOp}
use Rattle.wide_core.specs.declared.code.RawCode.{RawCode}
use Rattle.wide_core.specs.Cycle.{Times, target_if}
use Rattle.wide_core.specs.Meaning.{Call, Waiting, func_of, first_ops, put_all}
use Rattle.wide_core.specs.Parts.{words_of}
use Rattle.wide_core.specs.Valid.{is_within}
use Rattle.wide_sim.specs.declared.frame.Frame.{Frame}
use Rattle.wide_sim.specs.declared.frame.Suspended.{Suspended}
use Rattle.wide_sim.specs.Store.{held}

-- the call that the simulator's stands for
abbrev pub call_of : RawCode → Frame → Call
call_of code f = record {
  func = f.func;
  base = f.base;
  rest = drop f.at (words_of (func_of code f.func));
  places = held (Clear (pos 0)) f.values;
}

-- the operations of the word at hand
abbrev pub ops_at : RawCode → Frame → List WideOp
ops_at code f = first_ops (drop f.at (words_of (func_of code f.func)))

abbrev pub waiting_of : RawCode → Suspended → Waiting
waiting_of code w = record { call = call_of code w.frame; result = w.result }

-- when the places of a call that waits are ready
abbrev pub times_of : Suspended → Times
times_of w = held 0 w.frame.ready

-- a call as it begins, with these numbers
pub record IsEntered (regs : ℕ) (callee : WideFunc) (func base : ℕ) (numbers : List ℤ) (f : Frame) : Type 0 where
  pub func_is : f.func ≡ func
  pub base_is : f.base ≡ base
  pub first : f.at ≡ 0
  pub places : held (Clear (pos 0)) f.values ≡ put_all callee.params numbers (λ loc. Clear (pos 0))
  pub times : held 0 f.ready ≡ (λ loc. 0)
  pub regs_is : length f.values.regs ≡ regs
  pub slots_is : length f.values.slots ≡ callee.slots
  pub ready_regs : length f.ready.regs ≡ regs
  pub ready_slots : length f.ready.slots ≡ callee.slots

-- a call of the code: it has the machine's registers and its function's slots, one of its words is at hand, and its
-- frame lies in the memory
pub record FrameFits (regs : ℕ) (code : RawCode) (f : Frame) : Type 0 where
  pub func : WideFunc
  pub there : func_of code f.func ≡ Some func
  pub regs_is : length f.values.regs ≡ regs
  pub slots_is : length f.values.slots ≡ func.slots
  pub ready_regs : length f.ready.regs ≡ regs
  pub ready_slots : length f.ready.slots ≡ func.slots
  pub at_word : f.at < length func.words
  pub in_memory : f.base + func.frame ≤ 1048576

-- a call that waits: its result's place, where it has one, is among its registers and slots
pub record SuspendedFits (regs : ℕ) (code : RawCode) (w : Suspended) : Type 0 where
  pub fits : FrameFits regs code w.frame
  pub result_fits : list_all (is_within regs (length w.frame.values.slots)) (target_if w.result) ≡ true

abbrev pub AllFit : (regs : ℕ) → RawCode → List Suspended → Type 0
AllFit regs code [] = Unit {0}
AllFit regs code (w ∷ ws) = SuspendedFits regs code w × AllFit regs code ws
