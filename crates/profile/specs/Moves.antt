-- How a running program calls a function and goes back.
use Rattle.std.specs.Prelude.{◌≡◌, ℕ, ◌+◌, ℤ, Bool, true, not, List, [], ◌∷◌, Option, length, map, slice_get}
use Rattle.tac_core.specs.Meaning.{Waiting, frame_of, overflows, call, reg_of, do_return}
use Rattle.profile.specs.declared.progress.Progress.{Progress}
use Rattle.profile.specs.Running.{Did}
use Rattle.profile.specs.Sound.{Running, state_of}

-- where the frame of a function begins that is called now
abbrev pub top_of : Running → ℕ
top_of r = r.here.base + frame_of (slice_get r.program.funcs r.here.func)

-- the call at hand, as it waits for another
abbrev pub waits : Running → (dest : Option ℕ) → (next : ℕ) → Waiting
waits r dest next = record { func = r.here.func; label = r.here.label; base = r.here.base; regs = r.here.regs; dest = dest; next = next }

-- the function was called, unless that would be one call too many
pub record WasCalled (r new : Running) (dest : Option ℕ) (callee : ℕ) (args : List ℕ) (next : ℕ) (called : Bool) : Type 0 where
  pub fits : overflows (length r.waiting) (top_of r) (frame_of (slice_get r.program.funcs callee)) ≡ not called
  pub state : called ≡ true → state_of new ≡ call r.program.funcs callee (top_of r) (map (reg_of r.here.regs) args) (waits r dest next ∷ r.waiting) r.memory

-- the number went to the call that waits, or it is the result
abbrev pub WasGivenBack : Running → Running → (number : ℤ) → Progress → (input : List ℕ) → Type 0
WasGivenBack r new number progress input =
    Did (do_return r.program.funcs number r.waiting r.memory input) (state_of new) progress input []
