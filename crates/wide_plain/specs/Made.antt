-- What is made of a function, and that valid code has room for it.
use Rattle.std.specs.Prelude.{◌≡◌, ℕ, ◌+◌, ◌-◌, ◌≤◌, List, length}
use Rattle.ib_meaning.specs.declared.place.Place.{Place}
use Rattle.tac_core.specs.declared.code.TacFunc.{TacFunc}
use Rattle.plain_code.specs.Plain.{func_from, func_items}
use Rattle.wide_core.specs.declared.code.WideFunc.{WideFunc}

-- the function's code, and the number behind it
pub record IsPlainFunc (low : ℕ) (places : List Place) (number : ℕ) (f : TacFunc) (made : WideFunc) (behind : ℕ) : Type 0 where
  pub func : made ≡ func_from low places number f
  pub next : behind ≡ number + length (func_items low places f)

-- valid code has no more slots in a function
abbrev pub NeedsFewSlots : (low : ℕ) → TacFunc → Type 0
NeedsFewSlots low f = f.regs - low ≤ 1048576
