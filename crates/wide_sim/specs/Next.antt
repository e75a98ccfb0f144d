-- Where control goes behind a word.
use Rattle.std.specs.Prelude.{◌≡◌, ℕ, ◌+◌, Bool, true, List, length, map, slice_get, Some}
use Rattle.std.specs.List.{list_all}
use Rattle.wide_core.specs.declared.code.Loc.{Loc}
use Rattle.wide_core.specs.declared.code.Loc.TheVariants.{Reg}
use Rattle.wide_core.specs.declared.code.Tagged.{Tagged}
use Rattle.wide_core.specs.declared.code.WideFunc.{WideFunc}
use Rattle.wide_core.specs.Tagged.{number_of}
use Rattle.wide_core.specs.Valid.{is_within, takes}
use Rattle.wide_sim.specs.declared.frame.Frame.{Frame}
use Rattle.wide_sim.specs.declared.next.Next.{Next}
use Rattle.wide_sim.specs.declared.next.Next.TheVariants.{Word, Call as Calls, Return as Returns, Report as Reports}
use Rattle.wide_sim.specs.declared.planned.Planned.{Planned}
use Rattle.wide_sim.specs.declared.planned.Planned.TheVariants.{Jump, Call, Return, Report}
use Rattle.wide_sim.specs.Frames.{IsEntered}

-- the arguments of a call are registers of the caller
abbrev pub has_args : (regs slots : ℕ) → Planned → Bool
has_args regs slots (Call result func next args) = list_all (is_within regs slots) (map (λ r. Reg r) args.now)
has_args regs slots f = true

-- a called function is there, and takes so many arguments
abbrev pub calls_well : List WideFunc → Planned → Bool
calls_well funcs (Call result func next args) = takes (slice_get funcs func) (length args.now)
calls_well funcs f = true

-- a call of a function that is there, as it begins
pub record BeginsCall (regs : ℕ) (funcs : List WideFunc) (func base : ℕ) (places : Loc → Tagged) (args : List ℕ) (frame : Frame) : Type 0 where
  pub callee : WideFunc
  pub there : slice_get funcs func ≡ Some callee
  pub entered : IsEntered regs callee func base (map (λ r. number_of (places (Reg r))) args) frame

abbrev pub IsNext : (regs : ℕ) (funcs : List WideFunc) (next_base at : ℕ) (places : Loc → Tagged) → Planned → Next → Type 0
IsNext regs funcs next_base at places (Jump to) n = n ≡ Word to
IsNext regs funcs next_base at places (Call result func next args) n =
    (frame : Frame) × (n ≡ Calls frame next result) × BeginsCall regs funcs func next_base places args.now frame
IsNext regs funcs next_base at places (Return z) n = n ≡ Returns z
IsNext regs funcs next_base at places (Report number kind) n = n ≡ Reports number kind
IsNext regs funcs next_base at places f n = n ≡ Word (at + 1)
