-- Where a call stands: its functions, its frame's base, where the next call's would be, and how many calls wait.
use Rattle.std.specs.Prelude.{ℕ, ◌+◌, Bool, not, List, length, slice_get}
use Rattle.wide_core.specs.declared.code.RawCode.{RawCode}
use Rattle.wide_core.specs.declared.code.WideFunc.{WideFunc}
use Rattle.wide_core.specs.Meaning.{func_of}
use Rattle.wide_core.specs.Operation.{Around}
use Rattle.wide_core.specs.Parts.{frame_of, overflows}
use Rattle.wide_sim.specs.declared.frame.Frame.{Frame}
use Rattle.wide_sim.specs.declared.frame.Suspended.{Suspended}

pub record Site : Type 0 where
  pub funcs : List WideFunc
  pub base : ℕ
  pub next_base : ℕ
  pub waiting : ℕ

-- of a call of the code, with these that wait
abbrev pub site_of : RawCode → Frame → List Suspended → Site
site_of code call callers = record {
  funcs = code.funcs;
  base = call.base;
  next_base = call.base + frame_of (func_of code call.func);
  waiting = length callers;
}

abbrev pub room_at : Site → ℕ → Bool
room_at site func = not (overflows site.waiting site.next_base (frame_of (slice_get site.funcs func)))

-- what the operations of a word find around them
abbrev pub around : Site → List ℕ → Around
around site memory = record { base = site.base; memory = memory; room = room_at site }
