-- One thing for each register and slot, kept in two lists.
use Rattle.std.specs.Prelude.{Bool, length, slice_index_or, slice_set}
use Rattle.wide_core.specs.declared.code.Loc.{Loc}
use Rattle.wide_core.specs.declared.code.Loc.TheVariants.{Reg, Slot}
use Rattle.wide_core.specs.Valid.{is_within}
use Rattle.wide_sim.specs.declared.store.Store.{Store}

-- what stands at a place; d where the lists end before it
abbrev pub held : {T : Type 0} → T → Store T → Loc → T
held d store (Reg r) = slice_index_or store.regs r d
held d store (Slot s) = slice_index_or store.slots s d

abbrev pub with_held : {T : Type 0} → Store T → Loc → T → Store T
with_held store (Reg r) item = record store { regs = slice_set store.regs r item }
with_held store (Slot s) item = record store { slots = slice_set store.slots s item }

abbrev pub holds : {T : Type 0} → Store T → Loc → Bool
holds store loc = is_within (length store.regs) (length store.slots) loc
