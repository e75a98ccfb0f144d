-- What the simulator's planned effects stand for.
use Rattle.std.specs.Prelude.{[], ◌∷◌, map, Option}
use Rattle.std.specs.Fmt.{signed_decimal}
use Rattle.wide_core.specs.declared.code.Loc.{Loc}
use Rattle.wide_core.specs.declared.code.Loc.TheVariants.{Reg}
use Rattle.wide_core.specs.declared.code.Tagged.{Tagged}
use Rattle.wide_core.specs.Operation.{Effect, Nothing, Write, Save, Take, Print, Go, Leave, Stop, To, Into, keeps_mark}
use Rattle.wide_core.specs.Tagged.{number_of}
use Rattle.wide_core.specs.declared.tags.Done.{Done}
use Rattle.wide_core.specs.declared.tags.Done.TheVariants.{Value, Marked, Report as ReportDone}
use Rattle.wide_sim.specs.declared.planned.Planned.{Planned}
use Rattle.wide_sim.specs.declared.planned.Planned.TheVariants.{Idle, Write as WritePlanned, Save as SavePlanned, Take as TakePlanned, PutByte, PutNumber, Jump, Call, Return, Report}

-- the effect, from the registers and slots before the word
abbrev pub effect_of : (Loc → Tagged) → Planned → Effect
effect_of places Idle = Nothing
effect_of places (WritePlanned to value) = Write to value
effect_of places (SavePlanned width address value) = Save width address value
effect_of places (TakePlanned to) = Take to
effect_of places (PutByte byte) = Print (byte ∷ [])
effect_of places (PutNumber z) = Print (signed_decimal z)
effect_of places (Jump to) = Go (To to)
effect_of places (Call result func next args) = Go (Into func next result (map (λ r. number_of (places (Reg r))) args.now))
effect_of places (Return z) = Leave z
effect_of places (Report number kind) = Stop number kind

-- a call, by what the tag rule makes of it
abbrev pub shown_call : Option Loc → Effect → Done → Effect
shown_call to call (Value z) = call
shown_call to call (Marked number kind) = keeps_mark to number kind
shown_call to call (ReportDone number kind) = Stop number kind
