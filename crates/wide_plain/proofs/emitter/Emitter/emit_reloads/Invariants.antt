use Rattle.std.proofs.Common.{take}
use Rattle.std.specs.List.{flat_map}
use Rattle.plain_code.specs.Plain.{reload}
use Rattle.wide_plain.specs.Emitted.{Emits}
use Rattle.wide_plain.proofs.emitter.Emitter.emit_reloads.Given as goal

abbrev pub invariant-loop-source : goal.invariant-loop-source
invariant-loop-source l = Emits (flat_map (reload l.homes.low l.home l.sources) (take l.source-index l.sources)) l.initial.self l.self
