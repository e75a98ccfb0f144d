use Rattle.std.proofs.Common.{◌≡◌, ◌+◌, drop}
use Rattle.plain_code.specs.Plain.{index}
use Rattle.wide_plain.proofs.homes.index.Given as goal

abbrev pub invariant-loop-source : goal.invariant-loop-source
invariant-loop-source l = (l.at ≡ l.source-index) × (l.at + index l.reg (drop l.source-index l.sources) ≡ index l.reg l.sources)
