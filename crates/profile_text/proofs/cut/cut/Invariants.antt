use Rattle.std.proofs.Common.{◌≡◌, take, drop}
use Rattle.profile_text.specs.Lines.{parts}
use Rattle.profile_text.proofs.Parts.{grown}
use Rattle.profile_text.proofs.cut.cut.Given as goal

abbrev pub invariant-loop-at : goal.invariant-loop-at
invariant-loop-at l = parts l.separator l.bytes ≡ grown (take l.at l.bytes) (parts l.separator (drop l.at l.bytes))
