use Rattle.std.proofs.Common.{◌≡◌, ◌≤◌, ◌+◌, length, None}
use Rattle.profile_text.specs.Lines.{parts}
use Rattle.profile_text.specs.Grammar.{malformed_from}
use Rattle.profile_text.proofs.grammar.malformed_at.Given as goal

abbrev pub decreases-lines : goal.decreases-lines
decreases-lines l = length l.left

abbrev pub invariant-lines : goal.invariant-lines
invariant-lines l = (malformed_from l.number l.before (parts 10 l.left) ≡ malformed_from 1 None (parts 10 l.bytes)) × (l.number + length l.left ≤ 33554433)
