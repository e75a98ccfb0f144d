use Rattle.std.proofs.Common.{◌≡◌, None, replicate}
use Rattle.sb_form.proofs.heads.no_chains.Given as goal

abbrev pub invariant-loop-block : goal.invariant-loop-block
invariant-loop-block l = l.list ≡ replicate l._block None
