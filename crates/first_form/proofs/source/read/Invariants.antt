use Rattle.std.proofs.Common.{drop}
use Rattle.first_form.proofs.ReadLemmas.{Follows}
use Rattle.first_form.proofs.source.read.Given as goal

abbrev pub invariant-loop-token : goal.invariant-loop-token
invariant-loop-token l = Follows l.source l.tokens (drop l.token-index l.tokens) l.reader
