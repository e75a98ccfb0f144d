use Rattle.c_types_functions.proofs.TypeLemmas.{unlike_lengths}
use Rattle.c_types_functions.proofs.judging.same_types.Goals as goal

pub returns-then-a-b : goal.returns-then-a-b
returns-then-a-b c = unlike_lengths _ _ c.if-a-b.true
