use Rattle.c_types.proofs.HeadLemmas.{finds_noted}
use Rattle.c_types.proofs.heads.judge_alone.Goals as goal

pub returns : goal.returns
returns c = rw (← c.walk.view_is) (finds_noted _ _ c.in_ok-fine.ensures)
