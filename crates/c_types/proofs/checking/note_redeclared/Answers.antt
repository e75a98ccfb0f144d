use Rattle.c_types.proofs.CheckLemmas.{noted_in}
use Rattle.c_types.proofs.checking.note_redeclared.Goals as goal

pub returns : goal.returns
returns c = rw (← c.walk.view_is) (noted_in _ _ _ _ c.in_ok-redeclared.ensures)
