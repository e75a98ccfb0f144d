use Rattle.c_types.proofs.CheckLemmas.{finds_whole}
use Rattle.c_types.proofs.checking.judge_whole.Goals as goal

pub returns : goal.returns
returns c = finds_whole _ c.requires.before c.keeps.ensures c.in_ok-note_redeclared.ensures c.is_fine-fine.ensures
