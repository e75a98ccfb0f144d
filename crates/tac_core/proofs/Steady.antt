-- The meaning of a program says more with more steps.
use Rattle.ib_meaning.specs.Agreement.{IsSteady}
use Rattle.ib_meaning.proofs.Machine.{means_steady}
use Rattle.tac_core.specs.Program.{Program, main_of}
use Rattle.tac_core.specs.Meaning.{tac_meaning, tac_step, start_at}

pub tac_steady : (p : Program) → IsSteady (tac_meaning p)
unfolding tac_meaning
tac_steady p = means_steady (tac_step p.funcs p.places) (start_at p.funcs (main_of p) p.image)
