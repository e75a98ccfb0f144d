-- The superblocks of a copied program's chains mean what the program means, within twice its steps.
use Rattle.std.proofs.Common.{◌*◌}
use Rattle.ib_meaning.specs.Agreement.{Agrees, Within}
use Rattle.ib_meaning.proofs.Simulation.{AtSome, simulates, simulates_within, together_by_rank}
use Rattle.tac_core.specs.Meaning.{tac_meaning, tac_step, start_at}
use Rattle.tac_core.specs.Program.{main_of}
use Rattle.tac_core.specs.Rules.{IsValid}
use Rattle.tac_core.specs.Traces.{AreFormed, FormedProgram}
use Rattle.sb_core.specs.Meaning.{superblock_meaning, item_step, start}
use Rattle.sb_formed.specs.Formed.{formed}
use Rattle.sb_formed.proofs.Steps.{code, IsFew, Related, replies, starts}

pub formed_agrees : (p : FormedProgram) → IsValid p.copied.tac → AreFormed p.copied.tac.funcs p.traces → Agrees (tac_meaning p.copied.tac) (superblock_meaning (formed p))
unfolding formed tac_meaning superblock_meaning
formed_agrees p valid are =
    simulates (tac_step p.copied.tac.funcs p.copied.tac.places) (item_step (code p valid are)) (IsFew p valid are) (AtSome (Related p valid are))
    (together_by_rank (tac_step p.copied.tac.funcs p.copied.tac.places) (item_step (code p valid are)) (IsFew p valid are) (Related p valid are) (replies p valid are))
    (start_at p.copied.tac.funcs (main_of p.copied.tac) p.copied.tac.image) (start (code p valid are)) (starts p valid are)

-- a branch at the end of a chain is two items, a jump along a chain none
pub formed_within : (p : FormedProgram) → IsValid p.copied.tac → AreFormed p.copied.tac.funcs p.traces → Within (λ n. 2 * n) (tac_meaning p.copied.tac) (superblock_meaning (formed p))
unfolding formed tac_meaning superblock_meaning
formed_within p valid are =
    simulates_within (tac_step p.copied.tac.funcs p.copied.tac.places) (item_step (code p valid are)) (IsFew p valid are) (AtSome (Related p valid are))
    (together_by_rank (tac_step p.copied.tac.funcs p.copied.tac.places) (item_step (code p valid are)) (IsFew p valid are) (Related p valid are) (replies p valid are))
    2 (λ x few. few)
    (start_at p.copied.tac.funcs (main_of p.copied.tac) p.copied.tac.image) (start (code p valid are)) (starts p valid are)
