use Rattle.std.proofs.Common.{◌+◌, ◌*◌, ℕ, length, min}
use Rattle.tac_live.specs.Preds.{ArePreds}
use Rattle.tac_live.specs.Rounds.{AreSound, WaitsOrClosed, AllReadBelow, total_room}
use Rattle.tac_live.proofs.rounds.live_rows.Given as goal

abbrev pub invariant-settling : goal.invariant-settling
invariant-settling l =
    AreSound l.func (length l.live) l.rows.items
    × ((k : ℕ) → WaitsOrClosed l.func l.rows.items l.waiting k)
    × AllReadBelow (64 * length l.live) l.func.blocks
    × ArePreds l.func.blocks (length l.func.blocks) l.preds.items

abbrev pub decreases-settling : goal.decreases-settling
decreases-settling l = 2 * total_room l.rows.items + min 1 (length l.waiting)
