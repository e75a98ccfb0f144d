use Rattle.std.proofs.Common.{◌≡◌, ◌<◌, ◌⊎◌, ℕ, [], length, drop}
use Rattle.std.specs.List.{Contains}
use Rattle.tac_live.specs.Rounds.{AreSound, WaitsOrClosed, total_room}
use Rattle.tac_live.proofs.rounds.round.Given as goal

abbrev pub invariant-loop-label : goal.invariant-loop-label
invariant-loop-label l =
    AreSound l.func (length l.fn.live) l.rows
    × ((k : ℕ) → Contains (drop l.label-index l.waiting) k ⊎ WaitsOrClosed l.func l.rows l.next k)
    × (((l.next ≡ []) × (total_room l.rows ≡ total_room l.fn.rows)) ⊎ (total_room l.rows < total_room l.fn.rows))
    × (length l.live ≡ length l.fn.live)
