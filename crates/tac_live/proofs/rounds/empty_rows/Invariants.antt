use Rattle.std.proofs.Common.{◌≡◌, length}
use Rattle.std.specs.List.{All}
use Rattle.ib_bits.specs.Bits.{IsEmpty}
use Rattle.tac_live.proofs.rounds.empty_rows.Given as goal

abbrev pub invariant-loop-label : goal.invariant-loop-label
invariant-loop-label l = (length l.rows.items ≡ l._label) × All (λ row. (length row ≡ l.words) × IsEmpty row) l.rows.items
