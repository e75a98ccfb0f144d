use Rattle.std.proofs.Common.{◌≡◌, ◌<◌, ℕ, false, ◌||◌, length, drop}
use Rattle.std.specs.Prelude.{slice_index_or}
use Rattle.c_types_homes.specs.Homes.{holds}
use Rattle.c_types_homes.proofs.marks.marks.Given as goal

abbrev pub invariant-loop-number : goal.invariant-loop-number
invariant-loop-number l = record {
  len : length l.marks.items ≡ l.count;
  held : (k : ℕ) → k < l.count → (slice_index_or l.marks.items k false || holds (drop l.number-index l.numbers) k) ≡ holds l.numbers k;
}
