use Rattle.ib_bits.proofs.Words.{Joins}
use Rattle.ib_bits.proofs.set.BitSet.join.Given as goal

abbrev pub invariant-loop-i : goal.invariant-loop-i
invariant-loop-i l = Joins l.fn.self l.fn.other l.self-inside.words.items l.grown l.i
