use Rattle.std.proofs.Common.{◌≡◌, ◌<◌, ◌/◌, ◌↔◌, ◌⊎◌, ℕ, length, arith, bit_or, subst, ap, refl}
use Rattle.std.proofs.Math.ListN.{set}
use Rattle.ib_bits.specs.Bits.{Has}
use Rattle.ib_bits.proofs.Words.{has_inserted, read, mask}
use Rattle.ib_bits.proofs.set.BitSet.insert.Goals as goal

pub returns-clause-holds : goal.returns-clause-holds
returns-clause-holds c =
    let words = c.self.inside.words.items in
    let n = c.args.number in
    let w = c.index_mut.result.now in
    let same : words ≡ c.args.self.now = cc in
    let within : n / 64 < length words = omega (arith, ap length same, c.requires) in
    subst (λ now. (k : ℕ) → Has (set words (n / 64) (bit_or w (mask n))) k ↔ ((k ≡ n) ⊎ Has now k)) same
    (has_inserted words n w within (read words words (n / 64) w refl within c.index_mut.ensures.value))
