use Rattle.std.proofs.Common.{◌≡◌, ◌≢◌, ◌<◌, ◌≤◌, ◌/◌, ◌↔◌, ℕ, length, arith, bit_and, subst, ap, refl}
use Rattle.std.specs.Int.{w64, bit_not}
use Rattle.std.proofs.Math.ListN.{set}
use Rattle.ib_bits.specs.Bits.{Has}
use Rattle.ib_bits.proofs.Words.{has_removed, has_not_past, read, mask}
use Rattle.ib_bits.proofs.set.BitSet.remove.Goals as goal

pub returns-then-at-len-clause-holds : goal.returns-then-at-len-clause-holds
returns-then-at-len-clause-holds c =
    let words = c.self.inside.words.items in
    let n = c.args.number in
    let w = c.index_mut.result.now in
    let same : words ≡ c.args.self.now = cc in
    let within : n / 64 < length words = omega (arith, c.if-at-len.true, c.len.ensures) in
    subst (λ now. (k : ℕ) → Has (set words (n / 64) (bit_and w (bit_not w64 (mask n)))) k ↔ ((k ≢ n) × Has now k)) same
    (has_removed words n w within (read words words (n / 64) w refl within c.index_mut.ensures.value))

pub returns-else-at-len-clause-holds : goal.returns-else-at-len-clause-holds
returns-else-at-len-clause-holds c =
    let same : c.self.inside.words.items ≡ c.args.self.now = cc in
    let past : length c.args.self.now ≤ c.args.number / 64 = omega (arith, c.if-at-len.false, c.len.ensures, ap length same) in
    has_not_past c.args.self.now c.args.number past
