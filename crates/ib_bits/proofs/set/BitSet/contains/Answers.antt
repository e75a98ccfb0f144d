use Rattle.std.proofs.Common.{◌≡◌, ◌<◌, ◌≤◌, ◌/◌, length, arith, ap}
use borrow.Author.Tests.{ltb-true}
use Rattle.ib_bits.specs.Bits.{Has}
use Rattle.ib_bits.proofs.Words.{has_tested, has_past, read}
use Rattle.ib_bits.proofs.set.BitSet.contains.Goals as goal

pub returns-then-at-len : goal.returns-then-at-len
returns-then-at-len c =
    let words = c.self.inside.words.items in
    let same : words ≡ c.args.self.now = cc in
    let within : c.args.number / 64 < length words = omega (arith, c.if-at-len.true, c.len.ensures) in
    has_tested c.args.self.now c.args.number c.index.result.now (read words c.args.self.now (c.args.number / 64) c.index.result.now same within c.index.ensures)

pub returns-else-at-len : goal.returns-else-at-len
returns-else-at-len c =
    let same : c.self.inside.words.items ≡ c.args.self.now = cc in
    let past : length c.args.self.now ≤ c.args.number / 64 = omega (arith, c.if-at-len.false, c.len.ensures, ap length same) in
    (λ t. absurd (let within : c.args.number / 64 < c.len.result = ltb-true _ _ t in omega (arith, within, c.if-at-len.false)), λ h. absurd (has_past c.args.self.now c.args.number past h))
