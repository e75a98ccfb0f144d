use Rattle.std.proofs.Common.{◌≡◌, ◌<◌, ◌≤◌, ℕ, ◌+◌, length, arith, ap, sym, ◌∙◌, subst, refl, bit_or, get_or, true, List, rules, w64}
use Rattle.std.proofs.Math.Facts.{Fits-or, Fits-lt-pow}
use Rattle.std.proofs.Math.ListN.{set}
use Rattle.ib_bits.proofs.Words.{Joins, joins_none, joins_grow, joins_keep, has_joined, read}
use Rattle.ib_bits.proofs.set.BitSet.join.Goals as goal
use Rattle.ib_bits.proofs.set.BitSet.join.Goals.{then-joined-word, else-joined-word}

pub loop-i-init : goal.loop-i-init
loop-i-init c =
    let same : c.args.self.now ≡ c.self.inside.words.items = cc in
    subst (λ now. Joins c.args.self.now c.args.other.now now _ 0) same (joins_none c.args.self.now c.args.other.now)

pub loop-i-preserved : goal.loop-i-preserved
loop-i-preserved c =
    let old = c.args.self.now in
    let other = c.args.other.now in
    let now = c.loop-i.self-inside.words.items in
    let i = c.loop-i.i in
    let a = c.index-word.result.now in
    let b = c.index.result.now in
    let j = c.loop-i.invariant in
    let own : c.self.inside.words.items ≡ old = cc in
    let within : i < length now = omega (arith, c.loop-i-test.true, c.len-i-end.ensures, j.size, ap length own) in
    let same : c.other.inside.words.items ≡ other = cc in
    let p : a ≡ get_or now i 0 = read now now i a refl within c.index-word.ensures in
    let q : b ≡ get_or other i 0 = read c.other.inside.words.items other i b same (omega (arith, within, j.size, c.requires, ap length same)) c.index.ensures in
    elim c.if-joined-word.branch [
      | then-joined-word w ↦
          let fits : bit_or a b < 18446744073709551616 = Fits-lt-pow (Fits-or {w = w64} {a = a} {b = b} (search rules) (search rules)) in
          rw (w.self-inside-is, w.grown-is) (joins_grow old other now c.loop-i.grown i a b j within p q w.if-joined-word.true fits)
      | else-joined-word w ↦ rw (w.self-inside-is, w.grown-is) (joins_keep old other now c.loop-i.grown i a b j p q w.if-joined-word.false)
    ]

pub returns-clause-holds : goal.returns-clause-holds
returns-clause-holds c =
    let j = c.loop-i.invariant in
    let own : c.self.inside.words.items ≡ c.args.self.now = cc in
    has_joined c.args.self.now c.args.other.now c.loop-i.self-inside.words.items c.requires j.size (λ k lt. j.done k (omega (arith, c.loop-i-test.false, c.len-i-end.ensures, lt, ap length own)))
