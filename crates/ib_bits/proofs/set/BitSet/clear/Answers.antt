use Rattle.std.proofs.Common.{◌≡◌, length, replicate, rules, subst}
use Rattle.ib_bits.specs.Bits.{Has}
use Rattle.ib_bits.proofs.Words.{empty_new}
use Rattle.ib_bits.proofs.set.BitSet.clear.Goals as goal

pub returns-clause-empty : goal.returns-clause-empty
returns-clause-empty c =
    let e : c.fill.new.self.items ≡ replicate (length c.args.self.now) 0 = search rules in
    λ n h. empty_new _ n (subst (λ words. Has words n) e h)
