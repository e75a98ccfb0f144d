use Rattle.std.proofs.Common.{◌≢◌, refl}
use Rattle.tac_core.proofs.Pairs.{pairs_earlier, pairs_more}
use Rattle.tac_core.proofs.names.pairs_differ.Goals as goal

pub returns-then-not-is_new : goal.returns-then-not-is_new
returns-then-not-is_new c =
    (λ e. cc, λ differ. c.if-not-is_new.ensures.1 (pairs_earlier (λ f g. f.name ≢ g.name) c.args.funcs.now c.loop-i.i c.index-funcs-i.result c.loop-i-test.true c.index-funcs-i.is differ))

pub loop-i-preserved : goal.loop-i-preserved
loop-i-preserved c =
    pairs_more (λ f g. f.name ≢ g.name) c.args.funcs.now c.loop-i.i c.index-funcs-i.result c.loop-i-test.true c.index-funcs-i.is c.loop-i.invariant (c.if-not-is_new.ensures.0 refl)
