use Rattle.std.proofs.Common.{◌≢◌, refl, subst, get_or}
use Rattle.std.proofs.lemmas.List.{take_all, get_or_default}
use Rattle.tac_core.specs.Rules.{AreDistinct}
use Rattle.tac_core.proofs.Pairs.{pairs_earlier, pairs_more}
use Rattle.tac_core.proofs.shape.are_distinct.Goals as goal

pub returns-then-not-is_new_register : goal.returns-then-not-is_new_register
returns-then-not-is_new_register c =
    let lt = c.loop-i-test.true in
    let at = get_or c.args.params.now c.loop-i.i 0 in
    (λ e. cc, λ differ. c.if-not-is_new_register.ensures.1 (pairs_earlier (λ a b. a ≢ b) c.args.params.now c.loop-i.i at lt (get_or_default c.args.params.now c.loop-i.i 0 at lt) differ))

pub loop-i-preserved : goal.loop-i-preserved
loop-i-preserved c =
    let lt = c.loop-i-test.true in
    let at = get_or c.args.params.now c.loop-i.i 0 in
    pairs_more (λ a b. a ≢ b) c.args.params.now c.loop-i.i at lt (get_or_default c.args.params.now c.loop-i.i 0 at lt) c.loop-i.invariant (c.if-not-is_new_register.ensures.0 refl)

pub returns : goal.returns
returns c =
    (λ e. subst AreDistinct (take_all c.loop-i.i c.args.params.now c.loop-i-test.false) c.loop-i.invariant, λ differ. refl)
