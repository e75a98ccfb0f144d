use Rattle.std.proofs.Common.{◌≡◌, ◌<◌, List, ℕ, Some, length, refl, sym, ap, ◌∙◌, subst, arith}
use Rattle.std.specs.Prelude.{slice_get}
use Rattle.std.proofs.lemmas.Option.{slice_get_read}
use Rattle.tail_dup.specs.Tables.{AreWithin}
use Rattle.tail_dup.proofs.Filled.{chain_apart, chain_within, chains_joined, joined_before}
use Rattle.tail_dup.proofs.before.blocks_before.Goals as goal

pub join-requires-clause-apart : goal.join-requires-clause-apart
join-requires-clause-apart c =
    let at : slice_get c.args.chains.now c.loop-chain.chain-index ≡ Some c.list.result.now =
    slice_get_read c.args.chains.now _ c.loop-chain.chain-index c.chain-item.result refl c.loop-chain-test.true c.chain-item.is ∙ ap Some (sym c.list.ensures) in
    chain_apart c.args.blocks c.args.chains.now c.requires c.loop-chain.chain-index c.list.result.now at

pub join-requires-clause-within : goal.join-requires-clause-within
join-requires-clause-within c =
    let at : slice_get c.args.chains.now c.loop-chain.chain-index ≡ Some c.list.result.now =
    slice_get_read c.args.chains.now _ c.loop-chain.chain-index c.chain-item.result refl c.loop-chain-test.true c.chain-item.is ∙ ap Some (sym c.list.ensures) in
    subst (λ z. AreWithin z c.list.result.now) (sym c.loop-chain.invariant.many)
    (chain_within c.args.blocks c.args.chains.now c.requires c.loop-chain.chain-index c.list.result.now at)

pub loop-chain-preserved : goal.loop-chain-preserved
loop-chain-preserved c =
    let at : slice_get c.args.chains.now c.loop-chain.chain-index ≡ Some c.list.result.now =
    slice_get_read c.args.chains.now _ c.loop-chain.chain-index c.chain-item.result refl c.loop-chain-test.true c.chain-item.is ∙ ap Some (sym c.list.ensures) in
    chains_joined c.args.blocks c.args.chains.now c.requires c.loop-chain.chain-index c.list.result.now c.loop-chain.before c.join.new.before at c.join.ensures c.loop-chain.invariant

pub returns : goal.returns
returns c = joined_before c.args.blocks c.args.chains.now c.requires c.loop-chain.chain-index c.loop-chain.before c.loop-chain-test.false c.loop-chain.invariant
