use Rattle.wide_sim.proofs.Sound.{ops_are}
use Rattle.wide_sim.proofs.at_hand.ops_at_hand.Goals as goal

pub returns-clause-ops : goal.returns-clause-ops
returns-clause-ops c =
    ops_are c.args.code.now c.args.call.now c.as_slice.result.now c.index-as_slice-call.result c.as_slice-words.result.now c.index-words-call.result c.as_slice-2.result.now
    c.as_slice.ensures c.as_slice-words.ensures c.as_slice-2.ensures c.requires.0 c.requires.1
