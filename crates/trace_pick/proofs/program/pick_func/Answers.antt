use Rattle.std.proofs.Common.{ℕ, List, Option, length}
use Rattle.tac_core.specs.declared.code.Block.{Block}
use Rattle.trace_pick.specs.Tables.{behind, begins, AreWalks, Rise}
use Rattle.trace_pick.proofs.Picked.{edges_within, is_known, best_tables, tables_rise, walks_picked, of_same, of_same_back}
use Rattle.trace_pick.proofs.program.pick_func.Goals as goal

pub links_of-requires-clause-within : goal.links_of-requires-clause-within
links_of-requires-clause-within c = edges_within c.args.func.now c.args.counts.now.edges c.requires.fit c.requires.there

pub sums_of-requires-clause-known : goal.sums_of-requires-clause-known
sums_of-requires-clause-known c = is_known c.args.func.now c.args.counts.now c.requires.fit c.requires.there

pub sums_of-requires-clause-priors : goal.sums_of-requires-clause-priors
sums_of-requires-clause-priors c = (best_tables c.args.func.now c.args.counts.now c.in_ok-links.links.prior c.in_ok-links.links.next c.in_ok-links.ensures).0

pub sums_of-requires-clause-nexts : goal.sums_of-requires-clause-nexts
sums_of-requires-clause-nexts c = (best_tables c.args.func.now c.args.counts.now c.in_ok-links.links.prior c.in_ok-links.links.next c.in_ok-links.ensures).1

pub traces_of-requires-clause-rise : goal.traces_of-requires-clause-rise
traces_of-requires-clause-rise c =
    of_same (λ (b : List Block) (p n : List (Option ℕ)) (s : List ℕ). Rise (behind b p n s) s)
    c.args.func.now.blocks c.as_slice.result.now c.in_ok-sums.sums.prior c.as_slice-2.result.now c.in_ok-links.links.next c.as_slice-3.result.now c.in_ok-sums.sums.sums c.as_slice-4.result.now
    c.as_slice.ensures c.as_slice-2.ensures c.as_slice-3.ensures c.as_slice-4.ensures
    (tables_rise c.args.func.now c.args.counts.now c.in_ok-sums.sums.prior c.in_ok-links.links.prior c.in_ok-links.links.next c.in_ok-sums.sums.sums
    (is_known c.args.func.now c.args.counts.now c.requires.fit c.requires.there) c.in_ok-links.ensures c.in_ok-sums.ensures)

pub returns : goal.returns
returns c =
    walks_picked c.args.func.now c.args.counts.now c.in_ok-sums.sums.prior c.in_ok-links.links.prior c.in_ok-links.links.next c.in_ok-sums.sums.sums c.in_ok-chains.chains
    (is_known c.args.func.now c.args.counts.now c.requires.fit c.requires.there) c.in_ok-links.ensures c.in_ok-sums.ensures
    (of_same_back (λ (b : List Block) (p n : List (Option ℕ)) (s : List ℕ). AreWalks (behind b p n s) (begins b p s) (length b) c.in_ok-chains.chains)
    c.args.func.now.blocks c.as_slice.result.now c.in_ok-sums.sums.prior c.as_slice-2.result.now c.in_ok-links.links.next c.as_slice-3.result.now c.in_ok-sums.sums.sums c.as_slice-4.result.now
    c.as_slice.ensures c.as_slice-2.ensures c.as_slice-3.ensures c.as_slice-4.ensures c.in_ok-chains.ensures)
