use Rattle.std.proofs.Common.{drop}
use Rattle.sb_form.specs.Growing.{Lacks}
use Rattle.sb_formed.specs.Formed.{chain_drafts}
use Rattle.sb_form.proofs.chains.push_chain.Given as goal

abbrev pub invariant-loop-i : goal.invariant-loop-i
invariant-loop-i l =
    Lacks (chain_drafts l.places l.func (drop l.i l.chain)) (chain_drafts l.places l.func l.chain) l.fn.into.next l.fn.into.items l.into.next l.into.items
