use Rattle.std.proofs.Common.{[], sym, ap, ◌∙◌}
use Rattle.std.specs.Option.{unwrap_or}
use Rattle.tac_core.specs.Traces.{Labels}
use Rattle.sb_form.specs.Heads.{chain_by}
use Rattle.sb_form.proofs.ByLabel.{index_or}
use Rattle.sb_form.proofs.heads.chain_at.Goals as goal

abbrev empty : Labels
empty = []

pub returns-in-None-at : goal.returns-in-None-at
returns-in-None-at c =
    ap (λ o. unwrap_or o empty) c.in-None-at.ensures ∙ index_or c.args.chains.now c.in-Some.at empty ∙ sym (ap (chain_by c.args.chains.now) c.in-Some.is)

pub returns-in-Some-at : goal.returns-in-Some-at
returns-in-Some-at c =
    c.list.ensures ∙ ap (λ o. unwrap_or o empty) c.in-Some-at.ensures ∙ index_or c.args.chains.now c.in-Some.at empty ∙ sym (ap (chain_by c.args.chains.now) c.in-Some.is)
