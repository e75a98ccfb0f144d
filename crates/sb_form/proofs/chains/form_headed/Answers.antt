use Rattle.std.proofs.Common.{◌++◌, ◌∷◌, [], ◌∙◌, ap, subst}
use Rattle.sb_core.specs.Program.{SuperblockCode}
use Rattle.sb_formed.specs.Formed.{chain_drafts}
use Rattle.sb_form.specs.Growing.{Grown}
use Rattle.sb_form.proofs.Whole.{straight_of, formed_one}
use Rattle.sb_form.proofs.chains.form_headed.Goals as goal

pub keep-requires : goal.keep-requires
keep-requires c =
    straight_of c.args.places.now c.args.func.now c.args.chain.now c.args.head c.args.forming.now.next c.push_chain.new.into.next c.push_chain.new.into.items c.requires.headed c.requires.straight c.requires.positive
    (subst (λ xs. Grown (chain_drafts c.args.places.now c.args.func.now c.args.chain.now) c.args.forming.now.next xs c.push_chain.new.into.next c.push_chain.new.into.items) c.new.ensures c.in_ok-push_chain.ensures)

pub returns : goal.returns
returns c =
    formed_one c.args.places.now c.args.number c.args.func.now c.args.chain.now c.args.head c.args.forming.now.next c.push_chain.new.into.next c.push_chain.new.into.items c.args.forming.now.all c.push.new.self c.requires.headed
    (subst (λ xs. Grown (chain_drafts c.args.places.now c.args.func.now c.args.chain.now) c.args.forming.now.next xs c.push_chain.new.into.next c.push_chain.new.into.items) c.new.ensures c.in_ok-push_chain.ensures)
    (c.in_ok-push.ensures.ok ∙ ap (λ (b : SuperblockCode). c.args.forming.now.all ++ b ∷ []) c.keep.ensures)
