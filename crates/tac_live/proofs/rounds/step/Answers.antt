use Rattle.std.proofs.Common.{◌≡◌, ◌<◌, ◌∙◌, Some, length, sym, subst, rules}
use Rattle.std.specs.Prelude.{slice_get}
use Rattle.tac_live.specs.Rounds.{WaitsOrClosed}
use Rattle.tac_live.proofs.Closed.{sound_after, waits_after, is_there}
use Rattle.tac_live.proofs.rounds.step.Goals as goal

pub returns-in_ok-push_preds-in-Some-clause-sound : goal.returns-in_ok-push_preds-in-Some-clause-sound
returns-in_ok-push_preds-in-Some-clause-sound c =
    let s = c.settle.ensures.settles in
    let old = c.requires.sound in
    let is : slice_get c.args.func.now.blocks c.args.label ≡ Some c.in-Some.block.now = first_of (cc, search rules) in
    record {
      sound = sound_after c.in-Some.block.now c.args.rows.now c.settle.new.rows c.args.label c.settle.result s c.args.func.now is old.sound;
      even = s.even _ old.even;
      size = s.size ∙ old.size;
    }

pub returns-in_ok-push_preds-in-Some-clause-waits : goal.returns-in_ok-push_preds-in-Some-clause-waits
returns-in_ok-push_preds-in-Some-clause-waits c =
    let f = c.args.func.now in
    let label = c.args.label in
    let next = c.args.next.now in
    let is : slice_get f.blocks label ≡ Some c.in-Some.block.now = first_of (cc, search rules) in
    let there : label < length f.blocks = is_there f.blocks label c.in-Some.block.now is in
    λ l o.
    subst (λ after. WaitsOrClosed f c.settle.new.rows after l) (sym c.in_ok-push_preds-in-Some.ensures)
    (waits_after c.in-Some.block.now c.args.rows.now c.settle.new.rows label c.settle.result c.settle.ensures.settles f c.args.preds.now is there c.requires.preds next l o)
