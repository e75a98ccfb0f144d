use Rattle.std.proofs.Common.{◌≡◌, ◌<◌, ◌-◌, ◌∙◌, Some, length, refl, sym, ap, subst, arith}
use Rattle.std.specs.Prelude.{slice_get}
use Rattle.std.proofs.lemmas.Option.{slice_get_read}
use Rattle.sb_form.specs.Heads.{IsLabel, marked}
use Rattle.sb_form.proofs.ByLabel.{no_heads, heads_more}
use Rattle.sb_form.proofs.heads.heads_of.Goals as goal

pub loop-left-init : goal.loop-left-init
loop-left-init c = record {
  heads = no_heads c.args.blocks (length c.args.chains.now) c.args.chains.now c.in_ok-heads.heads c.in_ok-heads.ensures (omega arith);
  within = omega arith;
}

pub mark-requires : goal.mark-requires
mark-requires c =
    let positive = c.loop-left-test.true in
    let bound = c.loop-left.invariant.within in
    let lt : c.loop-left.left - 1 < length c.args.chains.now = omega arith in
    let at : slice_get c.args.chains.now (c.loop-left.left - 1) ≡ Some c.index-chains-left.result =
    slice_get_read c.args.chains.now _ (c.loop-left.left - 1) c.index-chains-left.result refl lt c.index-chains-left.is in
    subst (λ l. IsLabel (length c.loop-left.heads) l) (sym c.list.ensures)
    (subst (λ k. IsLabel k c.index-chains-left.result) (sym c.loop-left.invariant.heads.many) (c.requires (c.loop-left.left - 1) c.index-chains-left.result at))

pub loop-left-preserved : goal.loop-left-preserved
loop-left-preserved c =
    let positive = c.loop-left-test.true in
    let bound = c.loop-left.invariant.within in
    let lt : c.loop-left.left - 1 < length c.args.chains.now = omega arith in
    let at : slice_get c.args.chains.now (c.loop-left.left - 1) ≡ Some c.index-chains-left.result =
    slice_get_read c.args.chains.now _ (c.loop-left.left - 1) c.index-chains-left.result refl lt c.index-chains-left.is in
    record {
      heads = heads_more c.args.blocks c.args.chains.now (c.loop-left.left - 1) c.loop-left.left c.loop-left.heads c.mark.new.heads c.index-chains-left.result (omega arith) at (c.requires (c.loop-left.left - 1) c.index-chains-left.result at) c.loop-left.invariant.heads
          (c.mark.ensures ∙ ap (λ l. marked c.loop-left.heads l (c.loop-left.left - 1)) c.list.ensures);
      within = omega arith;
    }
