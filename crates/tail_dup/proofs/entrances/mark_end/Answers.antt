use Rattle.std.proofs.Common.{◌≡◌, ◌<◌, inl, inr, length, refl, sym, ap, ◌∙◌, subst, arith}
use Rattle.tac_core.specs.Counts.{IsTargetOf}
use Rattle.tail_dup.proofs.Filled.{marked_long}
use Rattle.tail_dup.proofs.entrances.mark_end.Goals as goal

pub mark-requires : goal.mark-requires
mark-requires c = c.requires c.in-Jump.next (subst (λ e. IsTargetOf e c.in-Jump.next) (sym c.in-Jump.is) refl)

pub mark-requires-in-Branch : goal.mark-requires-in-Branch
mark-requires-in-Branch c = c.requires c.in-Branch.yes (subst (λ e. IsTargetOf e c.in-Branch.yes) (sym c.in-Branch.is) (inl refl))

pub mark-requires-in-Branch-2 : goal.mark-requires-in-Branch-2
mark-requires-in-Branch-2 c =
    let long : length c.mark-in-Branch.new.entered ≡ length c.args.entered.now =
    ap length c.mark-in-Branch.ensures ∙ marked_long c.args.before.now c.args.from c.args.entered.now c.in-Branch.yes in
    let inside : c.in-Branch.no < length c.args.entered.now = c.requires c.in-Branch.no (subst (λ e. IsTargetOf e c.in-Branch.no) (sym c.in-Branch.is) (inr refl)) in
    omega arith

pub mark-requires-in-Call : goal.mark-requires-in-Call
mark-requires-in-Call c = c.requires c.in-Call.next (subst (λ e. IsTargetOf e c.in-Call.next) (sym c.in-Call.is) refl)
