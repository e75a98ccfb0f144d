use Rattle.std.proofs.Common.{◌≡◌, ◌∙◌, ◌+◌, ◌++◌, [], ◌∷◌, sym, ap, subst}
use Rattle.trace_pick.specs.Tables.{behind, begins, IsWalk, AreWalks}
use Rattle.trace_pick.proofs.Grown.{walks_more, walks_skip}
use Rattle.trace_pick.proofs.walks.traces_of.Goals as goal
use Rattle.trace_pick.proofs.walks.traces_of.Goals.{then-begins+in_ok-trace_from+in_ok-push, else-begins}

pub loop-i-preserved : goal.loop-i-preserved
loop-i-preserved c =
    let step = behind c.args.blocks.now c.args.prior.now c.args.next.now c.args.sums.now in
    let starts = begins c.args.blocks.now c.args.prior.now c.args.sums.now in
    let number : c.in_ok-label.label ≡ c.loop-i.i = c.in_ok-label.ensures.number in
    elim c.if-begins.branch [
      | then-begins+in_ok-trace_from+in_ok-push w ↦
          subst (AreWalks step starts (c.loop-i.i + 1)) (sym w.chains-is)
          (walks_more step starts c.loop-i.i w.in_ok-trace_from.field-0 c.loop-i.chains w.push.new.self
          (w.in_ok-push.ensures.ok ∙ ap (λ z. c.loop-i.chains ++ z ∷ []) w.keep.ensures)
          (sym (ap starts number) ∙ sym c.begins.ensures ∙ w.if-begins.true)
          (subst (λ z. IsWalk step z w.in_ok-trace_from.field-0) number w.in_ok-trace_from.ensures)
          c.loop-i.invariant)
      | else-begins w ↦
          subst (AreWalks step starts (c.loop-i.i + 1)) (sym w.chains-is)
          (walks_skip step starts c.loop-i.i c.loop-i.chains (sym (ap starts number) ∙ sym c.begins.ensures ∙ w.if-begins.false) c.loop-i.invariant)
    ]
