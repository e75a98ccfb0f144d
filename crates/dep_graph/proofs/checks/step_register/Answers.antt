use Rattle.std.proofs.Common.{◌∙◌, ◌&&◌, not, sym, ap}
use Rattle.wide_core.specs.Classes.{traps}
use Rattle.wide_core.specs.Uses.{written}
use Rattle.dep_graph.specs.Carriers.{has}
use Rattle.dep_graph.proofs.Carried.{behind_checked, behind_passed, ok_map}
use Rattle.dep_graph.proofs.checks.step_register.Goals as goal

pub returns-then-check : goal.returns-then-check
returns-then-check c =
    ok_map c.checked.result
    (λ new h items b.
    behind_checked c.args.item.now items c.args.behind.chain c.args.behind.carriers new.chain new.carriers c.requires
    (ap (λ l. traps c.args.item.now.act && not (has (written c.args.item.now.act) l)) (sym c.as_slice.ensures) ∙ sym c.needs_check-check.ensures ∙ c.if-check.true)
    h.0 h.1 b)
    c.checked.ensures

pub returns : goal.returns
returns c =
    ok_map c.passed.result
    (λ new h items b.
    behind_passed c.args.item.now items c.args.behind.chain c.args.behind.carriers new.chain new.carriers c.requires
    (ap (λ l. traps c.args.item.now.act && not (has (written c.args.item.now.act) l)) (sym c.as_slice.ensures) ∙ sym c.needs_check-check.ensures ∙ c.if-check.false)
    h.0 h.1 b)
    c.passed.ensures
