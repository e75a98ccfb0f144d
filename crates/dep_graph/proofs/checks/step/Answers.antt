use Rattle.std.proofs.Common.{◌∙◌, sym}
use Rattle.dep_graph.proofs.Carried.{behind_member, ok_map}
use Rattle.dep_graph.proofs.checks.step.Goals as goal

pub returns : goal.returns
returns c =
    ok_map c.member.result
    (λ new h items b. behind_member c.args.item.now items c.args.behind.chain c.args.behind.carriers new.chain new.carriers (sym c.is_register-register.ensures ∙ c.if-register.false) h.0 h.1 b)
    c.member.ensures
