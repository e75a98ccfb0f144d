use Rattle.std.proofs.Common.{refl, not}
use Rattle.c_typed.specs.Tree as t
use Rattle.c_typed.specs.declared.rule.Rule.TheVariants.{OutsideALoop}
use Rattle.c_types_operators.specs.Rules.{Fine}
use Rattle.c_types_operators.specs.Parts.{broken_if, also}
use Rattle.c_types_statements.specs.Statements.{numbered}
use Rattle.c_types_statements.proofs.Behind.{past_continue}
use Rattle.c_types_statements.proofs.Typed.{makes, after, also_typed, kept_where, typed_as}
use Rattle.c_types_statements.proofs.walk.Walk.continue_loop.Goals as goal

pub returns : goal.returns
returns c =
    let n = c.in_ok-number.number in
    let found = broken_if (not c.args.in_loop) OutsideALoop c.args.place in
    typed_as (past_continue c.args.place c.args.self.now.at) refl
    (rw (← c.in_ok-number.ensures.number)
    (after (numbered c.args.place) (λ Γ at. Γ) (λ Γ at. at) (λ Γ at. also found (Fine (t.continue n))) c.in_ok-number.ensures.noted
    (also_typed (λ Γ at. Γ) (λ Γ at. at) (λ Γ at. Fine (t.continue n)) c.keeps-fine.ensures (makes (t.continue n)) (kept_where _ _ _ c.kept_if.ensures))))
