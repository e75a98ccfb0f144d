use Rattle.std.proofs.Common.{◌+◌, sym, ◌∙◌, ap}
use Rattle.std.proofs.lemmas.List.{at_drop_more}
use Rattle.c_ast.specs.Nesting as N
use Rattle.c_ast.specs.declared.token.Token.{Token}
use Rattle.c_nesting.proofs.nesting.next_at.Goals as goal

pub returns-in-Some : goal.returns-in-Some
returns-in-Some c =
    let h = c.in-Some.ensures.lookup in
    c.next_kind.ensures ∙ ap (λ (t : Token). N.next_kind t.kind) h.1 ∙ sym (at_drop_more N.next_of c.args.tokens.now (c.args.at + 1) c.in-Some.token.now h.3.0)
