use Rattle.std.proofs.Common.{◌≡◌, None}
use Rattle.c_ast.specs.Nesting as N
use Rattle.c_parse.proofs.RunLemmas.{tree_is, says_why, answers}
use Rattle.c_parse.proofs.parser.parse.Goals as goal

pub returns-in-Ok-None-clause-ok : goal.returns-in-Ok-None-clause-ok
returns-in-Ok-None-clause-ok c = tree_is c.args.tokens.now c.run.result c.run.ensures

pub returns-in-Ok-None-clause-refuses : goal.returns-in-Ok-None-clause-refuses
returns-in-Ok-None-clause-refuses c =
    let e : c.in-Ok-None.field-0 ≡ N.too_deep c.args.tokens.now = c.in-Ok-None.ensures in
    let z = c.in-Ok-None.field-0-is in
    let shallow : N.too_deep c.args.tokens.now ≡ None = cc in
    says_why c.args.tokens.now c.run.result shallow c.run.ensures

pub returns-in-Ok-None-clause-only : goal.returns-in-Ok-None-clause-only
returns-in-Ok-None-clause-only c = λ unit p shallow. answers c.args.tokens.now c.run.result c.run.ensures unit p

pub returns-in-Ok-Some-clause-only : goal.returns-in-Ok-Some-clause-only
returns-in-Ok-Some-clause-only c = λ unit p shallow.
    let e : c.in-Ok-Some.field-0 ≡ N.too_deep c.args.tokens.now = c.in-Ok-Some.ensures in
    let z = c.in-Ok-Some.field-0-is in
    absurd cc
