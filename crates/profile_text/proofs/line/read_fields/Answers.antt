use Rattle.std.proofs.Common.{rules}
use Rattle.profile_text.proofs.Parts.{many_fields}
use Rattle.profile_text.proofs.line.read_fields.Goals as goal

pub returns-in-Some-cut-3 : goal.returns-in-Some-cut-3
returns-in-Some-cut-3 c =
    many_fields c.args.line.now c.in-Some.word.now c.in-Some.rest.now c.in-Some-cut.first.now c.in-Some-cut.rest.now c.in-Some-cut-2.second.now c.in-Some-cut-2.rest.now c.in-Some-cut-3.field-0.0.now c.in-Some-cut-3.field-0.1.now (search rules) (search rules) (search rules) (search rules)
