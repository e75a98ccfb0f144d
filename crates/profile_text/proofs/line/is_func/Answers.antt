use Rattle.std.proofs.Common.{sym, ap, ◌∙◌}
use Rattle.std.specs.Prelude.{◌&&◌}
use Rattle.profile_text.specs.Lines.{is_count}
use Rattle.profile_text.proofs.Names.{name_tested}
use Rattle.profile_text.proofs.Numbers.{count_tested}
use Rattle.profile_text.proofs.line.is_func.Goals as goal

pub returns-then-is_name : goal.returns-then-is_name
returns-then-is_name c =
    let e = name_tested c.args.name.now c.is_name.result c.is_name.ensures in
    sym (ap (λ b. b && is_count c.args.entries) (sym e ∙ c.if-is_name.true) ∙ sym (count_tested c.args.entries))

pub returns-else-is_name : goal.returns-else-is_name
returns-else-is_name c =
    let e = name_tested c.args.name.now c.is_name.result c.is_name.ensures in
    c.if-is_name.false ∙ sym (ap (λ b. b && is_count c.args.entries) (sym e ∙ c.if-is_name.false))
