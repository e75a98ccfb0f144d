use Rattle.std.proofs.Common.{rules, sym, ap, ◌∙◌, ◌∷◌}
use Rattle.profile_text.specs.Matching.{lines_in}
use Rattle.profile_text.proofs.Parts.{lines_more}
use Rattle.profile_text.proofs.line.next_line.Goals as goal

pub returns : goal.returns
returns c = (lines_more c.args.bytes.now c.in_ok-line.line.now c.in_ok-line.rest.now (search rules) ∙ ap (λ x. x ∷ lines_in c.in_ok-line.rest.now) (sym c.read_line.ensures), search rules)
