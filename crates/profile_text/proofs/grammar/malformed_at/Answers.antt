use Rattle.std.proofs.Common.{rules, arith, ap, ◌∙◌, ◌+◌, Some}
use Rattle.profile_text.specs.Lines.{parts}
use Rattle.profile_text.specs.Grammar as spec
use Rattle.profile_text.proofs.Parts.{malformed_more, malformed_here, malformed_last, malformed_end}
use Rattle.profile_text.proofs.grammar.malformed_at.Goals as goal

pub returns-then-not-may_follow : goal.returns-then-not-may_follow
unfolding spec.malformed_at
returns-then-not-may_follow c = malformed_here c.lines.number c.lines.before c.lines.left.now c.in-Some.line.now c.in-Some.rest.now (search rules) (search rules) ∙ c.lines.invariant.0

pub lines-preserved : goal.lines-preserved
lines-preserved c = (
  ap (λ l. spec.malformed_from (c.lines.number + 1) (Some l) (parts 10 c.in-Some.rest.now)) c.read_line-line.ensures
      ∙ malformed_more c.lines.number c.lines.before c.lines.left.now c.in-Some.line.now c.in-Some.rest.now (search rules) (search rules) ∙ c.lines.invariant.0,
  omega (arith, c.in-Some.ensures),
)

pub returns-then-is_whole : goal.returns-then-is_whole
unfolding spec.malformed_at
returns-then-is_whole c = malformed_last c.lines.number c.lines.before c.lines.left.now (search rules) (search rules) ∙ c.lines.invariant.0

pub returns-else-is_whole : goal.returns-else-is_whole
unfolding spec.malformed_at
returns-else-is_whole c = malformed_end c.lines.number c.lines.before c.lines.left.now (search rules) (search rules) ∙ c.lines.invariant.0
