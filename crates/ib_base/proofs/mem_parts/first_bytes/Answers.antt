use Rattle.ib_base.proofs.Parts.{is_part}
use Rattle.ib_base.proofs.mem_parts.first_bytes.Goals as goal

pub returns-then-limit-content : goal.returns-then-limit-content
returns-then-limit-content c = is_part c.args.content.now c.args.limit c.if-limit-content.true
