use Rattle.profile_text.proofs.Parts.{cut_begins}
use Rattle.profile_text.proofs.cut.cut.Goals as goal

pub loop-at-init : goal.loop-at-init
loop-at-init c = cut_begins c.args.separator c.args.bytes.now
