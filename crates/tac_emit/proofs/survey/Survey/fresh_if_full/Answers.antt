use Rattle.tac_emit.proofs.Surveying.{surveys_room}
use Rattle.tac_emit.proofs.survey.Survey.fresh_if_full.Goals as goal

pub returns-else-self-gt-MOST : goal.returns-else-self-gt-MOST
returns-else-self-gt-MOST c = surveys_room c.args.self.now c.if-self-gt-MOST.false
