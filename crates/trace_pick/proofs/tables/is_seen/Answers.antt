use Rattle.trace_pick.proofs.WalkedBack.{seen_none, seen_some}
use Rattle.trace_pick.proofs.tables.is_seen.Goals as goal

pub returns-in-None : goal.returns-in-None
returns-in-None c = seen_none c.args.seen.now c.args.label c.in-None.ensures

pub returns-in-Some : goal.returns-in-Some
returns-in-Some c = seen_some c.args.seen.now c.args.label c.in-Some.seen.now c.in-Some.ensures
