use Rattle.std.proofs.Common.{map, string_bytes, sym}
use Rattle.impactc_words.proofs.Asked.{asks_for_no, asks_for_nothing}
use Rattle.impactc_words.proofs.words.read_words.Goals as goal

pub returns-in-Some-arguments-clause-usage : goal.returns-in-Some-arguments-clause-usage
returns-in-Some-arguments-clause-usage c = λ e.
    asks_for_no (map string_bytes c.args.words.now) c.in-Some.name.now (map string_bytes c.in-Some.rest.now) c.in-Some-arguments.given
    c.in-Some.ensures (sym c.in-Some-arguments.ensures) (c.command_of.ensures.usage e)

pub returns-in-None-clause-usage : goal.returns-in-None-clause-usage
returns-in-None-clause-usage c = λ e.
    asks_for_nothing (map string_bytes c.args.words.now) c.in-Some.name.now (map string_bytes c.in-Some.rest.now) c.in-Some.ensures (sym c.in-None.ensures)
