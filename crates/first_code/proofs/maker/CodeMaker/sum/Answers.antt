use Rattle.first_code.proofs.Parts.{on_ok, sum_room, rest_room, rest_makes}
use Rattle.first_code.proofs.maker.CodeMaker.sum.Goals as goal

pub term-requires : goal.term-requires
term-requires c = sum_room c.args.self.now c.args.sum.now c.requires

pub total-requires : goal.total-requires
total-requires c =
    rest_room c.args.self.now c.term.new.self c.args.sum.now c.in_ok-first.first c.as_slice.result.now c.in_ok-first.ensures.value c.as_slice.ensures
    c.in_ok-first.ensures.made c.requires

pub returns-clause-made : goal.returns-clause-made
returns-clause-made c =
    on_ok c.total.result
    (rest_makes c.args.self.now c.term.new.self c.args.sum.now c.in_ok-first.first c.as_slice.result.now c.in_ok-first.ensures.value c.as_slice.ensures
    c.in_ok-first.ensures.made c.total.new.self) c.total.ensures.made
