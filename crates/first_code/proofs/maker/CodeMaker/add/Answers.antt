use Rattle.first_code.proofs.Parts.{on_ok, add_room, add_makes}
use Rattle.first_code.proofs.maker.CodeMaker.add.Goals as goal

pub operation-requires : goal.operation-requires
operation-requires c =
    add_room c.args.self.now c.term.new.self c.args.value c.in_ok-term.term c.add_act.result c.args.addend.now c.add_act.ensures
    c.in_ok-term.ensures.value c.in_ok-term.ensures.made c.requires

pub returns-clause-made : goal.returns-clause-made
returns-clause-made c =
    on_ok c.operation.result
    (add_makes c.args.self.now c.term.new.self c.args.value c.in_ok-term.term c.add_act.result c.args.addend.now c.add_act.ensures c.in_ok-term.ensures.value
    c.in_ok-term.ensures.made c.operation.new.self) c.operation.ensures.made
