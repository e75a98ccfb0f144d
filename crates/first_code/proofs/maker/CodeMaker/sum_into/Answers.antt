use Rattle.first_code.proofs.Parts.{on_ok, load_room, use_room, use_makes}
use Rattle.first_code.proofs.maker.CodeMaker.sum_into.Goals as goal

pub emit-requires : goal.emit-requires
emit-requires c =
    load_room c.args.self.now c.sum.new.self c.args.sum.now c.args.act c.in_ok-value.value c.in_ok-value.ensures.value c.in_ok-value.ensures.made
    c.load.result c.load.ensures c.requires

pub emit-requires-2 : goal.emit-requires-2
emit-requires-2 c =
    use_room c.args.self.now c.sum.new.self c.args.sum.now c.args.act c.in_ok-value.value c.in_ok-value.ensures.value c.in_ok-value.ensures.made
    c.emit.new.self c.load.result c.load.ensures c.in_ok-emit.ensures c.requires

pub returns : goal.returns
returns c =
    on_ok c.emit-2.result
    (use_makes c.args.self.now c.sum.new.self c.args.sum.now c.args.act c.in_ok-value.value c.in_ok-value.ensures.value c.in_ok-value.ensures.made
    c.emit.new.self c.load.result c.load.ensures c.in_ok-emit.ensures c.emit-2.new.self) c.emit-2.ensures
