use Rattle.std.proofs.Common.{ap, ◌∙◌}
use Rattle.std.specs.Prelude.{slice_get}
use Rattle.wide_plain.proofs.Tables.{read_none, read_some}
use Rattle.wide_plain.proofs.starts.Starts.word_of.Goals as goal

pub returns-in-None : goal.returns-in-None
returns-in-None c =
    read_none c.args.self.now.of c.args.label c.args.self.now.behind (c.in-None.ensures ∙ ap (λ of. slice_get of c.args.label) c.as_slice.ensures)

pub returns-in-Some : goal.returns-in-Some
returns-in-Some c =
    read_some c.args.self.now.of c.args.label c.in-Some.word.now c.args.self.now.behind (c.in-Some.ensures ∙ ap (λ of. slice_get of c.args.label) c.as_slice.ensures)
