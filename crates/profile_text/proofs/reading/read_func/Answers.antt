use Rattle.std.proofs.Common.{rules}
use Rattle.profile_text.specs.Matching.{lines_in}
use Rattle.profile_text.proofs.Read.{func_read}
use Rattle.profile_text.proofs.reading.read_func.Goals as goal

pub returns-clause-read : goal.returns-clause-read
returns-clause-read c =
    func_read c.args.func.now c.in-Some.entries c.args.lines.now.number c.read_edges.new.lines.number (lines_in c.args.lines.now.left.now) (lines_in c.in-Some.rest.now) (lines_in c.read_edges.new.lines.left.now) c.in_ok-edges.edges (search rules) (search rules) (search rules)
