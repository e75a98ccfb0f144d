use Rattle.std.proofs.Common.{rules, sym, subst, ◌≡◌, None}
use Rattle.std.specs.Prelude.{IfOk, IfErr}
use Rattle.profile_text.specs.Reading.{Misreads}
use Rattle.profile_text.proofs.Files.{behind_first, no_lines}
use Rattle.profile_text.proofs.reading.read_lines.Goals as goal

pub returns-in-None-clause-err : goal.returns-in-None-clause-err
returns-in-None-clause-err c = λ fs. no_lines c.args.funcs.now c.args.bytes.now (search rules)

pub returns-in-Some-clause-matches : goal.returns-in-Some-clause-matches
returns-in-Some-clause-matches c = subst (λ x. IfOk c.read_counts.result (λ counts. x ≡ None)) (sym (behind_first c.args.funcs.now c.args.bytes.now c.in-Some.left.now c.in-Some.ensures.0)) c.read_counts.ensures.matches

pub returns-in-Some-clause-err : goal.returns-in-Some-clause-err
returns-in-Some-clause-err c = subst (λ x. IfErr c.read_counts.result (Misreads (λ fs. x))) (sym (behind_first c.args.funcs.now c.args.bytes.now c.in-Some.left.now c.in-Some.ensures.0)) c.read_counts.ensures.err
