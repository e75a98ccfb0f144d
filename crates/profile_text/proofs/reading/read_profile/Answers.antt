use Rattle.std.proofs.Common.{rules}
use Rattle.profile_text.proofs.Files.{profile_by, read_by, not_malformed, refused_by, memory_by}
use Rattle.profile_text.proofs.reading.read_profile.Goals as goal

pub returns-in-Some-clause-taken : goal.returns-in-Some-clause-taken
returns-in-Some-clause-taken c = λ counts is. absurd (not_malformed c.args.tac.now counts c.args.bytes.now c.in-Some.line c.funcs-funcs.ensures.valid (search rules) is)

pub returns-in-Err-clause-refused : goal.returns-in-Err-clause-refused
returns-in-Err-clause-refused c = refused_by c.args.tac.now c.funcs-funcs.result.now c.args.bytes.now c.in-Err.error c.funcs-funcs.ensures.value (search rules) (search rules)

pub returns-in-Err-clause-taken : goal.returns-in-Err-clause-taken
returns-in-Err-clause-taken c = λ counts is. memory_by c.args.tac.now c.funcs-funcs.result.now counts c.args.bytes.now c.in-Err.error c.funcs-funcs.ensures.valid c.funcs-funcs.ensures.value (search rules) is

pub keep-requires : goal.keep-requires
keep-requires c = (profile_by c.args.tac.now c.funcs-funcs.result.now c.args.bytes.now c.in-Ok.counts c.funcs-funcs.ensures.value (search rules) (search rules) (search rules) (search rules)).counted

pub returns-in-Ok-clause-ok : goal.returns-in-Ok-clause-ok
returns-in-Ok-clause-ok c = profile_by c.args.tac.now c.funcs-funcs.result.now c.args.bytes.now c.keep.result c.funcs-funcs.ensures.value (search rules) (search rules) (search rules) (search rules)

pub returns-in-Ok-clause-taken : goal.returns-in-Ok-clause-taken
returns-in-Ok-clause-taken c = λ counts is. read_by c.args.tac.now counts c.keep.result c.args.bytes.now c.funcs-funcs.ensures.valid (search rules) is
