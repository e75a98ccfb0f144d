use Rattle.std.proofs.Common.{Err}
use Rattle.std.specs.Prelude.{IsErrOf}
use Rattle.impactc_words.specs.declared.words.WordsErr.{WordsErr}
use Rattle.impactc_words.specs.declared.words.WordsErr.TheVariants.{Usage}
use Rattle.impactc_words.proofs.Asked.{not_only}
use Rattle.impactc_words.proofs.words.command_of.Goals as goal

-- a refusal is the same, whatever it refuses
same_refusal : {S T : Type 0} (refusal : WordsErr) → IsErrOf {T = S} (Err refusal) Usage → IsErrOf {T = T} (Err refusal) Usage
same_refusal refusal e = cc

pub returns-in-Err-clause-usage : goal.returns-in-Err-clause-usage
returns-in-Err-clause-usage c = λ e. not_only c.args.name.now c.args.given (c.in-Err.ensures.usage (same_refusal c.in-Err.refusal e))
