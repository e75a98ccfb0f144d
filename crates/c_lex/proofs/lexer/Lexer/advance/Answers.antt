use Rattle.std.proofs.Common.{sym, ◌∙◌, ap}
use Rattle.c_lex.specs.First.{found_first}
use Rattle.c_lex.proofs.LexingLemmas.{gap_within, token_within}
use Rattle.c_lex.proofs.lexer.Lexer.advance.Goals as goal

pub past-requires-clause-within : goal.past-requires-clause-within
past-requires-clause-within c =
    gap_within c.args.self.clear c.args.self.left c.in-Gap.len c.requires.some
    (sym c.in-Gap.is ∙ c.in_ok-found.ensures ∙ ap (found_first c.args.self.clear) c.bytes.ensures)

pub past_token-requires-clause-within : goal.past_token-requires-clause-within
past_token-requires-clause-within c =
    token_within c.args.self.clear c.args.self.left c.in-Token.tok c.in-Token.len c.requires.some
    (sym c.in-Token.is ∙ c.in_ok-found.ensures ∙ ap (found_first c.args.self.clear) c.bytes.ensures)
