use Rattle.std.proofs.Common.{◌≡◌, ◌<◌, ◌+◌, List, length, drop, sym, ◌∙◌, ap, subst, arith}
use Rattle.c_ast.specs.declared.token.Token.{Token}
use Rattle.first_form.specs.declared.program.Program.{Program}
use Rattle.first_form.specs.FirstForm.{IsFirstForm}
use Rattle.first_form.specs.Reading.{step, finished}
use Rattle.first_form.proofs.ReadLemmas.{Follows, follows_on, stuck, ended, only_end, unended, refused, given, refused_on, next_token, no_token}
use Rattle.first_form.proofs.source.read.Goals as goal

pub loop-token-preserved : goal.loop-token-preserved
loop-token-preserved c =
    let tokens = c.args.tokens.now in
    let i = c.loop-token.token-index in
    let here : i < length tokens = omega arith in
    follows_on c.args.source.now tokens c.token-item.result (drop (i + 1) tokens) c.loop-token.reader c.in-Ok.next
    (subst (λ (rest : List Token). Follows c.args.source.now tokens rest c.loop-token.reader) (next_token tokens i c.token-item.result here c.token-item.is) c.loop-token.invariant)
    (ap (step c.loop-token.reader) (sym c.new.ensures) ∙ c.in-Ok.ensures)

pub returns-in-Err-clause-refused : goal.returns-in-Err-clause-refused
returns-in-Err-clause-refused c = λ e.
    let tokens = c.args.tokens.now in
    let i = c.loop-token.token-index in
    let here : i < length tokens = omega arith in
    stuck c.args.source.now tokens c.token-item.result (drop (i + 1) tokens) c.loop-token.reader
    (subst (λ (rest : List Token). Follows c.args.source.now tokens rest c.loop-token.reader) (next_token tokens i c.token-item.result here c.token-item.is) c.loop-token.invariant)
    (ap (step c.loop-token.reader) (sym c.new.ensures) ∙ refused_on (step c.loop-token.reader c.new.result) c.in-Err.e c.in-Err.ensures e)

pub returns-clause-ok : goal.returns-clause-ok
returns-clause-ok c =
    let tokens = c.args.tokens.now in
    let over = no_token tokens c.loop-token.token-index (omega arith) in
    let follows = subst (λ (rest : List Token). Follows c.args.source.now tokens rest c.loop-token.reader) over c.loop-token.invariant in
    given (IsFirstForm c.args.source.now tokens) (finished c.loop-token.reader) c.finish.result c.finish.ensures
    (λ p e. ended c.args.source.now tokens c.loop-token.reader p (omega arith) follows e)

pub returns-clause-only : goal.returns-clause-only
returns-clause-only c =
    let tokens = c.args.tokens.now in
    let over = no_token tokens c.loop-token.token-index (omega arith) in
    let follows = subst (λ (rest : List Token). Follows c.args.source.now tokens rest c.loop-token.reader) over c.loop-token.invariant in
    given (λ p. (other : Program) → IsFirstForm c.args.source.now tokens other → other ≡ p) (finished c.loop-token.reader) c.finish.result c.finish.ensures
    (λ p e other h. only_end c.args.source.now tokens c.loop-token.reader p other follows e h)

pub returns-clause-refused : goal.returns-clause-refused
returns-clause-refused c = λ e.
    let tokens = c.args.tokens.now in
    let over = no_token tokens c.loop-token.token-index (omega arith) in
    let follows = subst (λ (rest : List Token). Follows c.args.source.now tokens rest c.loop-token.reader) over c.loop-token.invariant in
    unended c.args.source.now tokens c.loop-token.reader follows (refused (finished c.loop-token.reader) c.finish.result c.finish.ensures e)
