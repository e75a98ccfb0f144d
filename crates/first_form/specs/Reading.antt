-- What the reader does with a token.
use Rattle.std.specs.Prelude.{ℕ, if◌then◌else◌, List, [], ◌∷◌, ◌++◌, Option, Some, None, bytes_eq, position}
use Rattle.std.specs.List.{list_any}
use Rattle.std.specs.Option.{option_map}
use Rattle.ib_meaning.specs.declared.place.Place.{Place}
use Rattle.first_form.specs.declared.program.SumOp.{SumOp}
use Rattle.first_form.specs.declared.program.SumOp.TheVariants as sum_op
use Rattle.first_form.specs.declared.program.TermOp.{TermOp}
use Rattle.first_form.specs.declared.program.TermOp.TheVariants as term_op
use Rattle.first_form.specs.declared.program.Factor.{Factor}
use Rattle.first_form.specs.declared.program.Factor.TheVariants as factor
use Rattle.first_form.specs.declared.program.Term.{Term}
use Rattle.first_form.specs.declared.program.Sum.{Sum}
use Rattle.first_form.specs.declared.program.Stmt.{Stmt}
use Rattle.first_form.specs.declared.program.Stmt.TheVariants as stmt
use Rattle.first_form.specs.declared.program.Program.{Program}
use Rattle.first_form.specs.declared.kind.Word.{Word}
use Rattle.first_form.specs.declared.kind.Kind.{Kind}
use Rattle.first_form.specs.declared.kind.Kind.TheVariants as kind
use Rattle.first_form.specs.declared.reader.Reader.{Reader}
use Rattle.first_form.specs.declared.reader.Wait.{Wait}
use Rattle.first_form.specs.declared.reader.Wait.TheVariants as wait
use Rattle.first_form.specs.declared.reader.Header.{Header}
use Rattle.first_form.specs.declared.reader.Header.TheVariants as header
use Rattle.first_form.specs.declared.reader.Target.{Target}
use Rattle.first_form.specs.declared.reader.Target.TheVariants as target
use Rattle.first_form.specs.declared.reader.Purpose.{Purpose}
use Rattle.first_form.specs.declared.reader.Lead.{Lead}
use Rattle.first_form.specs.declared.reader.Lead.TheVariants as lead
use Rattle.first_form.specs.declared.reader.Slot.{Slot}
use Rattle.first_form.specs.declared.reader.Slot.TheVariants as slot
use Rattle.first_form.specs.Spelled.{Names}

-- the sum of what stands before a term, and the term
abbrev pub joined : Lead → Term → Sum
joined lead.First t = record { first = t; rest = [] }
joined (lead.After s op) t = record { first = s.first; rest = s.rest ++ record { op = op; term = t } ∷ [] }

-- a term with one factor more
abbrev pub multiplied : Term → TermOp → Factor → Term
multiplied t op f = record { first = t.first; rest = t.rest ++ record { op = op; factor = f } ∷ [] }

-- what waits behind a factor
abbrev pub behind_factor : Purpose → Slot → Factor → Wait
behind_factor p (slot.Term l) f = wait.Operator p l (record { first = f; rest = [] })
behind_factor p (slot.Factor l t op) f = wait.Operator p l (multiplied t op f)

-- the factor that a token is, unless it is `-`
abbrev pub factor_of : Names → Kind → Option Factor
factor_of names (kind.Number n) = Some (factor.Number n)
factor_of names (kind.Name name) = option_map factor.Variable (position (bytes_eq name) names)
factor_of names _ = None

abbrev pub after_header : Header → Kind → Option Wait
after_header header.Int kind.Int = Some (wait.Header header.Main)
after_header header.Main kind.Main = Some (wait.Header header.LeftParen)
after_header header.LeftParen kind.LeftParen = Some (wait.Header header.Void)
after_header header.Void kind.Void = Some (wait.Header header.RightParen)
after_header header.RightParen kind.RightParen = Some (wait.Header header.LeftBrace)
after_header header.LeftBrace kind.LeftBrace = Some wait.Statement
after_header _ _ = None

abbrev pub first_of_sum : Place → Target → Wait
first_of_sum place t = wait.Factor (record { place = place; target = t }) (slot.Term lead.First)

abbrev pub statement_start : Names → Place → Kind → Option Wait
statement_start names place kind.Int = Some (wait.Name place)
statement_start names place kind.Putint = Some (wait.Parenthesis place)
statement_start names place kind.Return = Some (first_of_sum place target.Return)
statement_start names place kind.RightBrace = Some wait.Nothing
statement_start names place (kind.Name name) = option_map (λ v. wait.Equals place v) (position (bytes_eq name) names)
statement_start names place _ = None

abbrev pub waiting : Names → List Stmt → Wait → Reader
waiting names body w = record { names = names; body = body; wait = w }

-- the reader with one statement more
abbrev pub with_statement : Names → List Stmt → Stmt → Reader
with_statement names body s = waiting names (body ++ s ∷ []) wait.Statement

-- the same, where the statement declares a name
abbrev pub with_declaration : Names → List Stmt → List ℕ → Stmt → Option Reader
with_declaration names body name s =
    if list_any (bytes_eq name) names then None else Some (with_statement (names ++ name ∷ []) body s)

-- `;` behind a sum
abbrev pub closed_for : Names → List Stmt → Place → Target → Sum → Option Reader
closed_for names body place (target.Declare name) s = with_declaration names body name (stmt.Declare place (Some s))
closed_for names body place (target.Assign v) s = Some (with_statement names body (stmt.Assign place v s))
closed_for names body place target.Return s = Some (with_statement names body (stmt.Return place s))
closed_for names body place target.Print s = None

abbrev pub closed : Names → List Stmt → Purpose → Sum → Option Reader
closed names body p s = closed_for names body p.place p.target s

-- `)` behind a sum
abbrev pub parenthesised_for : Place → Target → Sum → Option Wait
parenthesised_for place target.Print s = Some (wait.Semicolon place s)
parenthesised_for place _ s = None

abbrev pub parenthesised : Purpose → Sum → Option Wait
parenthesised p s = parenthesised_for p.place p.target s

abbrev pub next_term : Purpose → Lead → Term → SumOp → Wait
next_term p l t op = wait.Factor p (slot.Term (lead.After (joined l t) op))

abbrev pub next_factor : Purpose → Lead → Term → TermOp → Wait
next_factor p l t op = wait.Factor p (slot.Factor l t op)

abbrev pub after_operator : Purpose → Lead → Term → Kind → Option Wait
after_operator p l t kind.Plus = Some (next_term p l t sum_op.Plus)
after_operator p l t kind.Minus = Some (next_term p l t sum_op.Minus)
after_operator p l t kind.Star = Some (next_factor p l t term_op.Times)
after_operator p l t kind.Slash = Some (next_factor p l t term_op.Over)
after_operator p l t kind.RightParen = parenthesised p (joined l t)
after_operator p l t _ = None

abbrev pub behind_sum : Names → List Stmt → Purpose → Lead → Term → Kind → Option Reader
behind_sum names body p l t kind.Semicolon = closed names body p (joined l t)
behind_sum names body p l t k = option_map (waiting names body) (after_operator p l t k)

-- a factor, or the `-` before a number
abbrev pub after_factor : Names → Purpose → Slot → Kind → Option Wait
after_factor names p o kind.Minus = Some (wait.Digits p o)
after_factor names p o k = option_map (behind_factor p o) (factor_of names k)

abbrev pub after_digits : Purpose → Slot → Kind → Option Wait
after_digits p o (kind.Number n) = Some (behind_factor p o (factor.Negative n))
after_digits p o _ = None

abbrev pub after_name : Place → Kind → Option Wait
after_name place (kind.Name name) = Some (wait.Initial place name)
after_name place _ = None

abbrev pub after_initial : Names → List Stmt → Place → List ℕ → Kind → Option Reader
after_initial names body place name kind.Semicolon = with_declaration names body name (stmt.Declare place None)
after_initial names body place name kind.Equals = Some (waiting names body (first_of_sum place (target.Declare name)))
after_initial names body place name _ = None

abbrev pub after_equals : Place → ℕ → Kind → Option Wait
after_equals place v kind.Equals = Some (first_of_sum place (target.Assign v))
after_equals place v _ = None

abbrev pub after_parenthesis : Place → Kind → Option Wait
after_parenthesis place kind.LeftParen = Some (first_of_sum place target.Print)
after_parenthesis place _ = None

abbrev pub after_semicolon : Names → List Stmt → Place → Sum → Kind → Option Reader
after_semicolon names body place s kind.Semicolon = Some (with_statement names body (stmt.Print place s))
after_semicolon names body place s _ = None

abbrev pub step_at : Wait → Names → List Stmt → Place → Kind → Option Reader
step_at (wait.Header h) names body at k = option_map (waiting names body) (after_header h k)
step_at wait.Statement names body at k = option_map (waiting names body) (statement_start names at k)
step_at (wait.Name place) names body at k = option_map (waiting names body) (after_name place k)
step_at (wait.Initial place name) names body at k = after_initial names body place name k
step_at (wait.Equals place v) names body at k = option_map (waiting names body) (after_equals place v k)
step_at (wait.Parenthesis place) names body at k = option_map (waiting names body) (after_parenthesis place k)
step_at (wait.Factor p o) names body at k = option_map (waiting names body) (after_factor names p o k)
step_at (wait.Digits p o) names body at k = option_map (waiting names body) (after_digits p o k)
step_at (wait.Operator p l t) names body at k = behind_sum names body p l t k
step_at (wait.Semicolon place s) names body at k = after_semicolon names body place s k
step_at wait.Nothing names body at k = None

-- the reader behind the word, where the word may come next
unfoldable pub step : Reader → Word → Option Reader
step r word = step_at r.wait r.names r.body word.place word.kind

abbrev pub start_reader : Reader
start_reader = waiting [] [] (wait.Header header.Int)

abbrev pub finished_at : Wait → Names → List Stmt → Option Program
finished_at wait.Nothing names body = Some (record { names = names; body = body })
finished_at _ names body = None

-- the program, once all words were taken
abbrev pub finished : Reader → Option Program
finished r = finished_at r.wait r.names r.body
