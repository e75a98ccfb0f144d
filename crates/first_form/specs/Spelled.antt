-- How the parts of a program are spelled, token by token.
use Rattle.std.specs.Prelude.{◌≡◌, ℕ, List, [], ◌∷◌, slice_index_or}
use Rattle.ib_meaning.specs.declared.place.Place.{Place}
use Rattle.first_form.specs.declared.program.SumOp.{SumOp}
use Rattle.first_form.specs.declared.program.SumOp.TheVariants as sum_op
use Rattle.first_form.specs.declared.program.TermOp.{TermOp}
use Rattle.first_form.specs.declared.program.TermOp.TheVariants as term_op
use Rattle.first_form.specs.declared.program.Factor.{Factor}
use Rattle.first_form.specs.declared.program.Factor.TheVariants as factor
use Rattle.first_form.specs.declared.program.Multiplier.{Multiplier}
use Rattle.first_form.specs.declared.program.Addend.{Addend}
use Rattle.first_form.specs.declared.program.Term.{Term}
use Rattle.first_form.specs.declared.program.Sum.{Sum}
use Rattle.first_form.specs.declared.kind.Kind.{Kind}
use Rattle.first_form.specs.declared.kind.Kind.TheVariants as kind
use Rattle.first_form.specs.declared.kind.Word.{Word}

abbrev pub Names : Type 0
Names = List (List ℕ)

-- each function below puts the kinds of its part's tokens before those that follow
abbrev pub Kinds : Type 0
Kinds = List Kind

abbrev pub sum_mark : SumOp → Kind
sum_mark sum_op.Plus = kind.Plus
sum_mark sum_op.Minus = kind.Minus

abbrev pub term_mark : TermOp → Kind
term_mark term_op.Times = kind.Star
term_mark term_op.Over = kind.Slash

abbrev pub name_at : Names → ℕ → List ℕ
name_at names n = slice_index_or names n []

-- the variables are those of the names
abbrev pub factor_before : Names → Factor → Kinds → Kinds
factor_before names (factor.Variable v) follow = kind.Name (name_at names v) ∷ follow
factor_before names (factor.Number n) follow = kind.Number n ∷ follow
factor_before names (factor.Negative n) follow = kind.Minus ∷ kind.Number n ∷ follow

abbrev pub multipliers_before : Names → List Multiplier → Kinds → Kinds
multipliers_before names [] follow = follow
multipliers_before names (m ∷ ms) follow = term_mark m.op ∷ factor_before names m.factor (multipliers_before names ms follow)

abbrev pub term_before : Names → Term → Kinds → Kinds
term_before names t follow = factor_before names t.first (multipliers_before names t.rest follow)

abbrev pub addends_before : Names → List Addend → Kinds → Kinds
addends_before names [] follow = follow
addends_before names (a ∷ more) follow = sum_mark a.op ∷ term_before names a.term (addends_before names more follow)

abbrev pub sum_before : Names → Sum → Kinds → Kinds
sum_before names s follow = term_before names s.first (addends_before names s.rest follow)

-- the words are of these kinds at first, and the rest follows
abbrev pub Begins : Kinds → List Word → List Word → Type 0
Begins [] words rest = words ≡ rest
Begins (k ∷ more) [] rest = ⊥
Begins (k ∷ more) (word ∷ words) rest = (word.kind ≡ k) × Begins more words rest

-- the first word's place
abbrev pub StartsAt : Place → List Word → Type 0
StartsAt place [] = ⊥
StartsAt place (word ∷ words) = word.place ≡ place
