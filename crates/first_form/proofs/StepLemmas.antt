-- Parts of a sum and names: what both ways of a step use.
use Rattle.std.proofs.Common.{◌≡◌, ℕ, ◌<◌, List, [], ◌∷◌, ◌++◌, length, ap, sym, ◌∙◌, bytes_eq, position, Some, append_assoc, append-nil}
use Rattle.first_form.specs.declared.program.SumOp.{SumOp}
use Rattle.first_form.specs.declared.program.TermOp.{TermOp}
use Rattle.first_form.specs.declared.program.Factor.{Factor}
use Rattle.first_form.specs.declared.program.Multiplier.{Multiplier}
use Rattle.first_form.specs.declared.program.Addend.{Addend}
use Rattle.first_form.specs.declared.program.Term.{Term}
use Rattle.first_form.specs.declared.program.Stmt.{Stmt}
use Rattle.first_form.specs.declared.program.Program.{Program}
use Rattle.first_form.specs.declared.kind.Word.{Word}
use Rattle.first_form.specs.declared.reader.Purpose.{Purpose}
use Rattle.first_form.specs.declared.reader.Lead.{Lead}
use Rattle.first_form.specs.declared.reader.Lead.TheVariants as lead
use Rattle.first_form.specs.declared.reader.Slot.{Slot}
use Rattle.first_form.specs.declared.reader.Slot.TheVariants as slot
use Rattle.first_form.specs.Spelled.{Names, name_at}
use Rattle.first_form.specs.Reading.{joined, multiplied, behind_factor}
use Rattle.first_form.specs.Left.{extended, lengthened, LeftOfSum, lead_of, term_with, LeftAt}
use Rattle.std.proofs.lemmas.List.Quantifiers.{position-Some}
use Rattle.std.proofs.lemmas.Slice.Eq.{bytes_eq-Decides}

-- a name that is found is the name at its number
pub position_named : (bs : List ℕ) (names : Names) (v : ℕ) → position (bytes_eq bs) names ≡ Some v → (v < length names) × (bs ≡ name_at names v)
position_named bs names v e = let k = position-Some (bytes_eq bs) names v [] e in (k.0, (bytes_eq-Decides bs (name_at names v)).0 k.1)

-- sums in the making
pub nothing_more : (l : Lead) (t : Term) → extended l (lengthened t []) [] ≡ joined l t
nothing_more lead.First t = ap (λ (ms : List Multiplier). record { first = record { first = t.first; rest = ms }; rest = [] }) (append-nil t.rest)
nothing_more (lead.After s op) t = ap (λ (ms : List Multiplier). record { first = s.first; rest = s.rest ++ record { op = op; term = record { first = t.first; rest = ms } } ∷ [] }) (append-nil t.rest)

pub factor_more : (l : Lead) (t : Term) (op : TermOp) (f : Factor) (ms : List Multiplier) (more : List Addend) →
    extended l (lengthened (multiplied t op f) ms) more ≡ extended l (lengthened t (record { op = op; factor = f } ∷ ms)) more
factor_more l t op f ms more = ap (λ (rest : List Multiplier). extended l (record { first = t.first; rest = rest }) more) (append_assoc t.rest (record { op = op; factor = f } ∷ []) ms)

pub addend_more : (l : Lead) (t : Term) (op : SumOp) (f : Factor) (ms : List Multiplier) (more : List Addend) →
    extended (lead.After (joined l t) op) (lengthened (record { first = f; rest = [] }) ms) more ≡ extended l (lengthened t []) (record { op = op; term = record { first = f; rest = ms } } ∷ more)
addend_more lead.First t op f ms more = ap (λ (rest : List Multiplier). record { first = record { first = t.first; rest = rest }; rest = record { op = op; term = record { first = f; rest = ms } } ∷ more }) (sym (append-nil t.rest))
addend_more (lead.After s o) t op f ms more =
    ap (λ (rest : List Addend). record { first = s.first; rest = rest }) (append_assoc s.rest (record { op = o; term = t } ∷ []) (record { op = op; term = record { first = f; rest = ms } } ∷ more))
    ∙ ap (λ (rest : List Multiplier). record { first = s.first; rest = s.rest ++ record { op = o; term = record { first = t.first; rest = rest } } ∷ record { op = op; term = record { first = f; rest = ms } } ∷ more }) (sym (append-nil t.rest))

-- what waits behind a factor
pub behind_left : {names : Names} {body : List Stmt} {words : List Word} {program : Program} (p : Purpose) (s : Slot) (f : Factor) →
    LeftOfSum names body p (lead_of s) (term_with s f) (λ follow. follow) words program → LeftAt (behind_factor p s f) names body words program
behind_left p (slot.Term l) f h = h
behind_left p (slot.Factor l t op) f h = h

pub left_behind : {names : Names} {body : List Stmt} {words : List Word} {program : Program} (p : Purpose) (s : Slot) (f : Factor) →
    LeftAt (behind_factor p s f) names body words program → LeftOfSum names body p (lead_of s) (term_with s f) (λ follow. follow) words program
left_behind p (slot.Term l) f h = h
left_behind p (slot.Factor l t op) f h = h

-- a declared name, and a statement, more
pub name_more : (names : Names) (name : List ℕ) (later : Names) → names ++ name ∷ later ≡ (names ++ name ∷ []) ++ later
name_more names name later = sym (append_assoc names (name ∷ []) later)

pub stmt_more : (body : List Stmt) (s : Stmt) (more : List Stmt) → body ++ s ∷ more ≡ (body ++ s ∷ []) ++ more
stmt_more body s more = sym (append_assoc body (s ∷ []) more)
