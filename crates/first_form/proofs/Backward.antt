-- What the words that are left have to be, before a word that was read.
use Rattle.std.proofs.Common.{◌≡◌, ◌≤◌, ℕ, Bool, true, false, List, [], ◌∷◌, ◌++◌, ap, refl, sym, ◌∙◌, subst, cond, bytes_eq, position, Option, Some, None, append-nil}
use Rattle.std.specs.List.{list_any}
use Rattle.std.specs.Option.{option_map}
use Rattle.ib_meaning.specs.declared.place.Place.{Place}
use Rattle.first_form.specs.declared.program.SumOp.{SumOp}
use Rattle.first_form.specs.declared.program.SumOp.TheVariants as sum_op
use Rattle.first_form.specs.declared.program.TermOp.{TermOp}
use Rattle.first_form.specs.declared.program.TermOp.TheVariants as term_op
use Rattle.first_form.specs.declared.program.Factor.TheVariants as factor
use Rattle.first_form.specs.declared.program.Term.{Term}
use Rattle.first_form.specs.declared.program.Sum.{Sum}
use Rattle.first_form.specs.declared.program.Stmt.{Stmt}
use Rattle.first_form.specs.declared.program.Stmt.TheVariants as stmt
use Rattle.first_form.specs.declared.program.Program.{Program}
use Rattle.first_form.specs.declared.kind.Word.{Word}
use Rattle.first_form.specs.declared.kind.Kind.{Kind}
use Rattle.first_form.specs.declared.kind.Kind.TheVariants as kind
use Rattle.first_form.specs.declared.reader.Reader.{Reader}
use Rattle.first_form.specs.declared.reader.Wait.{Wait}
use Rattle.first_form.specs.declared.reader.Wait.TheVariants as wait
use Rattle.first_form.specs.declared.reader.Header.{Header}
use Rattle.first_form.specs.declared.reader.Header.TheVariants as header
use Rattle.first_form.specs.declared.reader.Target.{Target}
use Rattle.first_form.specs.declared.reader.Target.TheVariants as target
use Rattle.first_form.specs.declared.reader.Purpose.{Purpose}
use Rattle.first_form.specs.declared.reader.Lead.{Lead}
use Rattle.first_form.specs.declared.reader.Lead.TheVariants as lead
use Rattle.first_form.specs.declared.reader.Slot.{Slot}
use Rattle.first_form.specs.declared.reader.Slot.TheVariants as slot
use Rattle.first_form.specs.Spelled.{Names, name_at, sum_mark, term_mark, Begins}
use Rattle.first_form.specs.Reading.{joined, behind_factor, waiting, closed_for, parenthesised_for, step_at, step}
use Rattle.first_form.specs.Left.{LeftOfBody, close, Closes, LeftOfSum, lead_of, term_with, LeftOfFactor, LeftOfDigits, LeftOfDeclaration, LeftOfName, LeftOfPrint, LeftOfHeader, purpose_of, LeftAt, Left, LeftOf}
use Rattle.first_form.proofs.StepLemmas.{position_named, nothing_more, factor_more, addend_more, left_behind, name_more, stmt_more}

module _ (names : Names) (body : List Stmt) (word : Word) (words : List Word) (program : Program) (small : (n : ℕ) → word.kind ≡ kind.Number n → n ≤ 2147483647) where
  at_header : (h : Header) (k : Kind) → word.kind ≡ k → LeftOf (step_at (wait.Header h) names body word.place k) words program → LeftOfHeader names body h (word ∷ words) program
  at_header header.Int kind.Int e l = record { rest = l.rest; begins = (e, l.begins); follows = l.follows }
  at_header header.Int _ e l = absurd l
  at_header header.Main kind.Main e l = record { rest = l.rest; begins = (e, l.begins); follows = l.follows }
  at_header header.Main _ e l = absurd l
  at_header header.LeftParen kind.LeftParen e l = record { rest = l.rest; begins = (e, l.begins); follows = l.follows }
  at_header header.LeftParen _ e l = absurd l
  at_header header.Void kind.Void e l = record { rest = l.rest; begins = (e, l.begins); follows = l.follows }
  at_header header.Void _ e l = absurd l
  at_header header.RightParen kind.RightParen e l = record { rest = l.rest; begins = (e, l.begins); follows = l.follows }
  at_header header.RightParen _ e l = absurd l
  at_header header.LeftBrace kind.LeftBrace e l = record { rest = words; begins = (e, refl); follows = l }
  at_header header.LeftBrace _ e l = absurd l

  at_name : (name : List ℕ) → word.kind ≡ kind.Name name → (o : Option ℕ) → position (bytes_eq name) names ≡ o →
      LeftOf (option_map (waiting names body) (option_map (λ v. wait.Equals word.place v) o)) words program → LeftOfBody names body (word ∷ words) program
  at_name name is None e l = absurd l
  at_name name is (Some v) e l = let found = position_named name names v e in let f = l.sum.closes in record {
    later = f.later;
    more = stmt.Assign word.place v (record { first = record { first = l.factor; rest = l.sum.multipliers }; rest = l.sum.addends }) ∷ f.more;
    names_are = f.names_are;
    body_is = f.body_is ∙ sym (stmt_more body _ f.more);
    statements = (l.sum.rest, found.0, ((l.is_factor, l.sum.are_multipliers), l.sum.are_addends), refl, (is ∙ ap kind.Name found.1, l.sum.begins), f.statements);
  }

  at_statement : (k : Kind) → word.kind ≡ k → LeftOf (step_at wait.Statement names body word.place k) words program → LeftOfBody names body (word ∷ words) program
  at_statement kind.Int e l = let d = l.declaration in let f = d.follows in record {
    later = l.name ∷ f.later;
    more = stmt.Declare word.place d.value ∷ f.more;
    names_are = f.names_are ∙ sym (name_more names l.name f.later);
    body_is = f.body_is ∙ sym (stmt_more body _ f.more);
    statements = (l.name, f.later, d.rest, refl, d.fresh, d.is_value, refl, (e, d.begins), f.statements);
  }
  at_statement kind.Putint e l = let f = l.sum.closes in record {
    later = f.later;
    more = stmt.Print word.place (record { first = record { first = l.factor; rest = l.sum.multipliers }; rest = l.sum.addends }) ∷ f.more;
    names_are = f.names_are;
    body_is = f.body_is ∙ sym (stmt_more body _ f.more);
    statements = (l.sum.rest, ((l.is_factor, l.sum.are_multipliers), l.sum.are_addends), refl, (e, l.sum.begins), f.statements);
  }
  at_statement kind.Return e l = let f = l.sum.closes in record {
    later = f.later;
    more = stmt.Return word.place (record { first = record { first = l.factor; rest = l.sum.multipliers }; rest = l.sum.addends }) ∷ f.more;
    names_are = f.names_are;
    body_is = f.body_is ∙ sym (stmt_more body _ f.more);
    statements = (l.sum.rest, ((l.is_factor, l.sum.are_multipliers), l.sum.are_addends), refl, (e, l.sum.begins), f.statements);
  }
  at_statement kind.RightBrace e l = record {
    later = [];
    more = [];
    names_are = ap (λ (p : Program). p.names) l.1 ∙ sym (append-nil names);
    body_is = ap (λ (p : Program). p.body) l.1 ∙ sym (append-nil body);
    statements = (refl, (e, l.0));
  }
  at_statement (kind.Name name) e l = at_name name e (position (bytes_eq name) names) refl l
  at_statement _ e l = absurd l

  at_declared_name : (place : Place) (k : Kind) → word.kind ≡ k → LeftOf (step_at (wait.Name place) names body word.place k) words program → LeftOfName names body place (word ∷ words) program
  at_declared_name place (kind.Name name) e l = record { name = name; declaration = record { value = l.value; rest = l.rest; fresh = l.fresh; is_value = l.is_value; begins = (e, l.begins); follows = l.follows } }
  at_declared_name place _ e l = absurd l

  -- a statement that declares a new name
  declared : (name : List ℕ) (s : Stmt) (b : Bool) → list_any (bytes_eq name) names ≡ b →
      LeftOf (cond b None (Some (waiting (names ++ name ∷ []) (body ++ s ∷ []) wait.Statement))) words program →
      (list_any (bytes_eq name) names ≡ false) × LeftOfBody (names ++ name ∷ []) (body ++ s ∷ []) words program
  declared name s true e l = absurd l
  declared name s false e l = (e, l)

  at_initial : (place : Place) (name : List ℕ) (k : Kind) → word.kind ≡ k → LeftOf (step_at (wait.Initial place name) names body word.place k) words program →
      LeftOfDeclaration names body place name (λ follow. follow) (word ∷ words) program
  at_initial place name kind.Semicolon e l = let d = declared name (stmt.Declare place None) (list_any (bytes_eq name) names) refl l in
      record { value = None; rest = words; fresh = d.0; is_value = tt; begins = (e, refl); follows = d.1 }
  at_initial place name kind.Equals e l =
      record {
        value = Some (record { first = record { first = l.factor; rest = l.sum.multipliers }; rest = l.sum.addends });
        rest = l.sum.rest;
        fresh = l.sum.closes.0;
        is_value = ((l.is_factor, l.sum.are_multipliers), l.sum.are_addends);
        begins = (e, l.sum.begins);
        follows = l.sum.closes.1;
      }
  at_initial place name _ e l = absurd l

  -- a mark before a sum
  at_mark : (p : Purpose) (mark : Kind) → word.kind ≡ mark → LeftOfFactor names body p (slot.Term lead.First) (λ follow. follow) words program →
      LeftOfFactor names body p (slot.Term lead.First) (λ follow. mark ∷ follow) (word ∷ words) program
  at_mark p mark e l = record { factor = l.factor; is_factor = l.is_factor; sum = record { multipliers = l.sum.multipliers; addends = l.sum.addends; rest = l.sum.rest; are_multipliers = l.sum.are_multipliers; are_addends = l.sum.are_addends; begins = (e, l.sum.begins); closes = l.sum.closes } }

  at_equals : (place : Place) (v : ℕ) (k : Kind) → word.kind ≡ k → LeftOf (step_at (wait.Equals place v) names body word.place k) words program →
      LeftAt (wait.Equals place v) names body (word ∷ words) program
  at_equals place v kind.Equals e l = at_mark (purpose_of place (target.Assign v)) (kind.Equals) e l
  at_equals place v _ e l = absurd l

  at_parenthesis : (place : Place) (k : Kind) → word.kind ≡ k → LeftOf (step_at (wait.Parenthesis place) names body word.place k) words program →
      LeftAt (wait.Parenthesis place) names body (word ∷ words) program
  at_parenthesis place kind.LeftParen e l = at_mark (purpose_of place target.Print) (kind.LeftParen) e l
  at_parenthesis place _ e l = absurd l

  -- a spelling before more of a sum
  before : (p : Purpose) (l : Lead) (t : Term) (k : Kind) → word.kind ≡ k → LeftOfSum names body p l t (λ follow. follow) words program →
      LeftOfSum names body p l t (λ follow. k ∷ follow) (word ∷ words) program
  before p l t k e s = record { multipliers = s.multipliers; addends = s.addends; rest = s.rest; are_multipliers = s.are_multipliers; are_addends = s.are_addends; begins = (e, s.begins); closes = s.closes }

  at_variable : (p : Purpose) (s : Slot) (name : List ℕ) → word.kind ≡ kind.Name name → (o : Option ℕ) → position (bytes_eq name) names ≡ o →
      LeftOf (option_map (waiting names body) (option_map (behind_factor p s) (option_map factor.Variable o))) words program →
      LeftOfFactor names body p s (λ follow. follow) (word ∷ words) program
  at_variable p s name is None e l = absurd l
  at_variable p s name is (Some v) e l = let found = position_named name names v e in
      record { factor = factor.Variable v; is_factor = found.0; sum = before p (lead_of s) (term_with s (factor.Variable v)) (kind.Name (name_at names v)) (is ∙ ap kind.Name found.1) (left_behind p s (factor.Variable v) l) }

  at_factor : (p : Purpose) (s : Slot) (k : Kind) → word.kind ≡ k → LeftOf (step_at (wait.Factor p s) names body word.place k) words program →
      LeftOfFactor names body p s (λ follow. follow) (word ∷ words) program
  at_factor p s kind.Minus e l = record { factor = factor.Negative l.number; is_factor = l.small; sum = record { multipliers = l.sum.multipliers; addends = l.sum.addends; rest = l.sum.rest; are_multipliers = l.sum.are_multipliers; are_addends = l.sum.are_addends; begins = (e, l.sum.begins); closes = l.sum.closes } }
  at_factor p s (kind.Number n) e l = record { factor = factor.Number n; is_factor = small n e; sum = before p (lead_of s) (term_with s (factor.Number n)) (kind.Number n) e (left_behind p s (factor.Number n) l) }
  at_factor p s (kind.Name name) e l = at_variable p s name e (position (bytes_eq name) names) refl l
  at_factor p s _ e l = absurd l

  at_digits : (p : Purpose) (s : Slot) (k : Kind) → word.kind ≡ k → LeftOf (step_at (wait.Digits p s) names body word.place k) words program →
      LeftOfDigits names body p s (word ∷ words) program
  at_digits p s (kind.Number n) e l = record { number = n; small = small n e; sum = before p (lead_of s) (term_with s (factor.Negative n)) (kind.Number n) e (left_behind p s (factor.Negative n) l) }
  at_digits p s _ e l = absurd l

  -- an operator of a term, and of a sum
  at_multiplier : (p : Purpose) (l : Lead) (t : Term) (op : TermOp) → word.kind ≡ term_mark op → LeftOfFactor names body p (slot.Factor l t op) (λ follow. follow) words program →
      LeftOfSum names body p l t (λ follow. follow) (word ∷ words) program
  at_multiplier p l t op e h = record {
    multipliers = record { op = op; factor = h.factor } ∷ h.sum.multipliers;
    addends = h.sum.addends;
    rest = h.sum.rest;
    are_multipliers = (h.is_factor, h.sum.are_multipliers);
    are_addends = h.sum.are_addends;
    begins = (e, h.sum.begins);
    closes = subst (λ (s : Sum). Closes names body p.place p.target s h.sum.rest program) (factor_more l t op h.factor h.sum.multipliers h.sum.addends) h.sum.closes;
  }

  at_addend : (p : Purpose) (l : Lead) (t : Term) (op : SumOp) → word.kind ≡ sum_mark op → LeftOfFactor names body p (slot.Term (lead.After (joined l t) op)) (λ follow. follow) words program →
      LeftOfSum names body p l t (λ follow. follow) (word ∷ words) program
  at_addend p l t op e h = record {
    multipliers = [];
    addends = record { op = op; term = record { first = h.factor; rest = h.sum.multipliers } } ∷ h.sum.addends;
    rest = h.sum.rest;
    are_multipliers = tt;
    are_addends = ((h.is_factor, h.sum.are_multipliers), h.sum.are_addends);
    begins = (e, h.sum.begins);
    closes = subst (λ (s : Sum). Closes names body p.place p.target s h.sum.rest program) (addend_more l t op h.factor h.sum.multipliers h.sum.addends) h.sum.closes;
  }

  -- the end of a sum
  ended : (p : Purpose) (l : Lead) (t : Term) (rest : List Word) → Begins (close p.target) (word ∷ words) rest → Closes names body p.place p.target (joined l t) rest program →
      LeftOfSum names body p l t (λ follow. follow) (word ∷ words) program
  ended p l t rest b c = record {
    multipliers = [];
    addends = [];
    rest = rest;
    are_multipliers = tt;
    are_addends = tt;
    begins = b;
    closes = subst (λ (s : Sum). Closes names body p.place p.target s rest program) (sym (nothing_more l t)) c;
  }

  at_semicolon : (place : Place) (q : Target) (l : Lead) (t : Term) → word.kind ≡ kind.Semicolon → LeftOf (closed_for names body place q (joined l t)) words program →
      LeftOfSum names body (purpose_of place q) l t (λ follow. follow) (word ∷ words) program
  at_semicolon place (target.Declare name) l t e h =
      ended (purpose_of place (target.Declare name)) l t words (e, refl) (declared name (stmt.Declare place (Some (joined l t))) (list_any (bytes_eq name) names) refl h)
  at_semicolon place (target.Assign v) l t e h = ended (purpose_of place (target.Assign v)) l t words (e, refl) h
  at_semicolon place target.Return l t e h = ended (purpose_of place target.Return) l t words (e, refl) h
  at_semicolon place target.Print l t e h = absurd h

  at_right_paren : (place : Place) (q : Target) (l : Lead) (t : Term) → word.kind ≡ kind.RightParen → LeftOf (option_map (waiting names body) (parenthesised_for place q (joined l t))) words program →
      LeftOfSum names body (purpose_of place q) l t (λ follow. follow) (word ∷ words) program
  at_right_paren place target.Print l t e h = ended (purpose_of place target.Print) l t h.rest (e, h.begins) h.follows
  at_right_paren place _ l t e h = absurd h

  at_operator : (p : Purpose) (l : Lead) (t : Term) (k : Kind) → word.kind ≡ k → LeftOf (step_at (wait.Operator p l t) names body word.place k) words program →
      LeftOfSum names body p l t (λ follow. follow) (word ∷ words) program
  at_operator p l t kind.Plus e h = at_addend p l t sum_op.Plus e h
  at_operator p l t kind.Minus e h = at_addend p l t sum_op.Minus e h
  at_operator p l t kind.Star e h = at_multiplier p l t term_op.Times e h
  at_operator p l t kind.Slash e h = at_multiplier p l t term_op.Over e h
  at_operator p l t kind.Semicolon e h = at_semicolon p.place p.target l t e h
  at_operator p l t kind.RightParen e h = at_right_paren p.place p.target l t e h
  at_operator p l t _ e h = absurd h

  at_call_end : (place : Place) (s : Sum) (k : Kind) → word.kind ≡ k → LeftOf (step_at (wait.Semicolon place s) names body word.place k) words program → LeftOfPrint names body place s (word ∷ words) program
  at_call_end place s kind.Semicolon e l = record { rest = words; begins = (e, refl); follows = l }
  at_call_end place s _ e l = absurd l

  backward_at : (w : Wait) (k : Kind) → word.kind ≡ k → LeftOf (step_at w names body word.place k) words program → LeftAt w names body (word ∷ words) program
  backward_at (wait.Header h) k e l = at_header h k e l
  backward_at wait.Statement k e l = at_statement k e l
  backward_at (wait.Name place) k e l = at_declared_name place k e l
  backward_at (wait.Initial place name) k e l = at_initial place name k e l
  backward_at (wait.Equals place v) k e l = at_equals place v k e l
  backward_at (wait.Parenthesis place) k e l = at_parenthesis place k e l
  backward_at (wait.Factor p s) k e l = at_factor p s k e l
  backward_at (wait.Digits p s) k e l = at_digits p s k e l
  backward_at (wait.Operator p l t) k e h = at_operator p l t k e h
  backward_at (wait.Semicolon place s) k e l = at_call_end place s k e l
  backward_at wait.Nothing k e l = absurd l

pub backward : (r : Reader) (word : Word) (words : List Word) (program : Program) → ((n : ℕ) → word.kind ≡ kind.Number n → n ≤ 2147483647) → LeftOf (step r word) words program → Left r (word ∷ words) program
unfolding step
backward r word words program small l = backward_at r.names r.body word words program small r.wait word.kind refl l
