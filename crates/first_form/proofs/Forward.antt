-- What the words that are left have to be, behind the first of them.
use Rattle.std.proofs.Common.{◌≡◌, ℕ, Bool, false, List, [], ◌∷◌, ◌++◌, length, ap, sym, ◌∙◌, subst, cond, bytes_eq, Option, Some, None, append-nil}
use Rattle.std.specs.List.{list_any}
use Rattle.std.specs.Option.{option_map}
use Rattle.ib_meaning.specs.declared.place.Place.{Place}
use Rattle.first_form.specs.declared.program.SumOp.{SumOp}
use Rattle.first_form.specs.declared.program.SumOp.TheVariants as sum_op
use Rattle.first_form.specs.declared.program.TermOp.{TermOp}
use Rattle.first_form.specs.declared.program.TermOp.TheVariants as term_op
use Rattle.first_form.specs.declared.program.Factor.{Factor}
use Rattle.first_form.specs.declared.program.Factor.TheVariants as factor
use Rattle.first_form.specs.declared.program.Multiplier.{Multiplier}
use Rattle.first_form.specs.declared.program.Addend.{Addend}
use Rattle.first_form.specs.declared.program.Term.{Term}
use Rattle.first_form.specs.declared.program.Sum.{Sum}
use Rattle.first_form.specs.declared.program.Stmt.{Stmt}
use Rattle.first_form.specs.declared.program.Stmt.TheVariants as stmt
use Rattle.first_form.specs.declared.program.Program.{Program}
use Rattle.first_form.specs.declared.kind.Word.{Word}
use Rattle.first_form.specs.declared.kind.Kind.{Kind}
use Rattle.first_form.specs.declared.kind.Kind.TheVariants as kind
use Rattle.first_form.specs.declared.reader.Reader.{Reader}
use Rattle.first_form.specs.declared.reader.Wait.{Wait}
use Rattle.first_form.specs.declared.reader.Wait.TheVariants as wait
use Rattle.first_form.specs.declared.reader.Header.{Header}
use Rattle.first_form.specs.declared.reader.Header.TheVariants as header
use Rattle.first_form.specs.declared.reader.Target.{Target}
use Rattle.first_form.specs.declared.reader.Target.TheVariants as target
use Rattle.first_form.specs.declared.reader.Purpose.{Purpose}
use Rattle.first_form.specs.declared.reader.Lead.{Lead}
use Rattle.first_form.specs.declared.reader.Lead.TheVariants as lead
use Rattle.first_form.specs.declared.reader.Slot.{Slot}
use Rattle.first_form.specs.declared.reader.Slot.TheVariants as slot
use Rattle.first_form.specs.Spelled.{Names, Kinds, name_at, sum_mark, term_mark, factor_before, multipliers_before, addends_before, sum_before, Begins}
use Rattle.first_form.specs.FirstForm.{IsFactor, AreMultipliers, AreAddends, IsSum, IsValue, AreStatements, value_before}
use Rattle.first_form.specs.Reading.{joined, behind_factor, waiting, with_declaration, step_at, step}
use Rattle.first_form.specs.Left.{AreVariables, LeftOfBody, close, Closes, extended, lengthened, LeftOfSum, lead_of, term_with, LeftOfFactor, LeftOfDeclaration, LeftOfHeader, purpose_of, LeftAt, Left, LeftOf}
use Rattle.first_form.proofs.StepLemmas.{nothing_more, factor_more, addend_more, behind_left, name_more, stmt_more}

module _ (names : Names) (body : List Stmt) (word : Word) (words : List Word) (program : Program) where
  -- the kind of the word is known
  by_kind : (w : Wait) (k : Kind) →
      word.kind ≡ k → LeftOf (step_at w names body word.place k) words program → LeftOf (step_at w names body word.place word.kind) words program
  by_kind w k e h =
      subst (λ (j : Kind). LeftOf (step_at w names body word.place j) words program) (sym e) h

  at_header : (h : Header) →
      LeftOfHeader names body h (word ∷ words) program → LeftOf (step_at (wait.Header h) names body word.place word.kind) words program
  at_header header.Int l = by_kind (wait.Header header.Int) kind.Int l.begins.0 (record { rest = l.rest; begins = l.begins.1; follows = l.follows })
  at_header header.Main l = by_kind (wait.Header header.Main) kind.Main l.begins.0 (record { rest = l.rest; begins = l.begins.1; follows = l.follows })
  at_header header.LeftParen l = by_kind (wait.Header header.LeftParen) kind.LeftParen l.begins.0 (record { rest = l.rest; begins = l.begins.1; follows = l.follows })
  at_header header.Void l = by_kind (wait.Header header.Void) kind.Void l.begins.0 (record { rest = l.rest; begins = l.begins.1; follows = l.follows })
  at_header header.RightParen l = by_kind (wait.Header header.RightParen) kind.RightParen l.begins.0 (record { rest = l.rest; begins = l.begins.1; follows = l.follows })
  at_header header.LeftBrace l =
      by_kind (wait.Header header.LeftBrace) kind.LeftBrace l.begins.0 (subst (λ (ws : List Word). LeftOfBody names body ws program) (sym l.begins.1) l.follows)

  -- a statement's first word
  program_is : program.names ≡ names → program.body ≡ body → program ≡ record { names = names; body = body }
  program_is e q = ap (λ (ns : Names). record { names = ns; body = program.body }) e ∙ ap (λ (b : List Stmt). record { names = names; body = b }) q

  -- a sum as its first factor and what follows
  sum_left : (p : Purpose) (s : Sum) (head : Kinds → Kinds) (rest : List Word) →
      IsSum (length names) s → Begins (head (sum_before names s (close p.target))) words rest → Closes names body p.place p.target s rest program →
      LeftOfFactor names body p (slot.Term lead.First) head words program
  sum_left p s head rest i b c = record {
    factor = s.first.first;
    is_factor = i.0.0;
    sum = record { multipliers = s.first.rest; addends = s.rest; rest = rest; are_multipliers = i.0.1; are_addends = i.1; begins = b; closes = c };
  }

  at_place : {place : Place} (P : Place → Type 0) → word.place ≡ place → P place → P word.place
  at_place P e h = subst P (sym e) h

  statement_goes : AreVariables names →
      (later : Names) (more : List Stmt) → program.names ≡ names ++ later → program.body ≡ body ++ more → AreStatements names later more (word ∷ words) →
      LeftOf (step_at wait.Statement names body word.place word.kind) words program
  statement_goes vs later [] n b h =
      by_kind wait.Statement kind.RightBrace h.1.0
      (h.1.1, program_is (n ∙ ap (λ (l : Names). names ++ l) h.0 ∙ append-nil names) (b ∙ append-nil body))
  statement_goes vs later (stmt.Declare place value ∷ more) n b (name, next, rest, e, new, i, at, begins, follow) =
      by_kind wait.Statement kind.Int begins.0 (record {
        name = name;
        declaration = record {
          value = value;
          rest = rest;
          fresh = new;
          is_value = i;
          begins = begins.1;
          follows = at_place (λ (q : Place). LeftOfBody (names ++ name ∷ []) (body ++ stmt.Declare q value ∷ []) rest program) at (record {
            later = next;
            more = more;
            names_are = n ∙ ap (λ (l : Names). names ++ l) e ∙ name_more names name next;
            body_is = b ∙ stmt_more body (stmt.Declare place value) more;
            statements = follow;
          });
        };
      })
  statement_goes vs later (stmt.Assign place v s ∷ more) n b (rest, less, i, at, begins, follow) =
      by_kind wait.Statement (kind.Name (name_at names v)) begins.0
      (subst (λ (o : Option ℕ). LeftOf (option_map (waiting names body) (option_map (λ u. wait.Equals word.place u) o)) words program)
      (sym (vs.found v less))
      (at_place (λ (q : Place). LeftOfFactor names body (purpose_of q (target.Assign v)) (slot.Term lead.First) (λ follow. kind.Equals ∷ follow) words program) at
      (sum_left (purpose_of place (target.Assign v)) s (λ follow. kind.Equals ∷ follow) rest i begins.1
      (record { later = later; more = more; names_are = n; body_is = b ∙ stmt_more body (stmt.Assign place v s) more; statements = follow }))))
  statement_goes vs later (stmt.Print place s ∷ more) n b (rest, i, at, begins, follow) =
      by_kind wait.Statement kind.Putint begins.0
      (at_place (λ (q : Place). LeftOfFactor names body (purpose_of q target.Print) (slot.Term lead.First) (λ follow. kind.LeftParen ∷ follow) words program) at
      (sum_left (purpose_of place target.Print) s (λ follow. kind.LeftParen ∷ follow) rest i begins.1
      (record { later = later; more = more; names_are = n; body_is = b ∙ stmt_more body (stmt.Print place s) more; statements = follow })))
  statement_goes vs later (stmt.Return place s ∷ more) n b (rest, i, at, begins, follow) =
      by_kind wait.Statement kind.Return begins.0
      (at_place (λ (q : Place). LeftOfFactor names body (purpose_of q target.Return) (slot.Term lead.First) (λ follow. follow) words program) at
      (sum_left (purpose_of place target.Return) s (λ follow. follow) rest i begins.1
      (record { later = later; more = more; names_are = n; body_is = b ∙ stmt_more body (stmt.Return place s) more; statements = follow })))

  -- `;` behind a new name
  declared : (name : List ℕ) (s : Stmt) →
      list_any (bytes_eq name) names ≡ false → LeftOfBody (names ++ name ∷ []) (body ++ s ∷ []) words program → LeftOf (with_declaration names body name s) words program
  declared name s e h =
      subst (λ (t : Bool). LeftOf (cond t None (Some (waiting (names ++ name ∷ []) (body ++ s ∷ []) wait.Statement))) words program) (sym e) h

  initial_goes : (place : Place) (name : List ℕ) (value : Option Sum) (rest : List Word) →
      list_any (bytes_eq name) names ≡ false → IsValue (length names) value → Begins (value_before names value) (word ∷ words) rest →
      LeftOfBody (names ++ name ∷ []) (body ++ stmt.Declare place value ∷ []) rest program →
      LeftOf (step_at (wait.Initial place name) names body word.place word.kind) words program
  initial_goes place name None rest fresh i begins follows =
      by_kind (wait.Initial place name) kind.Semicolon begins.0
      (declared name (stmt.Declare place None) fresh (subst (λ (ws : List Word). LeftOfBody (names ++ name ∷ []) (body ++ stmt.Declare place None ∷ []) ws program) (sym begins.1) follows))
  initial_goes place name (Some s) rest fresh i begins follows =
      by_kind (wait.Initial place name) kind.Equals begins.0
      (sum_left (purpose_of place (target.Declare name)) s (λ follow. follow) rest i begins.1 (fresh, follows))

  -- a factor
  factor_goes : AreVariables names → (p : Purpose) (s : Slot) (f : Factor) → IsFactor (length names) f →
      LeftOfSum names body p (lead_of s) (term_with s f) (λ follow. factor_before names f follow) (word ∷ words) program →
      LeftOf (step_at (wait.Factor p s) names body word.place word.kind) words program
  factor_goes vs p s (factor.Variable v) less l =
      by_kind (wait.Factor p s) (kind.Name (name_at names v)) l.begins.0
      (subst (λ (o : Option ℕ). LeftOf (option_map (waiting names body) (option_map (behind_factor p s) (option_map factor.Variable o))) words program)
      (sym (vs.found v less))
      (behind_left p s (factor.Variable v) (record { multipliers = l.multipliers; addends = l.addends; rest = l.rest; are_multipliers = l.are_multipliers; are_addends = l.are_addends; begins = l.begins.1; closes = l.closes })))
  factor_goes vs p s (factor.Number n) small l =
      by_kind (wait.Factor p s) (kind.Number n) l.begins.0
      (behind_left p s (factor.Number n) (record { multipliers = l.multipliers; addends = l.addends; rest = l.rest; are_multipliers = l.are_multipliers; are_addends = l.are_addends; begins = l.begins.1; closes = l.closes }))
  factor_goes vs p s (factor.Negative n) small l =
      by_kind (wait.Factor p s) kind.Minus l.begins.0 (record {
        number = n;
        small = small;
        sum = record { multipliers = l.multipliers; addends = l.addends; rest = l.rest; are_multipliers = l.are_multipliers; are_addends = l.are_addends; begins = l.begins.1; closes = l.closes };
      })

  -- the end of a sum
  end_goes : (place : Place) (t : Target) (l : Lead) (tm : Term) (rest : List Word) →
      Begins (close t) (word ∷ words) rest → Closes names body place t (joined l tm) rest program →
      LeftOf (step_at (wait.Operator (purpose_of place t) l tm) names body word.place word.kind) words program
  end_goes place (target.Declare name) l tm rest begins c =
      by_kind (wait.Operator (purpose_of place (target.Declare name)) l tm) kind.Semicolon begins.0
      (declared name (stmt.Declare place (Some (joined l tm))) c.0 (subst (λ (ws : List Word). LeftOfBody (names ++ name ∷ []) (body ++ stmt.Declare place (Some (joined l tm)) ∷ []) ws program) (sym begins.1) c.1))
  end_goes place (target.Assign v) l tm rest begins c =
      by_kind (wait.Operator (purpose_of place (target.Assign v)) l tm) kind.Semicolon begins.0
      (subst (λ (ws : List Word). LeftOfBody names (body ++ stmt.Assign place v (joined l tm) ∷ []) ws program) (sym begins.1) c)
  end_goes place target.Return l tm rest begins c =
      by_kind (wait.Operator (purpose_of place target.Return) l tm) kind.Semicolon begins.0
      (subst (λ (ws : List Word). LeftOfBody names (body ++ stmt.Return place (joined l tm) ∷ []) ws program) (sym begins.1) c)
  end_goes place target.Print l tm rest begins c =
      by_kind (wait.Operator (purpose_of place target.Print) l tm) kind.RightParen begins.0
      (record { rest = rest; begins = begins.1; follows = c })

  -- an operator of a term
  multiplier_goes : (p : Purpose) (l : Lead) (t : Term) (op : TermOp) (f : Factor) (ms : List Multiplier) (more : List Addend) (rest : List Word) →
      IsFactor (length names) f → AreMultipliers (length names) ms → AreAddends (length names) more →
      Begins (term_mark op ∷ factor_before names f (multipliers_before names ms (addends_before names more (close p.target)))) (word ∷ words) rest →
      Closes names body p.place p.target (extended l (lengthened t (record { op = op; factor = f } ∷ ms)) more) rest program →
      LeftOf (step_at (wait.Operator p l t) names body word.place word.kind) words program
  multiplier_goes p l t op f ms more rest i is js begins c = by_op op begins left
    where
      left : LeftOfFactor names body p (slot.Factor l t op) (λ follow. follow) words program
      left = record {
        factor = f;
        is_factor = i;
        sum = record {
          multipliers = ms;
          addends = more;
          rest = rest;
          are_multipliers = is;
          are_addends = js;
          begins = begins.1;
          closes = subst (λ (s : Sum). Closes names body p.place p.target s rest program) (sym (factor_more l t op f ms more)) c;
        };
      }

      by_op : (o : TermOp) → Begins (term_mark o ∷ factor_before names f (multipliers_before names ms (addends_before names more (close p.target)))) (word ∷ words) rest →
          LeftOfFactor names body p (slot.Factor l t o) (λ follow. follow) words program → LeftOf (step_at (wait.Operator p l t) names body word.place word.kind) words program
      by_op term_op.Times b h = by_kind (wait.Operator p l t) kind.Star b.0 h
      by_op term_op.Over b h = by_kind (wait.Operator p l t) kind.Slash b.0 h

  -- an operator of a sum
  addend_goes : (p : Purpose) (l : Lead) (t : Term) (op : SumOp) (f : Factor) (ms : List Multiplier) (more : List Addend) (rest : List Word) →
      IsFactor (length names) f → AreMultipliers (length names) ms → AreAddends (length names) more →
      Begins (sum_mark op ∷ factor_before names f (multipliers_before names ms (addends_before names more (close p.target)))) (word ∷ words) rest →
      Closes names body p.place p.target (extended l (lengthened t []) (record { op = op; term = record { first = f; rest = ms } } ∷ more)) rest program →
      LeftOf (step_at (wait.Operator p l t) names body word.place word.kind) words program
  addend_goes p l t op f ms more rest i is js begins c = by_op op begins left
    where
      left : LeftOfFactor names body p (slot.Term (lead.After (joined l t) op)) (λ follow. follow) words program
      left = record {
        factor = f;
        is_factor = i;
        sum = record {
          multipliers = ms;
          addends = more;
          rest = rest;
          are_multipliers = is;
          are_addends = js;
          begins = begins.1;
          closes = subst (λ (s : Sum). Closes names body p.place p.target s rest program) (sym (addend_more l t op f ms more)) c;
        };
      }

      by_op : (o : SumOp) → Begins (sum_mark o ∷ factor_before names f (multipliers_before names ms (addends_before names more (close p.target)))) (word ∷ words) rest →
          LeftOfFactor names body p (slot.Term (lead.After (joined l t) o)) (λ follow. follow) words program → LeftOf (step_at (wait.Operator p l t) names body word.place word.kind) words program
      by_op sum_op.Plus b h = by_kind (wait.Operator p l t) kind.Plus b.0 h
      by_op sum_op.Minus b h = by_kind (wait.Operator p l t) kind.Minus b.0 h

  operator_goes : (p : Purpose) (l : Lead) (t : Term) (ms : List Multiplier) (more : List Addend) (rest : List Word) →
      AreMultipliers (length names) ms → AreAddends (length names) more →
      Begins (multipliers_before names ms (addends_before names more (close p.target))) (word ∷ words) rest →
      Closes names body p.place p.target (extended l (lengthened t ms) more) rest program →
      LeftOf (step_at (wait.Operator p l t) names body word.place word.kind) words program
  operator_goes p l t (m ∷ ms) more rest is js begins c = multiplier_goes p l t m.op m.factor ms more rest is.0 is.1 js begins c
  operator_goes p l t [] (a ∷ more) rest is js begins c = addend_goes p l t a.op a.term.first a.term.rest more rest js.0.0 js.0.1 js.1 begins c
  operator_goes p l t [] [] rest is js begins c =
      end_goes p.place p.target l t rest begins (subst (λ (s : Sum). Closes names body p.place p.target s rest program) (nothing_more l t) c)

  -- a mark before a sum
  behind_mark : (p : Purpose) (mark : Kind) →
      LeftOfFactor names body p (slot.Term lead.First) (λ follow. mark ∷ follow) (word ∷ words) program → LeftOfFactor names body p (slot.Term lead.First) (λ follow. follow) words program
  behind_mark p mark l = record { factor = l.factor; is_factor = l.is_factor; sum = record { multipliers = l.sum.multipliers; addends = l.sum.addends; rest = l.sum.rest; are_multipliers = l.sum.are_multipliers; are_addends = l.sum.are_addends; begins = l.sum.begins.1; closes = l.sum.closes } }

  -- a new name
  behind_name : (place : Place) (name : List ℕ) →
      LeftOfDeclaration names body place name (λ follow. kind.Name name ∷ follow) (word ∷ words) program → LeftOfDeclaration names body place name (λ follow. follow) words program
  behind_name place name l = record { value = l.value; rest = l.rest; fresh = l.fresh; is_value = l.is_value; begins = l.begins.1; follows = l.follows }

  -- the words that are left, behind the first
  forward_at : (w : Wait) → AreVariables names →
      LeftAt w names body (word ∷ words) program → LeftOf (step_at w names body word.place word.kind) words program
  forward_at (wait.Header h) vs l = at_header h l
  forward_at wait.Statement vs l = statement_goes vs l.later l.more l.names_are l.body_is l.statements
  forward_at (wait.Name place) vs l = let d = l.declaration in
      by_kind (wait.Name place) (kind.Name l.name) d.begins.0 (behind_name place l.name d)
  forward_at (wait.Initial place name) vs l = initial_goes place name l.value l.rest l.fresh l.is_value l.begins l.follows
  forward_at (wait.Equals place v) vs l =
      by_kind (wait.Equals place v) kind.Equals l.sum.begins.0 (behind_mark (purpose_of place (target.Assign v)) (kind.Equals) l)
  forward_at (wait.Parenthesis place) vs l =
      by_kind (wait.Parenthesis place) kind.LeftParen l.sum.begins.0 (behind_mark (purpose_of place target.Print) (kind.LeftParen) l)
  forward_at (wait.Factor p s) vs l = factor_goes vs p s l.factor l.is_factor l.sum
  forward_at (wait.Digits p s) vs l =
      by_kind (wait.Digits p s) (kind.Number l.number) l.sum.begins.0
      (behind_left p s (factor.Negative l.number) (record { multipliers = l.sum.multipliers; addends = l.sum.addends; rest = l.sum.rest; are_multipliers = l.sum.are_multipliers; are_addends = l.sum.are_addends; begins = l.sum.begins.1; closes = l.sum.closes }))
  forward_at (wait.Operator p l t) vs h = operator_goes p l t h.multipliers h.addends h.rest h.are_multipliers h.are_addends h.begins h.closes
  forward_at (wait.Semicolon place s) vs l =
      by_kind (wait.Semicolon place s) kind.Semicolon l.begins.0
      (subst (λ (ws : List Word). LeftOfBody names (body ++ stmt.Print place s ∷ []) ws program) (sym l.begins.1) l.follows)
  forward_at wait.Nothing vs l = absurd (cc)

pub forward : (r : Reader) (word : Word) (words : List Word) (program : Program) → AreVariables r.names → Left r (word ∷ words) program → LeftOf (step r word) words program
unfolding step
forward r word words program vs l = forward_at r.names r.body word words program r.wait vs l
