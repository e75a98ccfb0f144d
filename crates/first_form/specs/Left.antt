-- What the words that are left have to be, so that a program has been read.
use Rattle.std.specs.Prelude.{◌≡◌, ℕ, ◌<◌, ◌≤◌, List, [], ◌∷◌, ◌++◌, length, Option, Some, None, false, bytes_eq, position}
use Rattle.std.specs.List.{list_any}
use Rattle.ib_meaning.specs.declared.place.Place.{Place}
use Rattle.first_form.specs.declared.program.Factor.{Factor}
use Rattle.first_form.specs.declared.program.Factor.TheVariants as factor
use Rattle.first_form.specs.declared.program.Multiplier.{Multiplier}
use Rattle.first_form.specs.declared.program.Addend.{Addend}
use Rattle.first_form.specs.declared.program.Term.{Term}
use Rattle.first_form.specs.declared.program.Sum.{Sum}
use Rattle.first_form.specs.declared.program.Stmt.{Stmt}
use Rattle.first_form.specs.declared.program.Stmt.TheVariants as stmt
use Rattle.first_form.specs.declared.program.Program.{Program}
use Rattle.first_form.specs.declared.kind.Kind.TheVariants as kind
use Rattle.first_form.specs.declared.kind.Word.{Word}
use Rattle.first_form.specs.declared.reader.Reader.{Reader}
use Rattle.first_form.specs.declared.reader.Wait.{Wait}
use Rattle.first_form.specs.declared.reader.Wait.TheVariants as wait
use Rattle.first_form.specs.declared.reader.Header.{Header}
use Rattle.first_form.specs.declared.reader.Header.TheVariants as header
use Rattle.first_form.specs.declared.reader.Target.{Target}
use Rattle.first_form.specs.declared.reader.Target.TheVariants as target
use Rattle.first_form.specs.declared.reader.Purpose.{Purpose}
use Rattle.first_form.specs.declared.reader.Lead.{Lead}
use Rattle.first_form.specs.declared.reader.Lead.TheVariants as lead
use Rattle.first_form.specs.declared.reader.Slot.{Slot}
use Rattle.first_form.specs.declared.reader.Slot.TheVariants as slot
use Rattle.first_form.specs.Spelled.{Names, Kinds, name_at, factor_before, multipliers_before, addends_before, Begins}
use Rattle.first_form.specs.FirstForm.{IsFactor, AreMultipliers, AreAddends, IsValue, AreStatements, value_before}
use Rattle.first_form.specs.Reading.{multiplied}

-- each name is found at its own number
pub record AreVariables (names : Names) : Type 0 where
  pub found : (v : ℕ) → v < length names → position (bytes_eq (name_at names v)) names ≡ Some v

-- the words are the statements that follow these
pub record LeftOfBody (names : Names) (body : List Stmt) (words : List Word) (program : Program) : Type 0 where
  pub later : Names
  pub more : List Stmt
  pub names_are : program.names ≡ names ++ later
  pub body_is : program.body ≡ body ++ more
  pub statements : AreStatements names later more words

-- what closes a sum
abbrev pub close : Target → Kinds
close target.Print = kind.RightParen ∷ kind.Semicolon ∷ []
close _ = kind.Semicolon ∷ []

-- behind the statement that the sum makes the words are the rest of the program
abbrev pub Closes : Names → List Stmt → Place → Target → Sum → List Word → Program → Type 0
Closes names body place (target.Declare name) s rest program =
    (list_any (bytes_eq name) names ≡ false) × LeftOfBody (names ++ name ∷ []) (body ++ stmt.Declare place (Some s) ∷ []) rest program
Closes names body place (target.Assign v) s rest program = LeftOfBody names (body ++ stmt.Assign place v s ∷ []) rest program
Closes names body place target.Print s rest program = LeftOfBody names (body ++ stmt.Print place s ∷ []) rest program
Closes names body place target.Return s rest program = LeftOfBody names (body ++ stmt.Return place s ∷ []) rest program

-- a sum of what stands before a term, the term, and more addends
abbrev pub extended : Lead → Term → List Addend → Sum
extended lead.First t more = record { first = t; rest = more }
extended (lead.After s op) t more = record { first = s.first; rest = s.rest ++ record { op = op; term = t } ∷ more }

abbrev pub lengthened : Term → List Multiplier → Term
lengthened t more = record { first = t.first; rest = t.rest ++ more }

-- the words are `head`, more of the term and of the sum, and what follows
pub record LeftOfSum (names : Names) (body : List Stmt) (p : Purpose) (l : Lead) (t : Term) (head : Kinds → Kinds) (words : List Word) (program : Program) : Type 0 where
  pub multipliers : List Multiplier
  pub addends : List Addend
  pub rest : List Word
  pub are_multipliers : AreMultipliers (length names) multipliers
  pub are_addends : AreAddends (length names) addends
  pub begins : Begins (head (multipliers_before names multipliers (addends_before names addends (close p.target)))) words rest
  pub closes : Closes names body p.place p.target (extended l (lengthened t multipliers) addends) rest program

abbrev pub lead_of : Slot → Lead
lead_of (slot.Term l) = l
lead_of (slot.Factor l t op) = l

abbrev pub term_with : Slot → Factor → Term
term_with (slot.Term l) f = record { first = f; rest = [] }
term_with (slot.Factor l t op) f = multiplied t op f

-- the words are `head`, a factor, and more of a sum
pub record LeftOfFactor (names : Names) (body : List Stmt) (p : Purpose) (s : Slot) (head : Kinds → Kinds) (words : List Word) (program : Program) : Type 0 where
  pub factor : Factor
  pub is_factor : IsFactor (length names) factor
  pub sum : LeftOfSum names body p (lead_of s) (term_with s factor) (λ follow. head (factor_before names factor follow)) words program

-- the words are the number of a `-`, and more of a sum
pub record LeftOfDigits (names : Names) (body : List Stmt) (p : Purpose) (s : Slot) (words : List Word) (program : Program) : Type 0 where
  pub number : ℕ
  pub small : number ≤ 2147483647
  pub sum : LeftOfSum names body p (lead_of s) (term_with s (factor.Negative number)) (λ follow. kind.Number number ∷ follow) words program

-- the words are `head`, and the value of a declaration
pub record LeftOfDeclaration (names : Names) (body : List Stmt) (place : Place) (name : List ℕ) (head : Kinds → Kinds) (words : List Word) (program : Program) : Type 0 where
  pub value : Option Sum
  pub rest : List Word
  pub fresh : list_any (bytes_eq name) names ≡ false
  pub is_value : IsValue (length names) value
  pub begins : Begins (head (value_before names value)) words rest
  pub follows : LeftOfBody (names ++ name ∷ []) (body ++ stmt.Declare place value ∷ []) rest program

pub record LeftOfName (names : Names) (body : List Stmt) (place : Place) (words : List Word) (program : Program) : Type 0 where
  pub name : List ℕ
  pub declaration : LeftOfDeclaration names body place name (λ follow. kind.Name name ∷ follow) words program

pub record LeftOfPrint (names : Names) (body : List Stmt) (place : Place) (value : Sum) (words : List Word) (program : Program) : Type 0 where
  pub rest : List Word
  pub begins : Begins (kind.Semicolon ∷ []) words rest
  pub follows : LeftOfBody names (body ++ stmt.Print place value ∷ []) rest program

abbrev pub header_from : Header → Kinds
header_from header.Int = kind.Int ∷ kind.Main ∷ kind.LeftParen ∷ kind.Void ∷ kind.RightParen ∷ kind.LeftBrace ∷ []
header_from header.Main = kind.Main ∷ kind.LeftParen ∷ kind.Void ∷ kind.RightParen ∷ kind.LeftBrace ∷ []
header_from header.LeftParen = kind.LeftParen ∷ kind.Void ∷ kind.RightParen ∷ kind.LeftBrace ∷ []
header_from header.Void = kind.Void ∷ kind.RightParen ∷ kind.LeftBrace ∷ []
header_from header.RightParen = kind.RightParen ∷ kind.LeftBrace ∷ []
header_from header.LeftBrace = kind.LeftBrace ∷ []

pub record LeftOfHeader (names : Names) (body : List Stmt) (h : Header) (words : List Word) (program : Program) : Type 0 where
  pub rest : List Word
  pub begins : Begins (header_from h) words rest
  pub follows : LeftOfBody names body rest program

abbrev pub purpose_of : Place → Target → Purpose
purpose_of place t = record { place = place; target = t }

abbrev pub LeftAt : Wait → Names → List Stmt → List Word → Program → Type 0
LeftAt (wait.Header h) names body words program = LeftOfHeader names body h words program
LeftAt wait.Statement names body words program = LeftOfBody names body words program
LeftAt (wait.Name place) names body words program = LeftOfName names body place words program
LeftAt (wait.Initial place name) names body words program = LeftOfDeclaration names body place name (λ follow. follow) words program
LeftAt (wait.Equals place v) names body words program = LeftOfFactor names body (purpose_of place (target.Assign v)) (slot.Term lead.First) (λ follow. kind.Equals ∷ follow) words program
LeftAt (wait.Parenthesis place) names body words program = LeftOfFactor names body (purpose_of place target.Print) (slot.Term lead.First) (λ follow. kind.LeftParen ∷ follow) words program
LeftAt (wait.Factor p s) names body words program = LeftOfFactor names body p s (λ follow. follow) words program
LeftAt (wait.Digits p s) names body words program = LeftOfDigits names body p s words program
LeftAt (wait.Operator p l t) names body words program = LeftOfSum names body p l t (λ follow. follow) words program
LeftAt (wait.Semicolon place s) names body words program = LeftOfPrint names body place s words program
LeftAt wait.Nothing names body words program = (words ≡ []) × (program ≡ record { names = names; body = body })

-- the words are those that complete the program, which the reader has read so far
abbrev pub Left : Reader → List Word → Program → Type 0
Left r words program = LeftAt r.wait r.names r.body words program

-- the same of the reader behind a word, if the word may come
abbrev pub LeftOf : Option Reader → List Word → Program → Type 0
LeftOf None words program = ⊥
LeftOf (Some r) words program = Left r words program
