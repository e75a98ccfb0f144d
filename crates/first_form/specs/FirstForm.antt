-- The first form of a source: one `main` of `int` locals.
use Rattle.std.specs.Prelude.{◌≡◌, ℕ, ◌<◌, ◌≤◌, List, [], ◌∷◌, ◌++◌, length, map, Option, Some, None, false, bytes_eq}
use Rattle.std.specs.List.{list_any}
use Rattle.c_ast.specs.declared.token.Token.{Token}
use Rattle.first_form.specs.declared.program.Factor.{Factor}
use Rattle.first_form.specs.declared.program.Factor.TheVariants as factor
use Rattle.first_form.specs.declared.program.Multiplier.{Multiplier}
use Rattle.first_form.specs.declared.program.Addend.{Addend}
use Rattle.first_form.specs.declared.program.Term.{Term}
use Rattle.first_form.specs.declared.program.Sum.{Sum}
use Rattle.first_form.specs.declared.program.Stmt.{Stmt}
use Rattle.first_form.specs.declared.program.Stmt.TheVariants as stmt
use Rattle.first_form.specs.declared.program.Program.{Program}
use Rattle.first_form.specs.declared.kind.Kind.TheVariants as kind
use Rattle.first_form.specs.declared.kind.Word.{Word}
use Rattle.first_form.specs.Kinds.{word_of}
use Rattle.first_form.specs.Spelled.{Names, Kinds, name_at, sum_before, Begins, StartsAt}

-- a variable is among the first n, and a number at most 2147483647
abbrev pub IsFactor : ℕ → Factor → Type 0
IsFactor n (factor.Variable v) = v < n
IsFactor n (factor.Number k) = k ≤ 2147483647
IsFactor n (factor.Negative k) = k ≤ 2147483647

abbrev pub AreMultipliers : ℕ → List Multiplier → Type 0
AreMultipliers n [] = Unit {0}
AreMultipliers n (m ∷ ms) = IsFactor n m.factor × AreMultipliers n ms

abbrev pub IsTerm : ℕ → Term → Type 0
IsTerm n t = IsFactor n t.first × AreMultipliers n t.rest

abbrev pub AreAddends : ℕ → List Addend → Type 0
AreAddends n [] = Unit {0}
AreAddends n (a ∷ more) = IsTerm n a.term × AreAddends n more

abbrev pub IsSum : ℕ → Sum → Type 0
IsSum n s = IsTerm n s.first × AreAddends n s.rest

-- the value of a declaration, if it has one, and its `;`
abbrev pub value_before : Names → Option Sum → Kinds
value_before names None = kind.Semicolon ∷ []
value_before names (Some s) = kind.Equals ∷ sum_before names s (kind.Semicolon ∷ [])

abbrev pub IsValue : ℕ → Option Sum → Type 0
IsValue n None = Unit {0}
IsValue n (Some s) = IsSum n s

-- no earlier variable has the name
abbrev pub IsNew : Names → List ℕ → Type 0
IsNew names name = list_any (bytes_eq name) names ≡ false

-- the words are these statements and `}`; names were declared by earlier statements, and later ones are to be
abbrev pub AreStatements : Names → Names → List Stmt → List Word → Type 0
AreStatements names later [] words = (later ≡ []) × Begins (kind.RightBrace ∷ []) words []
AreStatements names later (stmt.Declare place value ∷ more) words =
    (name : List ℕ) × (rest_later : Names) × (rest : List Word)
    × (later ≡ name ∷ rest_later) × IsNew names name × IsValue (length names) value
    × StartsAt place words × Begins (kind.Int ∷ kind.Name name ∷ value_before names value) words rest
    × AreStatements (names ++ name ∷ []) rest_later more rest
AreStatements names later (stmt.Assign place v s ∷ more) words =
    (rest : List Word) × (v < length names) × IsSum (length names) s
    × StartsAt place words × Begins (kind.Name (name_at names v) ∷ kind.Equals ∷ sum_before names s (kind.Semicolon ∷ [])) words rest
    × AreStatements names later more rest
AreStatements names later (stmt.Print place s ∷ more) words =
    (rest : List Word) × IsSum (length names) s
    × StartsAt place words × Begins (kind.Putint ∷ kind.LeftParen ∷ sum_before names s (kind.RightParen ∷ kind.Semicolon ∷ [])) words rest
    × AreStatements names later more rest
AreStatements names later (stmt.Return place s ∷ more) words =
    (rest : List Word) × IsSum (length names) s
    × StartsAt place words × Begins (kind.Return ∷ sum_before names s (kind.Semicolon ∷ [])) words rest
    × AreStatements names later more rest

abbrev pub header : Kinds
header = kind.Int ∷ kind.Main ∷ kind.LeftParen ∷ kind.Void ∷ kind.RightParen ∷ kind.LeftBrace ∷ []

-- the words are this program's
pub record AreProgram (words : List Word) (program : Program) : Type 0 where
  pub body : List Word
  pub begins : Begins header words body
  pub statements : AreStatements [] program.names program.body body

-- the source's tokens as the first form sees them
abbrev pub words_of : List ℕ → List Token → List Word
words_of source tokens = map (word_of source) tokens

-- the source, which has these tokens, is in the first form, with this program
pub record IsFirstForm (source : List ℕ) (tokens : List Token) (program : Program) : Type 0 where
  pub few : length tokens ≤ 65536
  pub spelled : AreProgram (words_of source tokens) program
