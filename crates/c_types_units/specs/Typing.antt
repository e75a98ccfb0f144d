-- What `check` says of a source's tree: its program, or what is wrong with it.
use Rattle.std.specs.Prelude.{◌≡◌, ◌⊎◌, false, List, [], ◌∷◌, ⊤}
use Rattle.c_ast.specs.Trees as c
use Rattle.c_typed.specs.Program.{Program}
use Rattle.c_types_operators.specs.declared.rule.Breach.{Breach}
use Rattle.c_types_operators.specs.Rules.{first_of, goes_before, Judged, Fine, Broken}
use Rattle.c_program.specs.declared.error.CheckErr.{CheckErr}
use Rattle.c_program.specs.declared.error.CheckErr.TheVariants.{Rule, Globals, Frame, NoMemory}
use Rattle.c_program.specs.Limits.{program_of, Limited, limited, Refuses}
use Rattle.c_types_statements.specs.Statements.{At}
use Rattle.c_types_units.specs.Units.{Parts, judged, file_start, past_items}

-- the program of a source that breaks no rule
abbrev pub program_from : Parts → At → Program
program_from parts behind = program_of parts.functions parts.globals behind.texts behind.places

-- A tree has at most one program: the relation is a function's graph.
abbrev pub IsTyped : List c.Top → Program → Type 0
IsTyped unit program = (parts : Parts) × ((judged unit ≡ Fine parts) × (program ≡ program_from parts (past_items unit file_start)))

pub data Verdict : Type 0 where
  keeps_rules : Limited → Verdict
  breaks_rule : Breach → Verdict

abbrev pub verdict_of : Judged Parts → At → Verdict
verdict_of (Broken first more) behind = breaks_rule (first_of first more)
verdict_of (Fine parts) behind = keeps_rules (limited parts.functions parts.globals behind.texts behind.places)

abbrev pub verdict : List c.Top → Verdict
verdict unit = verdict_of (judged unit) (past_items unit file_start)

-- The answer's rule and place are the breach's own, or memory was wanting.
abbrev pub IsBreach : Breach → CheckErr → Type 0
IsBreach breach (Rule rule place) = (rule ≡ breach.rule) × (place ≡ breach.place)
IsBreach breach NoMemory = ⊤
IsBreach breach error = ⊥

-- why a source has no program
abbrev pub Refused : Verdict → CheckErr → Type 0
Refused (keeps_rules said) error = Refuses said error
Refused (breaks_rule breach) error = IsBreach breach error

-- ---- the first breach

abbrev pub IsAmong : Breach → List Breach → Type 0
IsAmong x [] = ⊥
IsAmong x (y ∷ ys) = (x ≡ y) ⊎ IsAmong x ys

abbrev pub NoneBefore : Breach → List Breach → Type 0
NoneBefore x [] = ⊤
NoneBefore x (y ∷ ys) = (goes_before y x ≡ false) × NoneBefore x ys

-- one of these breaches, before which none of them goes
pub record IsFirst (found : List Breach) (first : Breach) : Type 0 where
  pub among : IsAmong first found
  pub none_before : NoneBefore first found

-- A rule that is answered is broken at its place, and none of the breaches goes before that one.
abbrev pub NamesFirst : List Breach → CheckErr → Type 0
NamesFirst found (Rule rule place) = IsFirst found (record { rule = rule; place = place })
NamesFirst found (Globals bytes) = ⊤
NamesFirst found (Frame bytes) = ⊤
NamesFirst found NoMemory = ⊤
