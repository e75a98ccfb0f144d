-- The text of a program's counts, and what a reader of such texts answers.
use Rattle.std.specs.Prelude.{◌≡◌, ℕ, ◌<◌, ◌^◌, List, [], ◌∷◌, ◌++◌, Some, None, map, length, codes, decimal}
use Rattle.std.specs.List.{All}
use Rattle.tac_core.specs.declared.code.TacFunc.{TacFunc}
use Rattle.tac_core.specs.declared.edges.Edge.{Edge}
use Rattle.tac_core.specs.declared.counts.FuncCounts.{FuncCounts}
use Rattle.tac_core.specs.Program.{Program}
use Rattle.tac_core.specs.Counts.{AreCounts, AreOf}
use Rattle.profile_text.specs.declared.error.ProfErr.{ProfErr}
use Rattle.profile_text.specs.declared.error.ProfErr.TheVariants.{Malformed, Mismatch, NoMemory}
use Rattle.profile_text.specs.Lines.{header_line, end_line}
use Rattle.profile_text.specs.Grammar.{malformed_at}
use Rattle.profile_text.specs.Matching.{mismatch_at}

-- parts with one separator between them
abbrev pub joined : (separator : ℕ) → List (List ℕ) → List ℕ
joined separator [] = []
joined separator (part ∷ []) = part
joined separator (part ∷ next ∷ parts) = part ++ separator ∷ joined separator (next ∷ parts)

-- fields with one space between them
abbrev pub spaced : List (List ℕ) → List ℕ
spaced fields = joined 32 fields

-- lines, each ended by byte 10
abbrev pub ended : List (List ℕ) → List ℕ
ended [] = []
ended (line ∷ lines) = line ++ 10 ∷ ended lines

abbrev pub edge_line : Edge → List ℕ
edge_line e = spaced (codes "edge" ∷ decimal e.from ∷ decimal e.to ∷ decimal e.count ∷ [])

abbrev pub func_line : TacFunc → FuncCounts → List ℕ
func_line f c = spaced (codes "func" ∷ f.name ∷ decimal (length f.blocks) ∷ decimal c.entries ∷ [])

-- each function's line, and behind it those of its edges
abbrev pub funcs_lines : List TacFunc → List FuncCounts → List (List ℕ)
funcs_lines [] counts = []
funcs_lines (f ∷ fs) [] = []
funcs_lines (f ∷ fs) (c ∷ cs) = func_line f c ∷ (map edge_line c.edges ++ funcs_lines fs cs)

abbrev pub profile_lines : List TacFunc → List FuncCounts → List (List ℕ)
profile_lines funcs counts = header_line ∷ (funcs_lines funcs counts ++ end_line ∷ [])

-- the text of the counts of a program
unfoldable pub profile_text : Program → List FuncCounts → List ℕ
profile_text p counts = ended (profile_lines p.funcs counts)

abbrev pub HasLabels : Edge → Type 0
HasLabels e = (e.from < 2 ^ 32) × (e.to < 2 ^ 32)

-- the bytes are the text of counts that match the program; the last two parts hold of all counts and programs that the types can hold
pub record IsProfile (p : Program) (counts : List FuncCounts) (bytes : List ℕ) : Type 0 where
  pub text : bytes ≡ profile_text p counts
  pub matches : AreOf counts p
  pub counted : All AreCounts counts
  pub labels : All (λ c. All HasLabels c.edges) counts
  pub blocks : All (λ f. length f.blocks < 2 ^ 64) p.funcs

-- why there are no counts: the first line that does not fit the grammar, or else the first that does not match the program
abbrev pub Refuses : Program → (bytes : List ℕ) → ProfErr → Type 0
Refuses p bytes (Malformed n) = malformed_at bytes ≡ Some n
Refuses p bytes (Mismatch n) = (malformed_at bytes ≡ None) × (mismatch_at p.funcs bytes ≡ Some n)
Refuses p bytes NoMemory = Unit {0}
