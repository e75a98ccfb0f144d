-- How often the edges of a program were taken and its functions were entered.
use Rattle.std.specs.Prelude.{◌≡◌, ℕ, ◌<◌, ◌==◌, nat_lt, ◌&&◌, ◌||◌, if◌then◌else◌, Bool, true, ◌⊎◌, List, [], ◌∷◌, Option, Some, None, length, slice_get, slice_index_or}
use Rattle.std.specs.List.{All, AllPairs}
use Rattle.tac_core.specs.declared.code.End.{End}
use Rattle.tac_core.specs.declared.code.End.TheVariants.{Jump, Branch, Call, Ret}
use Rattle.tac_core.specs.declared.code.Block.{Block}
use Rattle.tac_core.specs.declared.code.TacFunc.{TacFunc}
use Rattle.tac_core.specs.declared.edges.Edge.{Edge}
use Rattle.tac_core.specs.declared.counts.FuncCounts.{FuncCounts}
use Rattle.tac_core.specs.Program.{Program}

-- the edge from a to b comes before the one from c to d
abbrev pub is_before : (a b c d : ℕ) → Bool
is_before a b c d = nat_lt a c || ((a == c) && nat_lt b d)

-- each edge comes before all later ones
abbrev pub Rise : List Edge → Type 0
Rise edges = AllPairs (λ e f. is_before e.from e.to f.from f.to ≡ true) edges

-- a count stays at the last value below 2 ^ 63
abbrev pub IsCount : ℕ → Type 0
IsCount count = count < 9223372036854775808

-- the counts of a function: its edges with counts above 0, each once, by rising from, then to
pub record AreCounts (c : FuncCounts) : Type 0 where
  pub entered : IsCount c.entries
  pub taken : All (λ e. (0 < e.count) × IsCount e.count) c.edges
  pub rise : Rise c.edges

-- it leads from a to b
abbrev pub is_edge : (a b : ℕ) → Edge → Bool
is_edge a b e = (e.from == a) && (e.to == b)

abbrev pub edge_count : (a b : ℕ) → List Edge → ℕ
edge_count a b [] = 0
edge_count a b (e ∷ es) = if is_edge a b e then e.count else edge_count a b es

-- the count that an edge at some place gives
abbrev pub count_at : (a b : ℕ) → Option Edge → ℕ
count_at a b None = 0
count_at a b (Some e) = if is_edge a b e then e.count else 0

abbrev pub edges_of : Option FuncCounts → List Edge
edges_of None = []
edges_of (Some c) = c.edges

abbrev pub entries_of : Option FuncCounts → ℕ
entries_of None = 0
entries_of (Some c) = c.entries

abbrev pub no_counts : TacFunc → FuncCounts
no_counts f = record { entries = 0; edges = [] }

-- the label is one of the end's targets
abbrev pub IsTargetOf : End → ℕ → Type 0
IsTargetOf (Jump l) t = t ≡ l
IsTargetOf (Branch r y n) t = (t ≡ y) ⊎ (t ≡ n)
IsTargetOf (Call d f args l) t = t ≡ l
IsTargetOf (Ret r) t = ⊥

abbrev pub LeadsTo : Option Block → ℕ → Type 0
LeadsTo None t = ⊥
LeadsTo (Some b) t = IsTargetOf b.«end» t

-- the function has this edge
abbrev pub HasEdge : TacFunc → (a b : ℕ) → Type 0
HasEdge f a b = LeadsTo (slice_get f.blocks a) b

abbrev pub HasEdges : TacFunc → List Edge → Type 0
HasEdges f edges = All (λ e. HasEdge f e.from e.to) edges

-- there are counts for each of the functions, and only of edges that are there
pub record AreOfFuncs (counts : List FuncCounts) (funcs : List TacFunc) : Type 0 where
  pub many : length counts ≡ length funcs
  pub there : (k : ℕ) (c : FuncCounts) (f : TacFunc) → k < length counts → HasEdges (slice_index_or funcs k f) (slice_index_or counts k c).edges

abbrev pub AreOf : List FuncCounts → Program → Type 0
AreOf counts p = AreOfFuncs counts p.funcs
