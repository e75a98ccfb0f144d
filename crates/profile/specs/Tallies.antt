-- The tallies of a program's edges, all of them, in order.
use Rattle.std.specs.Prelude.{◌≡◌, ℕ, zero, suc, nat_lt, ◌==◌, ◌&&◌, Bool, true, false, if◌then◌else◌, ◌+◌, List, [], ◌∷◌, ◌++◌, Option, Some, None, map, filter, length, slice_get, ◌<◌}
use Rattle.tac_core.specs.declared.code.End.{End}
use Rattle.tac_core.specs.declared.code.End.TheVariants.{Jump, Branch, Call, Ret}
use Rattle.tac_core.specs.declared.code.Block.{Block}
use Rattle.tac_core.specs.declared.code.TacFunc.{TacFunc}
use Rattle.tac_core.specs.declared.edges.Edge.{Edge}
use Rattle.tac_core.specs.declared.counts.FuncCounts.{FuncCounts}
use Rattle.std.specs.List.{All}
use Rattle.tac_core.specs.Program.{Program}
use Rattle.tac_core.specs.Meaning.{State}
use Rattle.tac_core.specs.Counts.{IsCount, Rise, HasEdge, edge_count, edges_of, entries_of}
use Rattle.profile.specs.Counting.{Crossing, held, crossed, entered, crossings, entries}

-- the targets of an end, the lower label first
abbrev pub targets : End → List ℕ
targets (Jump l) = l ∷ []
targets (Branch r y n) = if nat_lt y n then y ∷ n ∷ [] else n ∷ y ∷ []
targets (Call d f args l) = l ∷ []
targets (Ret r) = []

abbrev pub untaken : (from : ℕ) → ℕ → Edge
untaken from to = record { from = from; to = to; count = 0 }

-- the edges of blocks, the first of which has this label, none of them taken
abbrev pub edges_from : (label : ℕ) → List Block → List Edge
edges_from label [] = []
edges_from label (b ∷ blocks) = map (untaken label) (targets b.«end») ++ edges_from (suc label) blocks

abbrev pub no_tallies : TacFunc → FuncCounts
no_tallies f = record { entries = 0; edges = edges_from 0 f.blocks }

-- one more where the test holds, up to the last value
abbrev pub raised : Bool → ℕ → ℕ
raised true n = held (n + 1)
raised false n = n

abbrev pub is_edge : (from to : ℕ) → Edge → Bool
is_edge from to e = (e.from == from) && (e.to == to)

abbrev pub crossed_edge : (from to : ℕ) → Edge → Edge
crossed_edge from to e = record { from = e.from; to = e.to; count = raised (is_edge from to e) e.count }

abbrev pub crossed_func : (from to : ℕ) → FuncCounts → FuncCounts
crossed_func from to c = record { entries = c.entries; edges = map (crossed_edge from to) c.edges }

abbrev pub entered_func : FuncCounts → FuncCounts
entered_func c = record { entries = held (c.entries + 1); edges = c.edges }

-- one element of the list is another
abbrev pub with_at : (FuncCounts → FuncCounts) → ℕ → List FuncCounts → List FuncCounts
with_at change n [] = []
with_at change zero (c ∷ cs) = change c ∷ cs
with_at change (suc n) (c ∷ cs) = c ∷ with_at change n cs

abbrev pub tallied_crossing : Option Crossing → List FuncCounts → List FuncCounts
tallied_crossing None table = table
tallied_crossing (Some c) table = with_at (crossed_func c.from c.to) c.func table

abbrev pub tallied_entry : Option ℕ → List FuncCounts → List FuncCounts
tallied_entry None table = table
tallied_entry (Some f) table = with_at entered_func f table

-- the table behind the step from a state
abbrev pub tallied : List TacFunc → State → List FuncCounts → List FuncCounts
tallied funcs s table = tallied_entry (entered funcs s) (tallied_crossing (crossed funcs s) table)

-- each edge as if it had not been taken
abbrev pub shape_of : FuncCounts → List Edge
shape_of c = map (λ e. untaken e.from e.to) c.edges

-- the table has the edges of the functions, each once and in order
abbrev pub IsTableOf : List TacFunc → List FuncCounts → Type 0
IsTableOf funcs table = map shape_of table ≡ map (λ f. edges_from 0 f.blocks) funcs

abbrev pub was_taken : Edge → Bool
was_taken e = nat_lt 0 e.count

-- the edges that were taken
abbrev pub taken_of : FuncCounts → FuncCounts
taken_of c = record { entries = c.entries; edges = filter was_taken c.edges }

-- what the counts of a function keep while it runs
pub record AreTallies (c : FuncCounts) : Type 0 where
  pub entered : IsCount c.entries
  pub taken : All (λ e. IsCount e.count) c.edges
  pub rise : Rise c.edges

-- the table of a run of n steps: it has all edges, and each count is held at the last value
pub record IsTallied (p : Program) (input : List ℕ) (n : ℕ) (table : List FuncCounts) : Type 0 where
  pub shape : IsTableOf p.funcs table
  pub entered_so : (f : ℕ) → f < length p.funcs → entries_of (slice_get table f) ≡ held (entries p input n f)
  pub taken_so : (f : ℕ) (func : TacFunc) (a b : ℕ) → slice_get p.funcs f ≡ Some func → HasEdge func a b → edge_count a b (edges_of (slice_get table f)) ≡ held (crossings p input n f a b)
