-- Whether the lines of a profile file match a program, and the counts that they give.
use Rattle.std.specs.Prelude.{ℕ, suc, nat_lt, ◌==◌, ◌&&◌, ◌||◌, Bool, false, if◌then◌else◌, List, [], ◌∷◌, Option, Some, None, length, map, slice_get, bytes_eq}
use Rattle.tac_core.specs.declared.code.End as code_end
use Rattle.tac_core.specs.declared.code.End.TheVariants.{Jump, Branch, Call, Ret}
use Rattle.tac_core.specs.declared.code.Block.{Block}
use Rattle.tac_core.specs.declared.code.TacFunc.{TacFunc}
use Rattle.tac_core.specs.declared.edges.Edge as counted
use Rattle.tac_core.specs.declared.counts.FuncCounts.{FuncCounts}
use Rattle.profile_text.specs.declared.line.Line.{Line}
use Rattle.profile_text.specs.declared.line.Line.TheVariants.{Header, Func, Edge, End, Other}
use Rattle.profile_text.specs.Lines.{parts, line_of}

abbrev pub is_target : code_end.End → ℕ → Bool
is_target (Jump l) t = t == l
is_target (Branch r y n) t = (t == y) || (t == n)
is_target (Call d f args l) t = t == l
is_target (Ret r) t = false

abbrev pub leads_to : Option Block → ℕ → Bool
leads_to None t = false
leads_to (Some b) t = is_target b.«end» t

-- labels are numbers of 32 bits
abbrev pub is_label : ℕ → Bool
is_label n = nat_lt n 4294967296

-- the function has the edge
abbrev pub has_edge : Option TacFunc → (from to : ℕ) → Bool
has_edge None from to = false
has_edge (Some f) from to = is_label from && is_label to && leads_to (slice_get f.blocks from) to

-- a function's line names this function
abbrev pub is_func : TacFunc → (name : List ℕ) → (blocks : ℕ) → Bool
is_func f name blocks = bytes_eq name f.name && (blocks == length f.blocks)

-- the number of the first line that does not match, of lines the first of which has this number, where the edges are of the function f, and lines of the functions fs are to come
abbrev pub mismatch_from : ℕ → (f : Option TacFunc) → (fs : List TacFunc) → List Line → Option ℕ
mismatch_from n f fs [] = Some n
mismatch_from n f [] (Func name blocks entries ∷ lines) = Some n
mismatch_from n f (g ∷ fs) (Func name blocks entries ∷ lines) = if is_func g name blocks then mismatch_from (suc n) (Some g) fs lines else Some n
mismatch_from n f fs (Edge from to count ∷ lines) = if has_edge f from to then mismatch_from (suc n) f fs lines else Some n
mismatch_from n f [] (End ∷ lines) = None
mismatch_from n f (g ∷ fs) (End ∷ lines) = Some n
mismatch_from n f fs (Header ∷ lines) = Some n
mismatch_from n f fs (Other ∷ lines) = Some n

-- all but the last
abbrev pub front : List (List ℕ) → List (List ℕ)
front [] = []
front (piece ∷ []) = []
front (piece ∷ next ∷ pieces) = piece ∷ front (next ∷ pieces)

-- the lines of a file, each ended by byte 10
abbrev pub lines_in : List ℕ → List Line
lines_in bytes = map line_of (front (parts 10 bytes))

-- all lines but the first
abbrev pub behind : List Line → List Line
behind [] = []
behind (line ∷ lines) = lines

abbrev pub mismatch_behind : List TacFunc → List Line → Option ℕ
mismatch_behind funcs [] = Some 1
mismatch_behind funcs (line ∷ lines) = mismatch_from 2 None funcs lines

-- the number of the first line of a file that does not match the functions
unfoldable pub mismatch_at : List TacFunc → List ℕ → Option ℕ
mismatch_at funcs bytes = mismatch_behind funcs (lines_in bytes)

-- the edges before any other line
abbrev pub edges_in : List Line → List counted.Edge
edges_in [] = []
edges_in (Edge from to count ∷ lines) = record { from = from; to = to; count = count } ∷ edges_in lines
edges_in (Func name blocks entries ∷ lines) = []
edges_in (Header ∷ lines) = []
edges_in (End ∷ lines) = []
edges_in (Other ∷ lines) = []

-- the counts that the lines give: for each function's line its entries, and the edges behind it
abbrev pub counts_in : List Line → List FuncCounts
counts_in [] = []
counts_in (Func name blocks entries ∷ lines) = record { entries = entries; edges = edges_in lines } ∷ counts_in lines
counts_in (Edge from to count ∷ lines) = counts_in lines
counts_in (Header ∷ lines) = counts_in lines
counts_in (End ∷ lines) = []
counts_in (Other ∷ lines) = []
