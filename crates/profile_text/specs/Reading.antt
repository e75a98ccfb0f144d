-- What the parts of the reader do, by the lines before and behind them.
use Rattle.std.specs.Prelude.{◌≡◌, ℕ, suc, if◌then◌else◌, List, ◌∷◌, ◌++◌, Option, Some, None}
use Rattle.tac_core.specs.declared.code.TacFunc.{TacFunc}
use Rattle.tac_core.specs.declared.edges.Edge as counted
use Rattle.tac_core.specs.declared.counts.FuncCounts.{FuncCounts}
use Rattle.profile_text.specs.declared.line.Line.{Line}
use Rattle.profile_text.specs.declared.error.ProfErr.{ProfErr}
use Rattle.profile_text.specs.declared.error.ProfErr.TheVariants.{Malformed, Mismatch, NoMemory}
use Rattle.profile_text.specs.Matching.{mismatch_from, is_label, has_edge, edges_in, counts_in}

abbrev pub label_of : ℕ → Option ℕ
label_of n = if is_label n then Some n else None

-- the edge that a line gives, where the function has it
abbrev pub edge_there : TacFunc → (from to count : ℕ) → Option counted.Edge
edge_there f from to count = if has_edge (Some f) from to then Some (record { from = from; to = to; count = count }) else None

-- some edges of the function f are read, up to what is left, whose first line has the number m
pub record ReadsEdges (f : TacFunc) (n m : ℕ) (lines left : List Line) (edges : List counted.Edge) : Type 0 where
  pub edges_so : edges ++ edges_in left ≡ edges_in lines
  pub counts_so : counts_in left ≡ counts_in lines
  pub goes_on : (fs : List TacFunc) → mismatch_from m (Some f) fs left ≡ mismatch_from n (Some f) fs lines

-- the line of the function f is read, with these entries
pub record ReadsLine (f : TacFunc) (entries : ℕ) (lines left : List Line) : Type 0 where
  pub counts_so : counts_in lines ≡ record { entries = entries; edges = edges_in left } ∷ counts_in left
  pub goes_on : (n : ℕ) (fs : List TacFunc) → mismatch_from n None (f ∷ fs) lines ≡ mismatch_from (suc n) (Some f) fs left

-- the lines of the function f are read
pub record ReadsFunc (f : TacFunc) (n m : ℕ) (lines left : List Line) (c : FuncCounts) : Type 0 where
  pub counts_so : counts_in lines ≡ c ∷ counts_in left
  pub goes_on : (fs : List TacFunc) → mismatch_from m None fs left ≡ mismatch_from n None (f ∷ fs) lines

-- the lines of some functions are read, and these are to come
pub record ReadsFuncs (n m : ℕ) (all fs : List TacFunc) (lines left : List Line) (counts : List FuncCounts) : Type 0 where
  pub counts_so : counts ++ counts_in left ≡ counts_in lines
  pub goes_on : mismatch_from m None fs left ≡ mismatch_from n None all lines

-- why a part of the lines was not read
abbrev pub Misreads : (List TacFunc → Option ℕ) → ProfErr → Type 0
Misreads found (Malformed n) = ⊥
Misreads found (Mismatch n) = (fs : List TacFunc) → found fs ≡ Some n
Misreads found NoMemory = Unit {0}
