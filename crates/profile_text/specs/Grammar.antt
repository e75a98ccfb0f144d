-- Which lines may stand where in a profile file.
use Rattle.std.specs.Prelude.{ℕ, suc, ◌&&◌, Bool, true, false, if◌then◌else◌, List, [], ◌∷◌, Option, Some, None, is_none}
use Rattle.tac_core.specs.Counts.{is_before}
use Rattle.profile_text.specs.declared.line.Line.{Line}
use Rattle.profile_text.specs.declared.line.Line.TheVariants.{Header, Func, Edge, End, Other}
use Rattle.profile_text.specs.Lines.{parts, line_of}

-- a function's line or the end may stand behind it
abbrev pub is_open : Option Line → Bool
is_open None = false
is_open (Some Header) = true
is_open (Some (Func name blocks entries)) = true
is_open (Some (Edge from to count)) = true
is_open (Some End) = false
is_open (Some Other) = false

-- the edge from a to b may stand behind it: behind a function's line, or an edge that comes before
abbrev pub takes_edge : Option Line → (a b : ℕ) → Bool
takes_edge None a b = false
takes_edge (Some Header) a b = false
takes_edge (Some (Func name blocks entries)) a b = true
takes_edge (Some (Edge from to count)) a b = is_before from to a b
takes_edge (Some End) a b = false
takes_edge (Some Other) a b = false

-- a line may stand behind another, or at the start
abbrev pub may_follow : Option Line → Line → Bool
may_follow before Header = is_none before
may_follow before (Func name blocks entries) = is_open before
may_follow before (Edge a b count) = takes_edge before a b
may_follow before End = is_open before
may_follow before Other = false

abbrev pub is_end : Option Line → Bool
is_end None = false
is_end (Some Header) = false
is_end (Some (Func name blocks entries)) = false
is_end (Some (Edge from to count)) = false
is_end (Some End) = true
is_end (Some Other) = false

abbrev pub is_empty : List ℕ → Bool
is_empty [] = true
is_empty (b ∷ bs) = false

-- the number of the first line that does not fit, of lines that stand behind another, the first of which has this number; the last part is no line, and nothing but it stands behind the end
abbrev pub malformed_from : ℕ → Option Line → List (List ℕ) → Option ℕ
malformed_from n before [] = Some n
malformed_from n before (piece ∷ []) = if is_end before && is_empty piece then None else Some n
malformed_from n before (piece ∷ next ∷ pieces) =
    if may_follow before (line_of piece) then malformed_from (suc n) (Some (line_of piece)) (next ∷ pieces) else Some n

-- the number of the first line of a file that does not fit the grammar
unfoldable pub malformed_at : List ℕ → Option ℕ
malformed_at bytes = malformed_from 1 None (parts 10 bytes)
