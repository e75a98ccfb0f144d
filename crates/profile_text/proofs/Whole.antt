-- Lines that fit the grammar and match a program are those of its counts.
use Rattle.std.proofs.Common.{◌≡◌, ℕ, ◌<◌, ◌^◌, Bool, true, false, suc, List, [], ◌∷◌, ◌++◌, length, refl, sym, ap, ◌∙◌, arith, append_assoc, Option, Some, None, map, codes}
use Rattle.std.specs.Prelude.{if◌then◌else◌, ◌==◌, nat_lt, bytes_eq, decimal}
use Rattle.std.specs.List.{All}
use Rattle.std.proofs.lemmas.Bool.Decides.{nat_tests}
use Rattle.std.proofs.lemmas.Slice.Eq.{bytes_eq-Decides}
use Rattle.tac_core.specs.declared.code.TacFunc.{TacFunc}
use Rattle.tac_core.specs.declared.edges.Edge as counted
use Rattle.tac_core.specs.Counts.{IsCount}
use Rattle.profile_text.specs.declared.line.Line.{Line}
use Rattle.profile_text.specs.declared.line.Line.TheVariants.{Header, Func, Edge, End, Other}
use Rattle.profile_text.specs.Numbers.{number_of}
use Rattle.profile_text.specs.Lines.{is_count, end_line, line_of}
use Rattle.profile_text.specs.Grammar.{may_follow, malformed_from, is_empty}
use Rattle.profile_text.specs.Matching.{mismatch_from, is_func, has_edge, front, edges_in, counts_in}
use Rattle.profile_text.specs.ProfileText.{spaced, edge_line, func_line, funcs_lines}
use Rattle.profile_text.proofs.Lists.{all_none, all_more, all_first, all_rest}
use Rattle.profile_text.proofs.Spelling.{spelled, and_first, and_second}
use Rattle.profile_text.proofs.Saying.{Says, SaysHeader, SaysEnd, SaysOther, SaysFunc, SaysEdge, says}
use Rattle.profile_text.proofs.Good.{IsGoodEdge, good_edge, Steps, rise, AreGood}

abbrev pub closing : List (List ℕ)
closing = end_line ∷ [] ∷ []

-- the edges are of the function, where there is one; without one there are none
abbrev pub AreEdgesOf : Option TacFunc → List counted.Edge → Type 0
AreEdgesOf None es = es ≡ []
AreEdgesOf (Some f) es = All (IsGoodEdge f) es

-- the pieces of a file, which say these lines, are those of the edges of f and the counts of fs
pub record IsWhole (before : Option Line) (f : Option TacFunc) (fs : List TacFunc) (pieces : List (List ℕ)) (lines : List Line) : Type 0 where
  pub text : pieces ≡ map edge_line (edges_in lines) ++ (funcs_lines fs (counts_in lines) ++ closing)
  pub steps : Steps before (edges_in lines)
  pub edges : AreEdgesOf f (edges_in lines)
  pub funcs : AreGood fs (counts_in lines)

abbrev pub Small : List TacFunc → Type 0
Small fs = All (λ f. length f.blocks < 2 ^ 64) fs

-- what is to be shown of the pieces behind one
abbrev Rest : List (List ℕ) → List Line → Type 0
Rest rest lines = (n m : ℕ) (before : Option Line) (f : Option TacFunc) (fs : List TacFunc) → Small fs → malformed_from n before rest ≡ None → mismatch_from m f fs lines ≡ None → IsWhole before f fs rest lines

-- a test that had to hold
passed : (t : Bool) (r : Option ℕ) (n : ℕ) → (if t then r else Some n) ≡ None → (t ≡ true) × (r ≡ None)
passed true r n h = (refl, h)
passed false r n h = absurd (cc)

count_small : (n : ℕ) → is_count n ≡ true → IsCount n
count_small n h = grind (arith, nat_tests)

above_none : (n : ℕ) → nat_lt 0 n ≡ true → 0 < n
above_none n h = grind (arith, nat_tests)

same_number : (a b : ℕ) → (a == b) ≡ true → a ≡ b
same_number a b h = grind (arith, nat_tests)

none_behind : (l : Line) → may_follow (Some End) l ≡ false
none_behind Header = refl
none_behind (Func name blocks entries) = refl
none_behind (Edge from to count) = refl
none_behind End = refl
none_behind Other = refl

empty_of : (n : ℕ) (p : List ℕ) → (if is_empty p then None else Some n) ≡ None → p ∷ [] ≡ [] ∷ []
empty_of n [] h = refl
empty_of n (b ∷ bs) h = absurd (cc)

-- nothing stands behind the end
last : (n : ℕ) (rest : List (List ℕ)) → malformed_from n (Some End) rest ≡ None → rest ≡ [] ∷ []
last n [] h = absurd (cc)
last n (p ∷ []) h = empty_of n p h
last n (p ∷ q ∷ ps) h = absurd (cc (none_behind (line_of p), (passed (may_follow (Some End) (line_of p)) (malformed_from (suc n) (Some (line_of p)) (q ∷ ps)) n h).0))

func_spelled : (g : TacFunc) (a b c : List ℕ) (m n : ℕ) → a ≡ g.name → m ≡ length g.blocks → number_of b ≡ Some m → number_of c ≡ Some n → length g.blocks < 2 ^ 64 → n < 2 ^ 64 → (es : List counted.Edge) → spaced (codes "func" ∷ a ∷ b ∷ c ∷ []) ≡ func_line g (record { entries = n; edges = es })
func_spelled g a b c m n name blocks eb ec small few es =
    ap (λ x. spaced (codes "func" ∷ x ∷ b ∷ c ∷ [])) name
    ∙ ap (λ x. spaced (codes "func" ∷ g.name ∷ x ∷ c ∷ [])) (sym (spelled b m eb (omega arith)) ∙ ap decimal blocks)
    ∙ ap (λ x. spaced (codes "func" ∷ g.name ∷ decimal (length g.blocks) ∷ x ∷ [])) (sym (spelled c n ec few))

edge_spelled : (a b c : List ℕ) (l m n : ℕ) → number_of a ≡ Some l → number_of b ≡ Some m → number_of c ≡ Some n → l < 2 ^ 64 → m < 2 ^ 64 → n < 2 ^ 64 → spaced (codes "edge" ∷ a ∷ b ∷ c ∷ []) ≡ edge_line (record { from = l; to = m; count = n })
edge_spelled a b c l m n ea eb ec sl sm sn =
    ap (λ x. spaced (codes "edge" ∷ x ∷ b ∷ c ∷ [])) (sym (spelled a l ea sl))
    ∙ ap (λ x. spaced (codes "edge" ∷ decimal l ∷ x ∷ c ∷ [])) (sym (spelled b m eb sm))
    ∙ ap (λ x. spaced (codes "edge" ∷ decimal l ∷ decimal m ∷ x ∷ [])) (sym (spelled c n ec sn))

no_edges : (f : Option TacFunc) → AreEdgesOf f []
no_edges None = refl
no_edges (Some f) = all_none (IsGoodEdge f)

func_whole : (n m : ℕ) (before : Option Line) (f : Option TacFunc) (g : TacFunc) (fs : List TacFunc) (a b c : List ℕ) (k e : ℕ) (rest : List (List ℕ)) (lines : List Line) → number_of b ≡ Some k → number_of c ≡ Some e → is_count e ≡ true → Small (g ∷ fs) → malformed_from (suc n) (Some (Func a k e)) rest ≡ None → mismatch_from m f (g ∷ fs) (Func a k e ∷ lines) ≡ None → Rest rest lines → IsWhole before f (g ∷ fs) (spaced (codes "func" ∷ a ∷ b ∷ c ∷ []) ∷ rest) (Func a k e ∷ lines)
func_whole n m before f g fs a b c k e rest lines eb ec count small mal mis ih =
    let t = passed (is_func g a k) (mismatch_from (suc m) (Some g) fs lines) m mis in
    let name : a ≡ g.name = (bytes_eq-Decides a g.name).0 (and_first (bytes_eq a g.name) (k == length g.blocks) t.0) in
    let blocks : k ≡ length g.blocks = same_number k (length g.blocks) (and_second (bytes_eq a g.name) (k == length g.blocks) t.0) in
    let w = ih (suc n) (suc m) (Some (Func a k e)) (Some g) fs (all_rest (λ f. length f.blocks < 2 ^ 64) g fs small) mal t.1 in
    let few : IsCount e = count_small e count in
    let here = func_spelled g a b c k e name blocks eb ec (all_first (λ f. length f.blocks < 2 ^ 64) g fs small) (omega arith) (edges_in lines) in
    record {
      text = ap (λ x. x ∷ rest) here ∙ ap (λ x. func_line g (record { entries = e; edges = edges_in lines }) ∷ x)
          (w.text ∙ sym (append_assoc (map edge_line (edges_in lines)) (funcs_lines fs (counts_in lines)) closing));
      steps = tt;
      edges = no_edges f;
      funcs = (
        record {
          counts = record { entered = few; taken = λ i x below. (w.edges i x below).counted; rise = rise (Some (Func a k e)) (edges_in lines) w.steps };
          edges = w.edges;
        },
        w.funcs,
      );
    }

edge_whole : (n m : ℕ) (before : Option Line) (f : Option TacFunc) (fs : List TacFunc) (a b c : List ℕ) (i j e : ℕ) (rest : List (List ℕ)) (lines : List Line) → number_of a ≡ Some i → number_of b ≡ Some j → number_of c ≡ Some e → nat_lt 0 e ≡ true → is_count e ≡ true → Small fs → may_follow before (Edge i j e) ≡ true → malformed_from (suc n) (Some (Edge i j e)) rest ≡ None → mismatch_from m f fs (Edge i j e ∷ lines) ≡ None → Rest rest lines → IsWhole before f fs (spaced (codes "edge" ∷ a ∷ b ∷ c ∷ []) ∷ rest) (Edge i j e ∷ lines)
edge_whole n m before None fs a b c i j e rest lines ea eb ec some count small fits mal mis ih = absurd (cc)
edge_whole n m before (Some f) fs a b c i j e rest lines ea eb ec some count small fits mal mis ih =
    let t = passed (has_edge (Some f) i j) (mismatch_from (suc m) (Some f) fs lines) m mis in
    let few : IsCount e = count_small e count in
    let edge : counted.Edge = record { from = i; to = j; count = e } in
    let good = good_edge f edge t.0 (above_none e some, few) in
    let w = ih (suc n) (suc m) (Some (Edge i j e)) (Some f) fs small mal t.1 in
    record {
      text = ap (λ x. x ∷ rest) (edge_spelled a b c i j e ea eb ec (omega (arith, good.labels.0)) (omega (arith, good.labels.1)) (omega arith)) ∙ ap (λ x. edge_line edge ∷ x) w.text;
      steps = (fits, w.steps);
      edges = all_more (IsGoodEdge f) edge (edges_in lines) good w.edges;
      funcs = w.funcs;
    }

end_whole : (n m : ℕ) (before : Option Line) (f : Option TacFunc) (fs : List TacFunc) (rest : List (List ℕ)) (lines : List Line) → malformed_from n (Some End) rest ≡ None → mismatch_from m f fs (End ∷ lines) ≡ None → IsWhole before f fs (end_line ∷ rest) (End ∷ lines)
end_whole n m before f [] rest lines mal mis = record { text = ap (λ x. end_line ∷ x) (last n rest mal); steps = tt; edges = no_edges f; funcs = tt }
end_whole n m before f (g ∷ fs) rest lines mal mis = absurd (cc)

no_func : (m : ℕ) (f : Option TacFunc) (a : List ℕ) (k e : ℕ) (lines : List Line) → mismatch_from m f [] (Func a k e ∷ lines) ≡ None → ⊥
no_func m f a k e lines mis = cc

line_whole : (n m : ℕ) (before : Option Line) (f : Option TacFunc) (fs : List TacFunc) (piece : List ℕ) (line : Line) (rest : List (List ℕ)) (lines : List Line) → Says piece line → Small fs → may_follow before line ≡ true → malformed_from (suc n) (Some line) rest ≡ None → mismatch_from m f fs (line ∷ lines) ≡ None → Rest rest lines → IsWhole before f fs (piece ∷ rest) (line ∷ lines)
line_whole n m before f fs piece line rest lines SaysHeader small fits mal mis ih = absurd (cc)
line_whole n m before f fs piece line rest lines SaysEnd small fits mal mis ih = end_whole (suc n) m before f fs rest lines mal mis
line_whole n m before f fs piece line rest lines (SaysOther bs) small fits mal mis ih = absurd (cc)
line_whole n m before f [] piece line rest lines (SaysFunc a b c k e eb ec count) small fits mal mis ih = absurd (no_func m f a k e lines mis)
line_whole n m before f (g ∷ fs) piece line rest lines (SaysFunc a b c k e eb ec count) small fits mal mis ih = func_whole n m before f g fs a b c k e rest lines eb ec count small mal mis ih
line_whole n m before f fs piece line rest lines (SaysEdge a b c i j e ea eb ec some count) small fits mal mis ih = edge_whole n m before f fs a b c i j e rest lines ea eb ec some count small fits mal mis ih

pub whole_from : (pieces : List (List ℕ)) → Rest pieces (map line_of (front pieces))
whole_from [] n m before f fs small mal mis = absurd (cc)
whole_from (p ∷ []) n m before f fs small mal mis = absurd (cc)
whole_from (p ∷ q ∷ ps) n m before f fs small mal mis =
    let t = passed (may_follow before (line_of p)) (malformed_from (suc n) (Some (line_of p)) (q ∷ ps)) n mal in
    line_whole n m before f fs p (line_of p) (q ∷ ps) (map line_of (front (q ∷ ps))) (says p) small t.0 t.1 mis (whole_from (q ∷ ps))
