-- The lines of functions, one after the other.
use Rattle.std.proofs.Common.{◌≡◌, ℕ, ◌+◌, ◌<◌, List, [], ◌∷◌, ◌++◌, refl, sym, ap, ◌∙◌, add-one, append_assoc, Some, None, length, drop, get_or}
use Rattle.std.proofs.lemmas.List.{at_drop_more}
use Rattle.tac_core.specs.declared.code.TacFunc.{TacFunc}
use Rattle.tac_core.specs.declared.edges.Edge as counted
use Rattle.tac_core.specs.declared.counts.FuncCounts.{FuncCounts}
use Rattle.profile_text.specs.declared.line.Line.{Line}
use Rattle.profile_text.specs.declared.line.Line.TheVariants.{Header, Func, Edge, End, Other}
use Rattle.profile_text.specs.Matching.{mismatch_from, edges_in, counts_in}
use Rattle.profile_text.specs.Reading.{ReadsEdges, ReadsLine, ReadsFunc, ReadsFuncs}
use Rattle.profile_text.proofs.Parts.{append_nil}

-- where no edge comes first, it does not matter whose it would be
no_edge : (m : ℕ) (f : TacFunc) (fs : List TacFunc) (left : List Line) → edges_in left ≡ [] → mismatch_from m None fs left ≡ mismatch_from m (Some f) fs left
no_edge m f fs [] none = refl
no_edge m f [] (Func name blocks entries ∷ lines) none = refl
no_edge m f (g ∷ fs) (Func name blocks entries ∷ lines) none = refl
no_edge m f fs (Edge from to count ∷ lines) none = absurd (cc)
no_edge m f [] (End ∷ lines) none = refl
no_edge m f (g ∷ fs) (End ∷ lines) none = refl
no_edge m f fs (Header ∷ lines) none = refl
no_edge m f fs (Other ∷ lines) none = refl

pub func_read : (f : TacFunc) (entries n m : ℕ) (lines mid left : List Line) (edges : List counted.Edge) → ReadsLine f entries lines mid → ReadsEdges f (n + 1) m mid left edges → edges_in left ≡ [] → ReadsFunc f n m lines left (record { entries = entries; edges = edges })
func_read f entries n m lines mid left edges line es none =
    let all : edges_in mid ≡ edges = sym es.edges_so ∙ ap (λ x. edges ++ x) none ∙ append_nil edges in
    let count : List counted.Edge → FuncCounts = λ x. record { entries = entries; edges = x } in
    record {
      counts_so = line.counts_so ∙ ap (λ x. count x ∷ counts_in mid) all ∙ ap (λ x. count edges ∷ x) (sym es.counts_so);
      goes_on = λ fs. no_edge m f fs left none ∙ es.goes_on fs ∙ ap (λ k. mismatch_from k (Some f) fs mid) (add-one n) ∙ sym (line.goes_on n fs);
    }

pub funcs_more : (n m k : ℕ) (all : List TacFunc) (i : ℕ) (f : TacFunc) (lines left more : List Line) (counts : List FuncCounts) (c : FuncCounts) → i < length all → f ≡ get_or all i f → ReadsFuncs n m all (drop i all) lines left counts → ReadsFunc f m k left more c → ReadsFuncs n k all (drop (i + 1) all) lines more (counts ++ c ∷ [])
funcs_more n m k all i f lines left more counts c lt at so one =
    record {
      counts_so = append_assoc counts (c ∷ []) (counts_in more) ∙ ap (λ x. counts ++ x) (sym one.counts_so) ∙ so.counts_so;
      goes_on = one.goes_on (drop (i + 1) all) ∙ sym (at_drop_more (λ fs. mismatch_from m None fs left) all i f lt ∙ ap (λ g. mismatch_from m None (g ∷ drop (i + 1) all) left) (sym at)) ∙ so.goes_on;
    }

-- a line that is wrong for the next function
pub wrong_func : (n m k : ℕ) (all : List TacFunc) (i : ℕ) (f : TacFunc) (lines left : List Line) (counts : List FuncCounts) → i < length all → f ≡ get_or all i f → ReadsFuncs n m all (drop i all) lines left counts → ((fs : List TacFunc) → mismatch_from m None (f ∷ fs) left ≡ Some k) → mismatch_from n None all lines ≡ Some k
wrong_func n m k all i f lines left counts lt at so wrong =
    sym so.goes_on ∙ at_drop_more (λ fs. mismatch_from m None fs left) all i f lt ∙ ap (λ g. mismatch_from m None (g ∷ drop (i + 1) all) left) (sym at) ∙ wrong (drop (i + 1) all)
