-- Lines are appended one after the other.
use Rattle.std.proofs.Common.{◌≡◌, ℕ, ◌<◌, ◌+◌, ◌^◌, List, [], ◌∷◌, ◌++◌, length, get_or, drop, refl, sym, ap, ◌∙◌, subst, arith, append_assoc, map, codes, ⊎_elim}
use Rattle.std.specs.Prelude.{slice_index_or}
use Rattle.std.specs.List.{All}
use Rattle.std.proofs.lemmas.Bool.{cases_lt}
use Rattle.std.proofs.lemmas.List.{at_drop_more, get_or_default}
use Rattle.tac_core.specs.declared.code.TacFunc.{TacFunc}
use Rattle.tac_core.specs.declared.counts.FuncCounts.{FuncCounts}
use Rattle.tac_core.specs.Program.{Program}
use Rattle.tac_core.specs.Counts.{AreCounts, AreOf}
use Rattle.profile_text.specs.Lines.{end_line}
use Rattle.profile_text.specs.ProfileText.{ended, edge_line, func_line, funcs_lines, profile_text, HasLabels, IsProfile}

pub ended_append : (xs ys : List (List ℕ)) → ended (xs ++ ys) ≡ ended xs ++ ended ys
ended_append [] ys = refl
ended_append (x ∷ xs) ys = ap (λ r. x ++ 10 ∷ r) (ended_append xs ys) ∙ sym (append_assoc x (10 ∷ ended xs) (ended ys))

-- what holds of the elements before i and of the one at i
pub all_to : {X : Type 0} (P : X → Type 0) (xs : List X) (i : ℕ) (x : X) → i < length xs → x ≡ get_or xs i x → P x → ((k : ℕ) (d : X) → k < i → P (slice_index_or xs k d)) → (k : ℕ) (d : X) → k < i + 1 → P (slice_index_or xs k d)
all_to P xs i x lt at has all k d below =
    ⊎_elim (λ earlier. all k d earlier)
    (λ le.
    let same : k ≡ i = omega arith in
    subst (λ n. P (get_or xs n d)) (sym same) (subst P (at ∙ get_or_default xs i x d lt) has))
    (cases_lt k i)

pub funcs_text_more : (t u base : List ℕ) (funcs : List TacFunc) (counts : List FuncCounts) (i : ℕ) (f : TacFunc) (c : FuncCounts) → i < length funcs → length counts ≡ length funcs → f ≡ get_or funcs i f → c ≡ get_or counts i c → u ≡ t ++ ended (func_line f c ∷ map edge_line c.edges) → t ++ ended (funcs_lines (drop i funcs) (drop i counts)) ≡ base → u ++ ended (funcs_lines (drop (i + 1) funcs) (drop (i + 1) counts)) ≡ base
funcs_text_more t u base funcs counts i f c lt many fat cat appended so =
    let rest = funcs_lines (drop (i + 1) funcs) (drop (i + 1) counts) in
    let here = func_line f c ∷ map edge_line c.edges in
    let first : funcs_lines (drop i funcs) (drop i counts) ≡ funcs_lines (f ∷ drop (i + 1) funcs) (drop i counts) = at_drop_more (λ fs. funcs_lines fs (drop i counts)) funcs i f lt ∙ ap (λ g. funcs_lines (g ∷ drop (i + 1) funcs) (drop i counts)) (sym fat) in
    let second : funcs_lines (f ∷ drop (i + 1) funcs) (drop i counts) ≡ funcs_lines (f ∷ drop (i + 1) funcs) (c ∷ drop (i + 1) counts) = at_drop_more (λ cs. funcs_lines (f ∷ drop (i + 1) funcs) cs) counts i c (omega arith) ∙ ap (λ g. funcs_lines (f ∷ drop (i + 1) funcs) (g ∷ drop (i + 1) counts)) (sym cat) in
    ap (λ x. x ++ ended rest) appended ∙ append_assoc t (ended here) (ended rest)
    ∙ ap (λ x. t ++ x) (sym (ended_append here rest)) ∙ ap (λ x. t ++ ended x) (sym (first ∙ second)) ∙ so

pub profile_printed : (p : Program) (counts : List FuncCounts) (h t e : List ℕ) (fs : List TacFunc) (cs : List FuncCounts) → fs ≡ p.funcs → cs ≡ counts → h ≡ codes "impactc profile 1\n" → t ≡ h ++ ended (funcs_lines fs cs) → e ≡ t ++ codes "end\n" → AreOf counts p → All AreCounts counts → All (λ c. All HasLabels c.edges) cs → All (λ f. length f.blocks < 2 ^ 64) fs → IsProfile p counts e
unfolding profile_text
profile_printed p counts h t e fs cs fe ce header funcs whole matches counted labels blocks =
    let lines = funcs_lines p.funcs counts in
    let same : ended (funcs_lines fs cs) ≡ ended lines = ap (λ x. ended (funcs_lines x cs)) fe ∙ ap (λ x. ended (funcs_lines p.funcs x)) ce in
    record {
      text = whole ∙ ap (λ x. x ++ codes "end\n") (funcs ∙ ap (λ x. h ++ x) same ∙ ap (λ x. x ++ ended lines) header)
          ∙ append_assoc (codes "impactc profile 1\n") (ended lines) (codes "end\n")
          ∙ ap (λ x. codes "impactc profile 1\n" ++ x) (sym (ended_append lines (end_line ∷ [])));
      matches = matches;
      counted = counted;
      labels = subst (λ x. All (λ c. All HasLabels c.edges) x) ce labels;
      blocks = subst (λ x. All (λ f. length f.blocks < 2 ^ 64) x) fe blocks;
    }
