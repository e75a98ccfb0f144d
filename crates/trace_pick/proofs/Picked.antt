-- Function by function the traces of a program.
use Rattle.std.proofs.Common.{◌≡◌, ◌+◌, ◌++◌, ◌<◌, ◌≤◌, ℕ, List, [], ◌∷◌, Option, Some, None, length, get_or, refl, sym, ap, ◌∙◌, subst, ⊎_elim, arith, length-append}
use Rattle.std.specs.Prelude.{slice_get}
use Rattle.std.proofs.lemmas.Option.{slice_get_within, slice_get-get_or, get_or_from_slice_get}
use Rattle.tac_core.specs.declared.code.End.{End}
use Rattle.tac_core.specs.declared.code.End.TheVariants.{Jump, Branch, Call, Ret}
use Rattle.tac_core.specs.declared.code.Block.{Block}
use Rattle.tac_core.specs.declared.code.TacFunc.{TacFunc}
use Rattle.tac_core.specs.declared.edges.Edge.{Edge}
use Rattle.tac_core.specs.declared.counts.FuncCounts.{FuncCounts}
use Rattle.tac_core.specs.Counts.{IsTargetOf, LeadsTo, HasEdge, HasEdges, AreOfFuncs}
use Rattle.tac_core.specs.Program.{Program}
use Rattle.tac_core.specs.Rules.{IsGoodEnd, IsGoodBlock, IsGoodFunc, IsValid}
use Rattle.tac_core.specs.Traces.{Labels, AreChains, AreChainsOf, ops_of}
use Rattle.tac_core.proofs.Lists.{All-get}
use Rattle.trace_pick.specs.Best.{IsMutuallyBest}
use Rattle.trace_pick.specs.Settled.{IsKnown, AreCut}
use Rattle.trace_pick.specs.Tables.{IsTable, AreLinks, AreWithin, IsFit, AreTracesUpto, behind, begins, AreWalks, Rise}
use Rattle.trace_pick.specs.Traces.{AreTraces, AreTracesOf}
use Rattle.trace_pick.proofs.Chained.{taken_edge, traces_are_chains}
use Rattle.trace_pick.proofs.Grown.{IsPushed, Before, Last, pushed_at}
use Rattle.trace_pick.proofs.Linked.{links_done}
use Rattle.trace_pick.proofs.Pieces.{IsSummedUp, are_traces}
use Rattle.trace_pick.proofs.Read.{AreTables, walks_are_traces, steps_rise}
use Rattle.trace_pick.proofs.Settling.{ops_some}

-- an edge leaves a block that is there
leaves_block : (blocks : List Block) (a b : ℕ) → LeadsTo (slice_get blocks a) b → a < length blocks
leaves_block blocks a b h = by_block (slice_get blocks a) refl h
  where
    by_block : (x : Option Block) → slice_get blocks a ≡ x → LeadsTo x b → a < length blocks
    by_block None is leads = absurd leads
    by_block (Some block) is leads = slice_get_within blocks a block is

pub edges_within : (f : TacFunc) (es : List Edge) → IsFit f → HasEdges f es → AreWithin (length f.blocks) es
edges_within f es fit there k e at =
    let edge : HasEdge f e.from e.to = All-get (λ e. HasEdge f e.from e.to) es k e there at in
    (leaves_block f.blocks e.from e.to edge, fit.targets e.from e.to edge)

pub is_known : (f : TacFunc) (c : FuncCounts) → IsFit f → HasEdges f c.edges → IsKnown f c
is_known f c fit there = record {
  leaves = λ a b best. leaves_block f.blocks a b (taken_edge f c.edges a b there best.taken);
  enters = λ a b best. fit.targets a b (taken_edge f c.edges a b there best.taken);
  few = fit.few;
}

pub best_tables : (f : TacFunc) (c : FuncCounts) (prior next : List (Option ℕ)) → AreLinks f c (length c.edges) prior next → IsTable (length f.blocks) (λ b a. IsMutuallyBest f c a b) prior × IsTable (length f.blocks) (IsMutuallyBest f c) next
best_tables f c prior next h = links_done f c (length c.edges) prior next (omega arith) h

pub summed_up : (f : TacFunc) (c : FuncCounts) (cut : List (Option ℕ)) (sums : List ℕ) → IsKnown f c → AreCut f c cut sums → IsSummedUp f c sums
summed_up f c cut sums known h = record {
  sums_are = h.sums_are;
  leaves = known.leaves;
  enters = known.enters;
  some = λ b lt. ops_some f.blocks b lt;
  small = λ b lt. known.few b;
}

pub are_tables : (f : TacFunc) (c : FuncCounts) (cut prior next : List (Option ℕ)) (sums : List ℕ) → AreLinks f c (length c.edges) prior next → AreCut f c cut sums → AreTables f c cut next
are_tables f c cut prior next sums links h = record { priors = h.priors; nexts = (best_tables f c prior next links).1 }

pub tables_rise : (f : TacFunc) (c : FuncCounts) (cut prior next : List (Option ℕ)) (sums : List ℕ) → IsKnown f c → AreLinks f c (length c.edges) prior next → AreCut f c cut sums → Rise (behind f.blocks cut next sums) sums
tables_rise f c cut prior next sums known links h = steps_rise f c cut next sums (are_tables f c cut prior next sums links h) (summed_up f c cut sums known h)

pub walks_picked : (f : TacFunc) (c : FuncCounts) (cut prior next : List (Option ℕ)) (sums : List ℕ) (chains : List Labels) → IsKnown f c → AreLinks f c (length c.edges) prior next → AreCut f c cut sums
    → AreWalks (behind f.blocks cut next sums) (begins f.blocks cut sums) (length f.blocks) chains → AreTraces f c chains
walks_picked f c cut prior next sums chains known links h walks =
    are_traces f c sums chains (summed_up f c cut sums known h) (walks_are_traces f c cut next sums (are_tables f c cut prior next sums links h) (length f.blocks) chains walks)

end_targets : (regs n : ℕ) (funcs : List TacFunc) (e : End) → IsGoodEnd regs n funcs e → (t : ℕ) → IsTargetOf e t → t < n
end_targets regs n funcs (Jump l) good t is = subst (λ z. z < n) (sym is) good.1
end_targets regs n funcs (Branch r y m) good t is = ⊎_elim (λ e. subst (λ z. z < n) (sym e) good.1.1) (λ e. subst (λ z. z < n) (sym e) good.2.1) is
end_targets regs n funcs (Call d f args l) good t is = subst (λ z. z < n) (sym is) good.2.1
end_targets regs n funcs (Ret r) good t is = absurd is

func_fit : (places : ℕ) (funcs : List TacFunc) (f : TacFunc) → IsGoodFunc places funcs f → IsFit f
func_fit places funcs f good = record { targets = λ a b edge. target a b (slice_get f.blocks a) refl edge; few = λ l. few l (slice_get f.blocks l) refl }
  where
    good_block : (l : ℕ) (b : Block) → slice_get f.blocks l ≡ Some b → IsGoodBlock f.regs (length f.blocks) places funcs b
    good_block l b is = All-get (IsGoodBlock f.regs (length f.blocks) places funcs) f.blocks l b good.blocks is

    target : (a t : ℕ) (x : Option Block) → slice_get f.blocks a ≡ x → LeadsTo x t → t < length f.blocks
    target a t None is leads = absurd leads
    target a t (Some b) is leads = end_targets f.regs (length f.blocks) funcs b.«end» (good_block a b is).ends t leads

    few : (l : ℕ) (x : Option Block) → slice_get f.blocks l ≡ x → ops_of x ≤ 2048
    few l None is = omega arith
    few l (Some b) is = let most = (good_block l b is).few in omega arith

pub valid_fit : (p : Program) (i : ℕ) (f : TacFunc) → IsValid p → slice_get p.funcs i ≡ Some f → IsFit f
valid_fit p i f valid is = func_fit (length p.places) p.funcs f (All-get (IsGoodFunc (length p.places) p.funcs) p.funcs i f valid.each is)

-- the edges of a function's counts are there
pub edges_there : (funcs : List TacFunc) (counts : List FuncCounts) (i : ℕ) (f : TacFunc) (c : FuncCounts) → AreOfFuncs counts funcs → slice_get funcs i ≡ Some f → slice_get counts i ≡ Some c → HasEdges f c.edges
edges_there funcs counts i f c h fi ci =
    let lt = slice_get_within counts i c ci in
    let same_f : get_or funcs i f ≡ f = get_or_from_slice_get funcs i f f fi in
    let same_c : get_or counts i c ≡ c = get_or_from_slice_get counts i c c ci in
    subst (λ z. HasEdges z c.edges) same_f (subst (λ (z : FuncCounts). HasEdges (get_or funcs i f) z.edges) same_c (h.there i c f lt))

pub upto_more : (funcs : List TacFunc) (counts : List FuncCounts) (i : ℕ) (f : TacFunc) (c : FuncCounts) (chains : List Labels) (traces grown : List (List Labels)) → slice_get funcs i ≡ Some f → slice_get counts i ≡ Some c
    → grown ≡ traces ++ chains ∷ [] → AreTraces f c chains → AreTracesUpto funcs counts i traces → AreTracesUpto funcs counts (i + 1) grown
upto_more funcs counts i f c chains traces grown fi ci is own h = subst (AreTracesUpto funcs counts (i + 1)) (sym is) (record {
  many = length-append traces (chains ∷ []) ∙ ap (λ n. n + 1) h.many;
  each = each;
})
  where
    each : (j : ℕ) (g : TacFunc) (d : FuncCounts) (x : List Labels) → slice_get funcs j ≡ Some g → slice_get counts j ≡ Some d → slice_get (traces ++ chains ∷ []) j ≡ Some x → AreTraces g d x
    each j g d x gj dj at = by_place (pushed_at traces chains j x at)
      where
        by_place : IsPushed traces chains j x → AreTraces g d x
        by_place (Before at') = h.each j g d x gj dj at'
        by_place (Last last same) =
            let here : j ≡ i = last ∙ h.many in
            let both_f : Some g ≡ Some f = sym gj ∙ ap (λ z. slice_get funcs z) here ∙ fi in
            let both_c : Some d ≡ Some c = sym dj ∙ ap (λ z. slice_get counts z) here ∙ ci in
            let same_f : g ≡ f = cc in
            let same_c : d ≡ c = cc in
            subst (λ z. AreTraces z d x) (sym same_f) (subst (λ z. AreTraces f z x) (sym same_c) (subst (λ z. AreTraces f c z) (sym same) own))

pub upto_done : (funcs : List TacFunc) (counts : List FuncCounts) (i : ℕ) (traces : List (List Labels)) → i ≡ length funcs → AreTracesUpto funcs counts i traces → AreTracesOf funcs counts traces
upto_done funcs counts i traces all h = record { many = h.many ∙ all; each = h.each }

pub traces_chained : (funcs : List TacFunc) (counts : List FuncCounts) (traces : List (List Labels)) → AreOfFuncs counts funcs → AreTracesOf funcs counts traces → AreChainsOf funcs traces
traces_chained funcs counts traces of h = record { many = h.many; each = each }
  where
    each : (i : ℕ) (f : TacFunc) (chains : List Labels) → slice_get funcs i ≡ Some f → slice_get traces i ≡ Some chains → AreChains f chains
    each i f chains fi ti =
        let c : FuncCounts = get_or counts i (record { entries = 0; edges = [] }) in
        let lt = slice_get_within funcs i f fi in
        let many = of.many in
        let ci : slice_get counts i ≡ Some c = slice_get-get_or counts i (record { entries = 0; edges = [] }) (omega arith) in
        traces_are_chains f c chains (edges_there funcs counts i f c of fi ci) (h.each i f c chains fi ci ti)

-- what holds of lists holds of equal ones
pub of_same : (P : List Block → List (Option ℕ) → List (Option ℕ) → List ℕ → Type 0) (b b' : List Block) (p p' n n' : List (Option ℕ)) (s s' : List ℕ) → b' ≡ b → p' ≡ p → n' ≡ n → s' ≡ s → P b p n s → P b' p' n' s'
of_same P b b' p p' n n' s s' eb ep en es h =
    subst (λ z. P z p' n' s') (sym eb) (subst (λ z. P b z n' s') (sym ep) (subst (λ z. P b p z s') (sym en) (subst (λ z. P b p n z) (sym es) h)))

pub of_same_back : (P : List Block → List (Option ℕ) → List (Option ℕ) → List ℕ → Type 0) (b b' : List Block) (p p' n n' : List (Option ℕ)) (s s' : List ℕ) → b' ≡ b → p' ≡ p → n' ≡ n → s' ≡ s → P b' p' n' s' → P b p n s
of_same_back P b b' p p' n n' s s' eb ep en es h = of_same P b' b p' p n' n s' s (sym eb) (sym ep) (sym en) (sym es) h
