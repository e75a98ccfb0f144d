-- Counts that match a program, function by function.
use Rattle.std.proofs.Common.{◌≡◌, ℕ, ◌<◌, ◌^◌, true, zero, suc, List, [], ◌∷◌, length, refl, ap, arith, Option, Some, None}
use Rattle.std.specs.Prelude.{◌&&◌, slice_get, slice_index_or}
use Rattle.std.specs.List.{All}
use Rattle.std.proofs.lemmas.Bool.Decides.{nat_tests}
use Rattle.tac_core.specs.declared.code.End as code_end
use Rattle.tac_core.specs.declared.code.End.TheVariants.{Jump, Branch, Call, Ret}
use Rattle.tac_core.specs.declared.code.Block.{Block}
use Rattle.tac_core.specs.declared.code.TacFunc.{TacFunc}
use Rattle.tac_core.specs.declared.edges.Edge as counted
use Rattle.tac_core.specs.declared.counts.FuncCounts.{FuncCounts}
use Rattle.tac_core.specs.Counts.{is_before, Rise, IsCount, AreCounts, IsTargetOf, LeadsTo, HasEdge, HasEdges, AreOfFuncs}
use Rattle.profile_text.specs.declared.line.Line.{Line}
use Rattle.profile_text.specs.declared.line.Line.TheVariants.{Edge}
use Rattle.profile_text.specs.Grammar.{takes_edge}
use Rattle.profile_text.specs.Matching.{is_target, leads_to, is_label, has_edge}
use Rattle.profile_text.specs.ProfileText.{HasLabels}
use Rattle.profile_text.proofs.Lists.{all_none, all_more, all_rest}
use Rattle.profile_text.proofs.Spelling.{and_both, and_first, and_second}

-- ---- edges

target_of : (e : code_end.End) (t : ℕ) → is_target e t ≡ true → IsTargetOf e t
target_of (Jump l) t h = grind (arith, nat_tests)
target_of (Branch r y n) t h = grind (arith, nat_tests)
target_of (Call d f args l) t h = grind (arith, nat_tests)
target_of (Ret r) t h = absurd (cc)

is_target_of : (e : code_end.End) (t : ℕ) → IsTargetOf e t → is_target e t ≡ true
is_target_of (Jump l) t h = grind (arith, nat_tests)
is_target_of (Branch r y n) t h = grind (arith, nat_tests)
is_target_of (Call d f args l) t h = grind (arith, nat_tests)
is_target_of (Ret r) t h = absurd h

leads : (b : Option Block) (t : ℕ) → leads_to b t ≡ true → LeadsTo b t
leads None t h = absurd (cc)
leads (Some b) t h = target_of b.«end» t h

leads_so : (b : Option Block) (t : ℕ) → LeadsTo b t → leads_to b t ≡ true
leads_so None t h = absurd h
leads_so (Some b) t h = is_target_of b.«end» t h

label_small : (n : ℕ) → is_label n ≡ true → n < 2 ^ 32
label_small n h = grind (arith, nat_tests)

small_label : (n : ℕ) → n < 2 ^ 32 → is_label n ≡ true
small_label n h = grind (arith, nat_tests)

pub record IsGoodEdge (f : TacFunc) (e : counted.Edge) : Type 0 where
  pub there : HasEdge f e.from e.to
  pub labels : HasLabels e
  pub counted : (0 < e.count) × IsCount e.count

pub good_edge : (f : TacFunc) (e : counted.Edge) → has_edge (Some f) e.from e.to ≡ true → (0 < e.count) × IsCount e.count → IsGoodEdge f e
good_edge f e has count =
    let two = and_first (is_label e.from && is_label e.to) (leads_to (slice_get f.blocks e.from) e.to) has in
    record {
      there = leads (slice_get f.blocks e.from) e.to (and_second (is_label e.from && is_label e.to) (leads_to (slice_get f.blocks e.from) e.to) has);
      labels = (label_small e.from (and_first (is_label e.from) (is_label e.to) two), label_small e.to (and_second (is_label e.from) (is_label e.to) two));
      counted = count;
    }

pub edge_has : (f : TacFunc) (e : counted.Edge) → IsGoodEdge f e → has_edge (Some f) e.from e.to ≡ true
edge_has f e good =
    and_both (is_label e.from && is_label e.to) (leads_to (slice_get f.blocks e.from) e.to)
    (and_both (is_label e.from) (is_label e.to) (small_label e.from good.labels.0) (small_label e.to good.labels.1))
    (leads_so (slice_get f.blocks e.from) e.to good.there)

-- ---- order

abbrev pub line_of_edge : counted.Edge → Line
line_of_edge e = Edge e.from e.to e.count

-- each edge may stand behind the one before it
abbrev pub Steps : Option Line → List counted.Edge → Type 0
Steps before [] = Unit {0}
Steps before (e ∷ es) = (takes_edge before e.from e.to ≡ true) × Steps (Some (line_of_edge e)) es

before_trans : (a b c d e f : ℕ) → is_before a b c d ≡ true → is_before c d e f ≡ true → is_before a b e f ≡ true
before_trans a b c d e f h k = grind (arith, nat_tests)

later : (d : counted.Edge) (es : List counted.Edge) → Steps (Some (line_of_edge d)) es → All (λ e. is_before d.from d.to e.from e.to ≡ true) es
later d [] steps = all_none (λ e. is_before d.from d.to e.from e.to ≡ true)
later d (e ∷ es) steps =
    all_more (λ e. is_before d.from d.to e.from e.to ≡ true) e es steps.0
    (λ k x lt. before_trans d.from d.to e.from e.to _ _ steps.0 (later e es steps.1 k x lt))

pairs_more : (e : counted.Edge) (es : List counted.Edge) → All (λ x. is_before e.from e.to x.from x.to ≡ true) es → Rise es → (i j : ℕ) (d : counted.Edge) → i < j → j < length (e ∷ es) → is_before (slice_index_or (e ∷ es) i d).from (slice_index_or (e ∷ es) i d).to (slice_index_or (e ∷ es) j d).from (slice_index_or (e ∷ es) j d).to ≡ true
pairs_more e es first rest zero zero d lt below = absurd (omega arith)
pairs_more e es first rest zero (suc j) d lt below = first j d (omega arith)
pairs_more e es first rest (suc i) zero d lt below = absurd (omega arith)
pairs_more e es first rest (suc i) (suc j) d lt below = rest i j d (omega arith) (omega arith)

pub rise : (before : Option Line) (es : List counted.Edge) → Steps before es → Rise es
rise before [] steps = λ i j d lt below. absurd (omega arith)
rise before (e ∷ es) steps = pairs_more e es (later e es steps.1) (rise (Some (line_of_edge e)) es steps.1)

rise_rest : (e : counted.Edge) (es : List counted.Edge) → Rise (e ∷ es) → Rise es
rise_rest e es rises = λ i j d lt below. rises (suc i) (suc j) d (omega arith) (omega arith)

steps_behind : (d : counted.Edge) (es : List counted.Edge) → Rise (d ∷ es) → Steps (Some (line_of_edge d)) es
steps_behind d [] rises = tt
steps_behind d (e ∷ es) rises = (rises 0 1 e (omega arith) (omega arith), steps_behind e es (rise_rest d (e ∷ es) rises))

pub steps_first : (before : Option Line) (es : List counted.Edge) → ((a b : ℕ) → takes_edge before a b ≡ true) → Rise es → Steps before es
steps_first before [] any rises = tt
steps_first before (e ∷ es) any rises = (any e.from e.to, steps_behind e es rises)

-- ---- functions

pub record IsGoodFunc (f : TacFunc) (c : FuncCounts) : Type 0 where
  pub counts : AreCounts c
  pub edges : All (IsGoodEdge f) c.edges

abbrev pub AreGood : List TacFunc → List FuncCounts → Type 0
AreGood [] [] = Unit {0}
AreGood [] (c ∷ cs) = ⊥
AreGood (f ∷ fs) [] = ⊥
AreGood (f ∷ fs) (c ∷ cs) = IsGoodFunc f c × AreGood fs cs

pub good_many : (fs : List TacFunc) (cs : List FuncCounts) → AreGood fs cs → length cs ≡ length fs
good_many [] [] good = refl
good_many [] (c ∷ cs) good = absurd good
good_many (f ∷ fs) [] good = absurd good
good_many (f ∷ fs) (c ∷ cs) good = ap suc (good_many fs cs good.1)

good_there : (fs : List TacFunc) (cs : List FuncCounts) → AreGood fs cs → (k : ℕ) (c : FuncCounts) (f : TacFunc) → k < length cs → HasEdges (slice_index_or fs k f) (slice_index_or cs k c).edges
good_there [] [] good k c f lt = absurd (omega arith)
good_there [] (x ∷ cs) good k c f lt = absurd good
good_there (g ∷ fs) [] good k c f lt = absurd good
good_there (g ∷ fs) (x ∷ cs) good zero c f lt = λ i e below. (good.0.edges i e below).there
good_there (g ∷ fs) (x ∷ cs) good (suc k) c f lt = good_there fs cs good.1 k c f (omega arith)

pub good_of : (fs : List TacFunc) (cs : List FuncCounts) → AreGood fs cs → AreOfFuncs cs fs
good_of fs cs good = record { many = good_many fs cs good; there = good_there fs cs good }

pub good_counts : (fs : List TacFunc) (cs : List FuncCounts) → AreGood fs cs → All AreCounts cs
good_counts [] [] good = all_none AreCounts
good_counts [] (c ∷ cs) good = absurd good
good_counts (f ∷ fs) [] good = absurd good
good_counts (f ∷ fs) (c ∷ cs) good = all_more AreCounts c cs good.0.counts (good_counts fs cs good.1)

pub good_labels : (fs : List TacFunc) (cs : List FuncCounts) → AreGood fs cs → All (λ c. All HasLabels c.edges) cs
good_labels [] [] good = all_none (λ c. All HasLabels c.edges)
good_labels [] (c ∷ cs) good = absurd good
good_labels (f ∷ fs) [] good = absurd good
good_labels (f ∷ fs) (c ∷ cs) good = all_more (λ c. All HasLabels c.edges) c cs (λ i e below. (good.0.edges i e below).labels) (good_labels fs cs good.1)

pub are_good : (fs : List TacFunc) (cs : List FuncCounts) → length cs ≡ length fs → ((k : ℕ) (c : FuncCounts) (f : TacFunc) → k < length cs → HasEdges (slice_index_or fs k f) (slice_index_or cs k c).edges) → All AreCounts cs → All (λ c. All HasLabels c.edges) cs → AreGood fs cs
are_good [] [] many there counts labels = tt
are_good [] (c ∷ cs) many there counts labels = absurd (omega arith)
are_good (f ∷ fs) [] many there counts labels = absurd (omega arith)
are_good (f ∷ fs) (c ∷ cs) many there counts labels =
    let here = counts 0 c (omega arith) in (
      record {
        counts = here;
        edges = λ i e below. record { there = there 0 c f (omega arith) i e below; labels = labels 0 c (omega arith) i e below; counted = here.taken i e below };
      },
      are_good fs cs (omega arith) (λ k x g lt. there (suc k) x g (omega arith)) (all_rest AreCounts c cs counts) (all_rest (λ c. All HasLabels c.edges) c cs labels),
    )
