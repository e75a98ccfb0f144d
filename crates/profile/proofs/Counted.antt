-- The table of a run keeps the counts of its steps, and gives the counts.
use Rattle.std.proofs.Common.{◌≡◌, ℕ, suc, ◌+◌, ◌<◌, Bool, true, false, List, [], ◌∷◌, ◌++◌, Option, Some, None, length, refl, sym, ap, ap₂, ◌∙◌, subst, arith, if◌then◌else◌}
use Rattle.std.specs.Prelude.{map, slice_get, ◌==◌}
use Rattle.std.specs.Option.{option_map}
use Rattle.std.proofs.lemmas.Bool.Decides.{nat_tests}
use Rattle.std.proofs.lemmas.Option.{slice_get-map}
use Rattle.std.proofs.lemmas.List.{length-map}
use Rattle.ib_meaning.specs.Agreement.{Finish}
use Rattle.ib_meaning.specs.Machine.{Machine, Goes, Stops}
use Rattle.ib_run.specs.Path.{Path, one_if}
use Rattle.ib_run.proofs.Paths.{count_next, count_last}
use Rattle.tac_core.specs.declared.code.Block.{Block}
use Rattle.tac_core.specs.declared.code.TacFunc.{TacFunc}
use Rattle.tac_core.specs.declared.edges.Edge.{Edge}
use Rattle.tac_core.specs.declared.counts.FuncCounts.{FuncCounts}
use Rattle.tac_core.specs.Program.{Program, main_of}
use Rattle.tac_core.specs.Meaning.{State, tac_step}
use Rattle.tac_core.specs.Counts.{is_edge, edge_count, edges_of, entries_of}
use Rattle.profile.specs.Counting.{crossed, entered, is_crossing, is_entry, start_of, crossings, entries, held}
use Rattle.profile.specs.Tallies.{untaken, targets, edges_from, no_tallies, raised, entered_func, with_at, tallied, shape_of, IsTableOf, IsTallied}
use Rattle.profile.proofs.Tallied.{table_has, taken_behind, entered_behind, shape_tallied, shape_with, entries_with, edges_entered}

raise_held : (b : Bool) (n : ℕ) → raised b (held n) ≡ held (n + one_if b)
raise_held true n = omega arith
raise_held false n = let e : n ≡ n + 0 = omega arith in ap held e

-- ---- as long as the table, by its shape

pub table_length : (funcs : List TacFunc) (table : List FuncCounts) → IsTableOf funcs table → length table ≡ length funcs
table_length funcs table shape =
    sym (length-map table shape_of) ∙ ap length shape ∙ length-map funcs (λ (f : TacFunc). edges_from 0 f.blocks)

module _ (p : Program) (input : List ℕ) where
  abbrev step : Machine State
  step = tac_step p.funcs p.places

  crossings_next : {k : ℕ} {s : State} {left printed : List ℕ} → Path step (start_of p) input k s left printed → (u : State) (rest more : List ℕ) → step s left ≡ Goes u rest more → (f a b : ℕ) → crossings p input (suc k) f a b ≡ crossings p input k f a b + one_if (is_crossing f a b (crossed p.funcs s))
  unfolding crossings
  crossings_next path u rest more is f a b = count_next step (λ s. is_crossing f a b (crossed p.funcs s)) path u rest more is

  entries_next : {k : ℕ} {s : State} {left printed : List ℕ} → Path step (start_of p) input k s left printed → (u : State) (rest more : List ℕ) → step s left ≡ Goes u rest more → (f : ℕ) → entries p input (suc k) f ≡ entries p input k f + one_if (is_entry f (entered p.funcs s))
  unfolding entries
  entries_next {k} {s} path u rest more is f =
      let e = count_next step (λ s. is_entry f (entered p.funcs s)) path u rest more is in omega (arith, e)

  crossings_last : {k : ℕ} {s : State} {left printed : List ℕ} → Path step (start_of p) input k s left printed → (finish : Finish) (rest more : List ℕ) → step s left ≡ Stops finish rest more → (n : ℕ) → k < n → (f a b : ℕ) → crossings p input n f a b ≡ crossings p input k f a b + one_if (is_crossing f a b (crossed p.funcs s))
  unfolding crossings
  crossings_last path finish rest more is n lt f a b = count_last step (λ s. is_crossing f a b (crossed p.funcs s)) path finish rest more is n lt

  entries_last : {k : ℕ} {s : State} {left printed : List ℕ} → Path step (start_of p) input k s left printed → (finish : Finish) (rest more : List ℕ) → step s left ≡ Stops finish rest more → (n : ℕ) → k < n → (f : ℕ) → entries p input n f ≡ entries p input k f + one_if (is_entry f (entered p.funcs s))
  unfolding entries
  entries_last path finish rest more is n lt f =
      let e = count_last step (λ s. is_entry f (entered p.funcs s)) path finish rest more is n lt in omega (arith, e)

  -- a step raises the table's counts as it raises the run's
  raised_table : (k n : ℕ) (s : State) (table : List FuncCounts) → IsTallied p input k table → ((f a b : ℕ) → crossings p input n f a b ≡ crossings p input k f a b + one_if (is_crossing f a b (crossed p.funcs s))) → ((f : ℕ) → entries p input n f ≡ entries p input k f + one_if (is_entry f (entered p.funcs s))) → IsTallied p input n (tallied p.funcs s table)
  raised_table k n s table t crossings_are entries_are = record {
    shape = shape_tallied p.funcs s table ∙ t.shape;
    entered_so = λ f lt.
        entered_behind p.funcs s table f (subst (λ m. f < m) (sym (table_length p.funcs table t.shape)) lt)
        ∙ ap (raised (is_entry f (entered p.funcs s))) (t.entered_so f lt)
        ∙ raise_held (is_entry f (entered p.funcs s)) (entries p input k f) ∙ ap held (sym (entries_are f));
    taken_so = λ f func a b there has.
        taken_behind p.funcs s table f a b (table_has p.funcs table f func a b t.shape there has)
        ∙ ap (raised (is_crossing f a b (crossed p.funcs s))) (t.taken_so f func a b there has)
        ∙ raise_held (is_crossing f a b (crossed p.funcs s)) (crossings p input k f a b) ∙ ap held (sym (crossings_are f a b));
  }

  pub tallied_next : {k : ℕ} {s : State} {left printed : List ℕ} (table : List FuncCounts) → IsTallied p input k table → Path step (start_of p) input k s left printed → (u : State) (rest more : List ℕ) → step s left ≡ Goes u rest more → IsTallied p input (suc k) (tallied p.funcs s table)
  tallied_next {k} {s} table t path u rest more is = raised_table k (suc k) s table t (crossings_next path u rest more is) (entries_next path u rest more is)

  pub tallied_last : {k : ℕ} {s : State} {left printed : List ℕ} (table : List FuncCounts) → IsTallied p input k table → Path step (start_of p) input k s left printed → (finish : Finish) (rest more : List ℕ) → step s left ≡ Stops finish rest more → (n : ℕ) → k < n → IsTallied p input n (tallied p.funcs s table)
  tallied_last {k} {s} table t path finish rest more is n lt = raised_table k n s table t (crossings_last path finish rest more is n lt) (entries_last path finish rest more is n lt)

-- ---- the table at the start

no_shape : (label : ℕ) (blocks : List Block) → map (λ (e : Edge). untaken e.from e.to) (edges_from label blocks) ≡ edges_from label blocks
no_shape label [] = refl
no_shape label (b ∷ blocks) = append_shape (targets b.«end») (edges_from (suc label) blocks) (no_shape (suc label) blocks)
  where
    append_shape : (ts : List ℕ) (es : List Edge) → map (λ (e : Edge). untaken e.from e.to) es ≡ es → map (λ (e : Edge). untaken e.from e.to) (map (untaken label) ts ++ es) ≡ map (untaken label) ts ++ es
    append_shape [] es same = same
    append_shape (t ∷ ts) es same = ap (λ xs. untaken label t ∷ xs) (append_shape ts es same)

untallied_shape : (funcs : List TacFunc) → map shape_of (map no_tallies funcs) ≡ map (λ (f : TacFunc). edges_from 0 f.blocks) funcs
untallied_shape [] = refl
untallied_shape (f ∷ funcs) = ap₂ (λ x xs. x ∷ xs) (no_shape 0 f.blocks) (untallied_shape funcs)

none_taken : (a b label : ℕ) (blocks : List Block) → edge_count a b (edges_from label blocks) ≡ 0
none_taken a b label [] = refl
none_taken a b label (c ∷ blocks) = append_none (targets c.«end») (edges_from (suc label) blocks) (none_taken a b (suc label) blocks)
  where
    first : (t : Bool) (n : ℕ) → n ≡ 0 → (if t then 0 else n) ≡ 0
    first true n is = refl
    first false n is = is

    append_none : (ts : List ℕ) (es : List Edge) → edge_count a b es ≡ 0 → edge_count a b (map (untaken label) ts ++ es) ≡ 0
    append_none [] es is = is
    append_none (t ∷ ts) es is = first (is_edge a b (untaken label t)) (edge_count a b (map (untaken label) ts ++ es)) (append_none ts es is)

pub tallied_none : (p : Program) (input : List ℕ) (table : List FuncCounts) → table ≡ with_at entered_func (main_of p) (map no_tallies p.funcs) → IsTallied p input 0 table
unfolding crossings entries
tallied_none p input table made = subst (IsTallied p input 0) (sym made) (record {
  shape = shape_with entered_func (λ c. refl) (main_of p) (map no_tallies p.funcs) ∙ untallied_shape p.funcs;
  entered_so = λ f lt.
      entries_with (main_of p) f (map no_tallies p.funcs) (subst (λ n. f < n) (sym (length-map p.funcs no_tallies)) lt)
      ∙ ap (raised (main_of p == f)) (ap entries_of (slice_get-map no_tallies p.funcs f) ∙ none_entered (slice_get p.funcs f))
      ∙ once (main_of p) f;
  taken_so = λ f func a b there has.
      ap (edge_count a b) (edges_entered (main_of p) f (map no_tallies p.funcs) ∙ ap edges_of (slice_get-map no_tallies p.funcs f ∙ ap (option_map no_tallies) there))
      ∙ none_taken a b 0 func.blocks;
})
  where
    none_entered : (o : Option TacFunc) → entries_of (option_map no_tallies o) ≡ 0
    none_entered None = refl
    none_entered (Some f) = refl

    once : (m f : ℕ) → raised (m == f) 0 ≡ held (one_if (f == m) + 0)
    once m f = ap (λ t. raised t 0) (turned m f) ∙ by (f == m)
      where
        turned : (m f : ℕ) → (m == f) ≡ (f == m)
        turned m f = grind (arith, nat_tests)

        by : (t : Bool) → raised t 0 ≡ held (one_if t + 0)
        by true = refl
        by false = refl
