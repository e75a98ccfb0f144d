-- A run over a host, step by step, and what it shows of the program's meaning.
use Rattle.std.proofs.Common.{◌≡◌, ℕ, suc, ◌+◌, ◌<◌, List, [], ◌++◌, refl, sym, ap, ◌∙◌, subst, ℤ, arith}
use Rattle.std.proofs.lemmas.List.{append-nil}
use Rattle.ib_meaning.specs.declared.place.Place.{Place}
use Rattle.ib_meaning.specs.declared.fault.FaultKind.{FaultKind}
use Rattle.ib_meaning.specs.Agreement.{Over, Finish, Returned, Faulted, IsPrefix, out_of}
use Rattle.ib_meaning.specs.Machine.{Stops}
use Rattle.ib_base.specs.World.{World}
use Rattle.ib_base.specs.declared.outcome.Outcome.{Outcome}
use Rattle.ib_base.specs.declared.outcome.Outcome.TheVariants.{Ended, Faulted as FaultedAt, Spent}
use Rattle.ib_run.specs.OverHost.{OverHost}
use Rattle.ib_run.specs.Path.{Start, Then}
use Rattle.ib_run.proofs.OverHost.{over_none, over_join, over_weaken}
use Rattle.ib_run.proofs.Paths.{path_more, path_over, path_begins}
use Rattle.tac_core.specs.declared.counts.FuncCounts.{FuncCounts}
use Rattle.tac_core.specs.Program.{Program}
use Rattle.tac_core.specs.Meaning.{State, tac_step, tac_meaning}
use Rattle.profile.specs.declared.progress.Progress.{Progress}
use Rattle.profile.specs.declared.progress.Progress.TheVariants.{Going, Done, Broken}
use Rattle.profile.specs.Counting.{start_of}
use Rattle.profile.specs.Running.{Steps, StepsPart, Begins, Runs}
use Rattle.ib_run.specs.Report.{report_of}
use Rattle.profile.specs.Tallies.{IsTallied, AreTallies, tallied, taken_of}
use Rattle.profile.specs.Walking.{Walked, Reported}
use Rattle.std.specs.Prelude.{length, map}
use Rattle.std.specs.List.{All}
use Rattle.profile.proofs.Finals.{counted}
use Rattle.tac_core.specs.declared.code.TacFunc.{TacFunc}
use Rattle.profile.specs.Tallies.{IsTableOf}
use Rattle.profile.proofs.Tallied.{shape_tallied}
use Rattle.profile.proofs.Counted.{tallied_next, tallied_last, table_length}

pub walked_none : (p : Program) (table : List FuncCounts) (w : World) → ((input : List ℕ) → IsTallied p input 0 table) → OverHost (Walked p 0 (start_of p) table) w w
walked_none p table w none = over_none (Walked p 0 (start_of p) table) (λ input. record { path = Start; counts = none input }) w

module _ (p : Program) (k : ℕ) (s t : State) (table : List FuncCounts) (w0 w1 w2 : World) (walked : OverHost (Walked p k s table) w0 w1) where
  pub walked_next : OverHost (Steps p s t Going) w1 w2 → OverHost (Walked p (suc k) t (tallied p.funcs s table)) w0 w2
  walked_next step =
      over_join (Walked p k s table) (Steps p s t Going) (Walked p (suc k) t (tallied p.funcs s table)) w0 w1 w2 walked step
      (λ input rest left out more h goes. record {
        path = Then t left more h.path goes;
        counts = tallied_next p input table h.counts h.path t left more goes;
      })

  module _ (budget : ℕ) (below : k < budget) where
    last : (finish : Finish) (outcome : Outcome) (progress : Progress) → ((out left : List ℕ) → Over finish out left ≡ report_of outcome out left) → ((input left out : List ℕ) → Steps p s t progress input left out → tac_step p.funcs p.places s input ≡ Stops finish left out) → OverHost (Steps p s t progress) w1 w2 → OverHost (Reported p budget outcome (tallied p.funcs s table)) w0 w2
    unfolding tac_meaning
    last finish outcome progress same stops step =
        over_join (Walked p k s table) (Steps p s t progress) (Reported p budget outcome (tallied p.funcs s table)) w0 w1 w2 walked step
        (λ input rest left out more h did.
        let is = stops rest left more did in
        record {
          means_so = path_over (tac_step p.funcs p.places) h.path finish left more is budget below ∙ same (out ++ more) left;
          counts = tallied_last p input table h.counts h.path finish left more is budget below;
        })

    pub walked_done : (result : ℤ) → OverHost (Steps p s t (Done result)) w1 w2 → OverHost (Reported p budget (Ended result) (tallied p.funcs s table)) w0 w2
    walked_done result step = last (Returned result) (Ended result) (Done result) (λ out left. refl) (λ input left out h. h) step

    pub walked_broken : (place : Place) (kind : FaultKind) → OverHost (Steps p s t (Broken place kind)) w1 w2 → OverHost (Reported p budget (FaultedAt place kind) (tallied p.funcs s table)) w0 w2
    walked_broken place kind step = last (Faulted place kind) (FaultedAt place kind) (Broken place kind) (λ out left. refl) (λ input left out h. h) step

    pub walked_part : OverHost (StepsPart p s) w1 w2 → OverHost (Begins p budget) w0 w2
    unfolding tac_meaning
    walked_part step =
        over_join (Walked p k s table) (StepsPart p s) (Begins p budget) w0 w1 w2 walked step
        (λ input rest left out more h part. path_begins (tac_step p.funcs p.places) h.path more part budget below)

pub walked_spent : (p : Program) (budget : ℕ) (s : State) (table : List FuncCounts) (before after : World) → OverHost (Walked p budget s table) before after → OverHost (Reported p budget Spent table) before after
unfolding tac_meaning
walked_spent p budget s table before after walked =
    over_weaken (Walked p budget s table) (Reported p budget Spent table) before after walked
    (λ input left out h. record { means_so = path_more (tac_step p.funcs p.places) h.path; counts = h.counts })

out_begins : (p : Program) (budget : ℕ) (outcome : Outcome) (table : List FuncCounts) (input left out : List ℕ) → Reported p budget outcome table input left out → Begins p budget input left out
out_begins p budget outcome table input left out r = subst (λ report. IsPrefix out (out_of report)) (sym r.means_so) ([], append-nil out ∙ sym (shown outcome))
  where
    shown : (o : Outcome) → out_of (report_of o out left) ≡ out
    shown (Ended result) = refl
    shown (FaultedAt place kind) = refl
    shown Spent = refl

-- what a run printed begins an output of the meaning, also where nothing is made of it
pub reported_begins : (p : Program) (budget : ℕ) (outcome : Outcome) (table : List FuncCounts) (before after : World) → OverHost (Reported p budget outcome table) before after → OverHost (Begins p budget) before after
reported_begins p budget outcome table before after r =
    over_weaken (Reported p budget outcome table) (Begins p budget) before after r (out_begins p budget outcome table)

pub nothing_begins : (p : Program) (budget : ℕ) (w : World) → OverHost (Begins p budget) w w
nothing_begins p budget w = over_none (Begins p budget) (λ input. (out_of (tac_meaning p input budget), refl)) w

-- what the loop keeps, as facts about its values
pub walk_starts : (p : Program) (s : State) (table : List FuncCounts) (w : World) → s ≡ start_of p → ((input : List ℕ) → IsTallied p input 0 table) → OverHost (Walked p 0 s table) w w
walk_starts p s table w is none = subst (λ t. OverHost (Walked p 0 t table) w w) (sym is) (walked_none p table w none)

pub many_tallies : (funcs : List TacFunc) (table : List FuncCounts) → IsTableOf funcs table → length table ≡ length funcs
many_tallies funcs table shape = table_length funcs table shape

pub shape_kept : (funcs : List TacFunc) (s : State) (table new : List FuncCounts) → IsTableOf funcs table → new ≡ tallied funcs s table → IsTableOf funcs new
shape_kept funcs s table new shape is = subst (IsTableOf funcs) (sym is) (shape_tallied funcs s table ∙ shape)

module _ (p q : Program) (k : ℕ) (s t : State) (table new : List FuncCounts) (w0 w1 w2 : World) (same : q ≡ p) (made : new ≡ tallied q.funcs s table) (walked : OverHost (Walked p k s table) w0 w1) where
  made_here : new ≡ tallied p.funcs s table
  made_here = made ∙ ap (λ (r : Program). tallied r.funcs s table) same

  stepped : (progress : Progress) → OverHost (Steps q s t progress) w1 w2 → OverHost (Steps p s t progress) w1 w2
  stepped progress step = subst (λ r. OverHost (Steps r s t progress) w1 w2) same step

  pub walk_next : OverHost (Steps q s t Going) w1 w2 → OverHost (Walked p (k + 1) t new) w0 w2
  walk_next step =
      let one : suc k ≡ k + 1 = omega arith in
      subst (λ n. OverHost (Walked p n t new) w0 w2) one
      (subst (λ tab. OverHost (Walked p (suc k) t tab) w0 w2) (sym made_here) (walked_next p k s t table w0 w1 w2 walked (stepped Going step)))

  pub walk_done : (budget : ℕ) → k < budget → (result : ℤ) → OverHost (Steps q s t (Done result)) w1 w2 → OverHost (Reported p budget (Ended result) new) w0 w2
  walk_done budget below result step =
      subst (λ tab. OverHost (Reported p budget (Ended result) tab) w0 w2) (sym made_here)
      (walked_done p k s t table w0 w1 w2 walked budget below result (stepped (Done result) step))

  pub walk_broken : (budget : ℕ) → k < budget → (place : Place) (kind : FaultKind) → OverHost (Steps q s t (Broken place kind)) w1 w2 → OverHost (Reported p budget (FaultedAt place kind) new) w0 w2
  walk_broken budget below place kind step =
      subst (λ tab. OverHost (Reported p budget (FaultedAt place kind) tab) w0 w2) (sym made_here)
      (walked_broken p k s t table w0 w1 w2 walked budget below place kind (stepped (Broken place kind) step))

pub walk_part : (p q : Program) (k budget : ℕ) (s : State) (table : List FuncCounts) (w0 w1 w2 : World) → q ≡ p → k < budget → OverHost (Walked p k s table) w0 w1 → OverHost (StepsPart q s) w1 w2 → OverHost (Begins p budget) w0 w2
walk_part p q k budget s table w0 w1 w2 same below walked step =
    walked_part p k s s table w0 w1 w2 walked budget below (subst (λ r. OverHost (StepsPart r s) w1 w2) same step)

pub walk_spent : (p : Program) (k budget : ℕ) (s : State) (table : List FuncCounts) (w0 w1 : World) → k ≡ budget → OverHost (Walked p k s table) w0 w1 → OverHost (Reported p budget Spent table) w0 w1
walk_spent p k budget s table w0 w1 is walked = walked_spent p budget s table w0 w1 (subst (λ n. OverHost (Walked p n s table) w0 w1) is walked)

pub runs_so : (p q : Program) (budget : ℕ) (outcome said : Outcome) (table counts : List FuncCounts) (before after : World) → q ≡ p → said ≡ outcome → OverHost (Reported q budget outcome table) before after → All AreTallies table → counts ≡ map taken_of table → OverHost (Runs p budget said counts) before after
runs_so p q budget outcome said table counts before after same says reported all made =
    subst (λ r. OverHost (Runs r budget said counts) before after) same
    (over_weaken (Reported q budget outcome table) (Runs q budget said counts) before after reported
    (λ input left out r. record {
      means_so = r.means_so ∙ ap (λ o. report_of o out left) (sym says);
      counted = counted q input budget table counts r.counts all made;
    }))

pub begins_so : (p q : Program) (budget : ℕ) (outcome : Outcome) (table : List FuncCounts) (before after : World) → q ≡ p → OverHost (Reported q budget outcome table) before after → OverHost (Begins p budget) before after
begins_so p q budget outcome table before after same reported =
    subst (λ r. OverHost (Begins r budget) before after) same (reported_begins q budget outcome table before after reported)
