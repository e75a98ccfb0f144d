-- What code takes, told ahead of its items: its operations, and the labels that its constructs lead to.
use Rattle.std.specs.Prelude.{◌≡◌, ℕ, ◌+◌, List, [], ◌∷◌, ◌++◌, length, slice_set, Bool, true, false}
use Rattle.tac_lowered.specs.Code.{Code, nothing, does, both, calls, when, choose, repeat, until, leave, Test, settled, on, all_of, one_of, inverse}
use Rattle.tac_lowered.specs.Items.{Open, fresh, owned, goes, goes_test}
use Rattle.tac_emit.specs.declared.survey.Targets.{Targets}
use Rattle.tac_emit.specs.declared.survey.Survey.{Survey}

-- how many operations code has, but for the ends of blocks
abbrev mutual
  pub acts : Code → ℕ
  acts nothing = 0
  acts (does s act) = 1
  acts (both a b) = acts a + acts b
  acts (calls s to f args) = 0
  acts (when s t a) = acts_test t + acts a
  acts (choose s t a b) = acts_test t + (acts a + acts b)
  acts (repeat s own t a b) = acts_test t + (acts a + acts b)
  acts (until s own a t) = acts a + acts_test t
  acts (leave s x) = 0

  pub acts_test : Test → ℕ
  acts_test (settled s b) = 0
  acts_test (on s a r) = acts a
  acts_test (all_of t u) = acts_test t + acts_test u
  acts_test (one_of t u) = acts_test t + acts_test u
  acts_test (inverse t) = acts_test t

-- a construct's targets, from where its parts are open
abbrev pub led : (first second behind : Open) → Targets
led p q e = record { first = p.label; second = q.label; behind = e.label }

-- The targets of the constructs in code, each before those of its parts.
abbrev mutual
  pub targets : Code → Open → List Targets
  targets nothing o = []
  targets (does s act) o = []
  targets (both a b) o = targets a o ++ targets b (goes a false o)
  targets (calls s to f args) o = []
  targets (when s t a) o =
      let p = goes_test t o in
      let q = owned a p (goes a true p) in
      led p q q ∷ (targets_test t o ++ targets a p)
  targets (choose s t a b) o =
      let p = goes_test t o in
      let q = owned a p (goes a true p) in
      led p q (owned b q (goes b true q)) ∷ (targets_test t o ++ (targets a p ++ targets b q))
  targets (repeat s true t a b) o =
      let p = goes_test t (fresh o) in
      let q = owned a p (goes a true p) in
      led p q (owned b q (goes b true q)) ∷ (targets_test t (fresh o) ++ (targets a p ++ targets b q))
  targets (repeat s false t a b) o =
      let p = goes_test t (fresh o) in
      let q = goes a false p in
      led p q (goes b true q) ∷ (targets_test t (fresh o) ++ (targets a p ++ targets b q))
  targets (until s own a t) o =
      let q = goes a own (fresh o) in
      led q q (goes_test t q) ∷ (targets a (fresh o) ++ targets_test t q)
  targets (leave s x) o = []

  pub targets_test : Test → Open → List Targets
  targets_test (settled s b) o = []
  targets_test (on s a r) o = targets a o
  targets_test (all_of t u) o =
      let p = goes_test t o in
      led p (goes_test u p) (goes_test u p) ∷ (targets_test t o ++ targets_test u p)
  targets_test (one_of t u) o =
      let p = goes_test t o in
      led p (goes_test u p) (goes_test u p) ∷ (targets_test t o ++ targets_test u p)
  targets_test (inverse t) o = targets_test t o

-- ---- a survey over code

abbrev pub open_of : Survey → Open
open_of v = record { label = v.label; count = v.count }

-- it has come to an open block, over so many operations and these targets
pub record Surveys (a b : Survey) (o : Open) (n : ℕ) (ts : List Targets) : Type 0 where
  pub opened : open_of b ≡ o
  pub acts : b.acts ≡ a.acts + n
  pub told : b.targets ≡ a.targets ++ ts

abbrev pub SurveysCode : (a b : Survey) → Code → (closes : Bool) → Type 0
SurveysCode a b code closes = Surveys a b (goes code closes (open_of a)) (acts code) (targets code (open_of a))

-- where it has a block of its own
abbrev pub SurveysOwned : (a b : Survey) → Code → Type 0
SurveysOwned a b code = Surveys a b (owned code (open_of a) (goes code true (open_of a))) (acts code) (targets code (open_of a))

abbrev pub SurveysTest : (a b : Survey) → Test → Type 0
SurveysTest a b t = Surveys a b (goes_test t (open_of a)) (acts_test t) (targets_test t (open_of a))

-- the turns of a loop whose body goes on where it ends, from its head on
abbrev pub SurveysTurns : (a b : Survey) → Test → (body last : Code) → Type 0
SurveysTurns a b t x y =
    let p = goes_test t (open_of a) in
    let q = goes x false p in
    Surveys a b (goes y true q) (acts_test t + (acts x + acts y)) (led p q (goes y true q) ∷ (targets_test t (open_of a) ++ (targets x p ++ targets y q)))

-- code in a row, and then the last
abbrev pub row_of : List Code → Code → Code
row_of [] last = last
row_of (a ∷ more) last = both a (row_of more last)

-- a place is kept for targets
pub record Reserves (a b : Survey) (at : ℕ) : Type 0 where
  pub place : at ≡ length a.targets
  pub same : open_of b ≡ open_of a
  pub acts : b.acts ≡ a.acts
  pub longer : b.targets ≡ a.targets ++ record { first = 0; second = 0; behind = 0 } ∷ []

-- the targets are set there, once they are known
pub record Sets (a b : Survey) (at first second : ℕ) : Type 0 where
  pub same : open_of b ≡ open_of a
  pub acts : b.acts ≡ a.acts
  pub told : b.targets ≡ slice_set a.targets at (record { first = first; second = second; behind = a.label })
