-- The names that the reader keeps differ.
use Rattle.std.proofs.Common.{◌≡◌, ℕ, ◌<◌, ◌≤◌, Bool, true, false, List, [], ◌∷◌, ◌++◌, length, get_or, ap, refl, sym, ◌∙◌, arith, cond, bytes_eq, position, Option, Some, None}
use Rattle.std.specs.List.{list_any}
use Rattle.std.specs.Option.{option_map}
use Rattle.ib_meaning.specs.declared.place.Place.{Place}
use Rattle.first_form.specs.declared.program.Term.{Term}
use Rattle.first_form.specs.declared.program.Sum.{Sum}
use Rattle.first_form.specs.declared.program.Stmt.{Stmt}
use Rattle.first_form.specs.declared.program.Stmt.TheVariants as stmt
use Rattle.first_form.specs.declared.kind.Word.{Word}
use Rattle.first_form.specs.declared.kind.Kind.{Kind}
use Rattle.first_form.specs.declared.kind.Kind.TheVariants as kind
use Rattle.first_form.specs.declared.reader.Reader.{Reader}
use Rattle.first_form.specs.declared.reader.Wait.{Wait}
use Rattle.first_form.specs.declared.reader.Wait.TheVariants as wait
use Rattle.first_form.specs.declared.reader.Target.{Target}
use Rattle.first_form.specs.declared.reader.Target.TheVariants as target
use Rattle.first_form.specs.declared.reader.Purpose.{Purpose}
use Rattle.first_form.specs.declared.reader.Lead.{Lead}
use Rattle.first_form.specs.Spelled.{Names, name_at}
use Rattle.first_form.specs.Reading.{joined, waiting, closed_for, after_header, statement_start, after_name, after_equals, after_parenthesis, after_factor, after_digits, after_operator, step_at, step}
use Rattle.first_form.specs.Left.{AreVariables}
use Rattle.std.specs.Prelude.{nat_lt}
use Rattle.std.proofs.lemmas.Bool.{false≢true}
use Rattle.std.proofs.lemmas.Bool.Decides.{nat_tests}
use Rattle.std.proofs.lemmas.List.{get_or_append_left}
use Rattle.std.proofs.lemmas.List.Quantifiers.{position-Some}
use Rattle.std.proofs.lemmas.List.Sums.{position_or_len_is}
use Rattle.std.proofs.lemmas.List.Folds.{list_any_at}
use Rattle.std.proofs.lemmas.Slice.Eq.{bytes_eq-Decides}
use Rattle.std.proofs.Math.Seq.{get_or-append_seam}
use Rattle.std.proofs.Common.{length-append}

-- the first place that passes
position_is : {X : Type 0} (p : X → Bool) (xs : List X) (i : ℕ) (d : X) → i < length xs → ((k : ℕ) → k < i → p (get_or xs k d) ≡ false) → p (get_or xs i d) ≡ true → position p xs ≡ Some i
position_is p xs i d h before here =
    let e = position_or_len_is p xs i d (omega arith) before (λ _. here) in
    let t : nat_lt i (length xs) ≡ true = grind (arith, nat_tests) in
    ap (λ k. cond (nat_lt k (length xs)) (Some k) None) e ∙ ap (λ b. cond b (Some i) None) t

position_grown : (p : List ℕ → Bool) (names : Names) (name : List ℕ) (v : ℕ) → position p names ≡ Some v → position p (names ++ name ∷ []) ≡ Some v
position_grown p names name v e =
    let k = position-Some p names v [] e in
    position_is p (names ++ name ∷ []) v [] (omega (arith, length-append names (name ∷ [])))
    (λ j h. ap p (get_or_append_left names (name ∷ []) [] j (omega arith)) ∙ k.2 j h)
    (ap p (get_or_append_left names (name ∷ []) [] v k.0) ∙ k.1)

fresh_at : (names : Names) (name : List ℕ) → list_any (bytes_eq name) names ≡ false → (k : ℕ) → k < length names → bytes_eq name (get_or names k []) ≡ false
fresh_at names name e k h = by_test (bytes_eq name (get_or names k [])) refl
  where
    by_test : (b : Bool) → bytes_eq name (get_or names k []) ≡ b → b ≡ false
    by_test true q = absurd (false≢true (sym e ∙ list_any_at (bytes_eq name) names k [] h q))
    by_test false q = refl

-- a new name more
variables_grown : (names : Names) (name : List ℕ) → AreVariables names → list_any (bytes_eq name) names ≡ false → AreVariables (names ++ name ∷ [])
variables_grown names name vs e = record { found = λ v h. by_less v (nat_lt v (length names)) refl h }
  where
    last : (v : ℕ) → nat_lt v (length names) ≡ false → v < length (names ++ name ∷ []) → v ≡ length names
    last v q h = let up : length names ≤ v = grind (arith, nat_tests) in omega (arith, length-append names (name ∷ []))

    at_last : (v : ℕ) → v ≡ length names → name_at (names ++ name ∷ []) v ≡ name
    at_last v q = ap (λ k. name_at (names ++ name ∷ []) k) q ∙ get_or-append_seam names name [] []

    by_less : (v : ℕ) (b : Bool) → nat_lt v (length names) ≡ b → v < length (names ++ name ∷ []) → position (bytes_eq (name_at (names ++ name ∷ []) v)) (names ++ name ∷ []) ≡ Some v
    by_less v true q h = let less : v < length names = grind (arith, nat_tests) in
        ap (λ (x : List ℕ). position (bytes_eq x) (names ++ name ∷ [])) (get_or_append_left names (name ∷ []) [] v less)
        ∙ position_grown (bytes_eq (name_at names v)) names name v (vs.found v less)
    by_less v false q h = let size = last v q h in
        ap (λ (x : List ℕ). position (bytes_eq x) (names ++ name ∷ [])) (at_last v size)
        ∙ position_is (bytes_eq name) (names ++ name ∷ []) v [] h
        (λ k less. ap (bytes_eq name) (get_or_append_left names (name ∷ []) [] k (omega arith)) ∙ fresh_at names name e k (omega arith))
        (ap (bytes_eq name) (at_last v size) ∙ (bytes_eq-Decides name name).1 refl)

-- the names of the reader differ, if there is one
abbrev pub SoundOf : Option Reader → Type 0
SoundOf None = Unit {0}
SoundOf (Some r) = AreVariables r.names

module _ (names : Names) (body : List Stmt) (vs : AreVariables names) where
  -- a step to another wait, with the same names
  waits : (o : Option Wait) → SoundOf (option_map (waiting names body) o)
  waits None = tt
  waits (Some w) = vs

  declared : (name : List ℕ) (s : Stmt) (b : Bool) → list_any (bytes_eq name) names ≡ b →
      SoundOf (cond b None (Some (waiting (names ++ name ∷ []) (body ++ s ∷ []) wait.Statement)))
  declared name s true e = tt
  declared name s false e = variables_grown names name vs e

  at_initial : (at : Place) (place : Place) (name : List ℕ) (k : Kind) → SoundOf (step_at (wait.Initial place name) names body at k)
  at_initial at place name kind.Semicolon = declared name (stmt.Declare place None) (list_any (bytes_eq name) names) refl
  at_initial at place name kind.Equals = vs
  at_initial at place name _ = tt

  at_semicolon : (place : Place) (q : Target) (s : Sum) → SoundOf (closed_for names body place q s)
  at_semicolon place (target.Declare name) s = declared name (stmt.Declare place (Some s)) (list_any (bytes_eq name) names) refl
  at_semicolon place (target.Assign v) s = vs
  at_semicolon place target.Return s = vs
  at_semicolon place target.Print s = tt

  at_operator : (at : Place) (p : Purpose) (l : Lead) (t : Term) (k : Kind) → SoundOf (step_at (wait.Operator p l t) names body at k)
  at_operator at p l t kind.Semicolon = at_semicolon p.place p.target (joined l t)
  at_operator at p l t k = waits (after_operator p l t k)

  at_call_end : (at : Place) (place : Place) (s : Sum) (k : Kind) → SoundOf (step_at (wait.Semicolon place s) names body at k)
  at_call_end at place s kind.Semicolon = vs
  at_call_end at place s _ = tt

  sound_at : (w : Wait) (at : Place) (k : Kind) → SoundOf (step_at w names body at k)
  sound_at (wait.Header h) at k = waits (after_header h k)
  sound_at wait.Statement at k = waits (statement_start names at k)
  sound_at (wait.Name place) at k = waits (after_name place k)
  sound_at (wait.Initial place name) at k = at_initial at place name k
  sound_at (wait.Equals place v) at k = waits (after_equals place v k)
  sound_at (wait.Parenthesis place) at k = waits (after_parenthesis place k)
  sound_at (wait.Factor p s) at k = waits (after_factor names p s k)
  sound_at (wait.Digits p s) at k = waits (after_digits p s k)
  sound_at (wait.Operator p l t) at k = at_operator at p l t k
  sound_at (wait.Semicolon place s) at k = at_call_end at place s k
  sound_at wait.Nothing at k = tt

pub sound_step : (r : Reader) (word : Word) → AreVariables r.names → SoundOf (step r word)
unfolding step
sound_step r word vs = sound_at r.names r.body vs r.wait word.place word.kind
