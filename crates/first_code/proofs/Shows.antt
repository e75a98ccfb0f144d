-- What the code at hand shows from here on: one word more in front of it.
use Rattle.std.proofs.Common.{◌≡◌, ℕ, suc, ◌+◌, ◌≤◌, true, false, List, [], ◌∷◌, ◌++◌, map, length, sym, ap, ◌∙◌, subst, append-nil, arith}
use Rattle.ib_meaning.specs.declared.place.Place.{Place}
use Rattle.ib_meaning.specs.Agreement.{Report, Over, Finish}
use Rattle.ib_meaning.specs.Machine.{Step, Goes, Stops, run}
use Rattle.ib_meaning.proofs.Machine.{reach_one, halt_one}
use Rattle.wide_core.specs.declared.code.Loc.{Loc}
use Rattle.wide_core.specs.declared.code.RawCode.{RawCode}
use Rattle.wide_core.specs.declared.code.Tagged.{Tagged}
use Rattle.wide_core.specs.declared.code.WideAct.{WideAct}
use Rattle.wide_core.specs.declared.code.WideOp.{WideOp}
use Rattle.wide_core.specs.declared.code.Word.{Word}
use Rattle.wide_core.specs.Meaning.{Running, has_room, moved, next_step, word_start, word_step}
use Rattle.wide_core.specs.Operation.{Around, Effect, effect_on, sources}
use Rattle.wide_core.specs.Word.{Through, acts, after_word}
use Rattle.first_code.specs.Code.{word_of}

-- in the call of `main`, at these words
abbrev pub at : RawCode → List Word → (Loc → Tagged) → Running
at code rest places = record { call = moved (word_start code).call rest places; waiting = []; memory = (word_start code).memory }

abbrev pub op_of : ℕ → Place → WideAct → WideOp
op_of number place act = record { number = number; home = place; flagged = false; act = act }

-- what a word comes to in which one operation has this effect
abbrev pub behind_effect : RawCode → Word → (rest : List Word) (places : Loc → Tagged) (left : List ℕ) → Effect → Step Running
behind_effect code word rest places left e =
    next_step code (at code (word ∷ rest) places) rest (acts true (e ∷ []) (λ s. Through s) (record { places = places; memory = (word_start code).memory; left = left; out = [] }))

-- a word with one operation
pub one_step : (code : RawCode) (number : ℕ) (place : Place) (act : WideAct) (rest : List Word) (places : Loc → Tagged) (left : List ℕ) (e : Effect) → ((around : Around) → effect_on (op_of number place act) around (map places (sources act)) ≡ e) → word_step code (at code (word_of number place act ∷ rest) places) left ≡ behind_effect code (word_of number place act) rest places left e
unfolding word_step after_word
one_step code number place act rest places left e is =
    let word : Word = word_of number place act in
    ap (behind_effect code word rest places left)
    (is (record { base = (word_start code).call.base; memory = (word_start code).memory; room = has_room code (at code (word ∷ rest) places) }))

-- from here the code comes to this report, in at most as many steps as words are left
pub record Shows (code : RawCode) (rest : List Word) (places : Loc → Tagged) (left out : List ℕ) (report : Report) : Type 0 where
  pub steps : ℕ
  pub few : steps ≤ length rest
  pub by : (n : ℕ) → run (word_step code) (steps + n) (at code rest places) left out ≡ report

-- a word that prints and goes on
pub go_on : (code : RawCode) (word : Word) (rest : List Word) (places places' : Loc → Tagged) (left printed out : List ℕ) (report : Report) → word_step code (at code (word ∷ rest) places) left ≡ Goes (at code rest places') left printed → Shows code rest places' left (out ++ printed) report → Shows code (word ∷ rest) places left out report
go_on code word rest places places' left printed out report e shows =
    let few = shows.few in record {
      steps = suc shows.steps;
      few = omega arith;
      by = λ n.
          let one : suc shows.steps + n ≡ 1 + (shows.steps + n) = omega arith in
          ap (λ k. run (word_step code) k (at code (word ∷ rest) places) left out) one
          ∙ (reach_one (word_step code) (at code (word ∷ rest) places) (at code rest places') left left printed e).by (shows.steps + n) out
          ∙ shows.by n;
    }

-- a word that prints nothing
pub go_silent : (code : RawCode) (word : Word) (rest : List Word) (places places' : Loc → Tagged) (left out : List ℕ) (report : Report) → word_step code (at code (word ∷ rest) places) left ≡ Goes (at code rest places') left [] → Shows code rest places' left out report → Shows code (word ∷ rest) places left out report
go_silent code word rest places places' left out report e shows =
    go_on code word rest places places' left [] out report e (subst (λ (o : List ℕ). Shows code rest places' left o report) (sym (append-nil out)) shows)

-- a word with which the run is over
pub stop_here : (code : RawCode) (word : Word) (rest : List Word) (places : Loc → Tagged) (left out : List ℕ) (finish : Finish) → word_step code (at code (word ∷ rest) places) left ≡ Stops finish left [] → Shows code (word ∷ rest) places left out (Over finish out left)
stop_here code word rest places left out finish e = record {
  steps = 1;
  few = omega arith;
  by = λ n.
      (halt_one (word_step code) (at code (word ∷ rest) places) left left [] finish e).by n out
      ∙ ap (λ (o : List ℕ). Over finish o left) (append-nil out);
}
