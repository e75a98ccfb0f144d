-- A cycle of the machine from a state whose word is at hand.
use Rattle.std.proofs.Common.{◌≡◌, ℕ, suc, Bool, true, false, List, [], ◌∷◌, refl, ap, ◌∙◌}
use Rattle.ib_meaning.specs.Machine.{Step, Goes, Stops}
use Rattle.machine_desc.specs.declared.machine.OpClass.{OpClass}
use Rattle.wide_core.specs.declared.code.Word.{Word}
use Rattle.wide_core.specs.declared.code.RawCode.{RawCode}
use Rattle.wide_core.specs.Cycle.{Times, behind_word, cycle_if, any_late, times_after}
use Rattle.wide_core.specs.Meaning.{Running, Clock, Wide, at_end, next_step, outcome_by, done_by, times_by, words_by, step_by, clock_after, first_ops, late, wide_end, wide_step}
use Rattle.wide_core.specs.declared.code.WideOp.{WideOp}
use Rattle.wide_core.specs.Word.{Flow, Outcome, flow_of}

module _ (latency : OpClass → ℕ) where
  module _ (code : RawCode) (s : Wide) (word : Word) (rest : List Word) (at_hand : s.word.call.rest ≡ word ∷ rest) where
    is_late : (b : Bool) → any_late s.ready.top s.now word.ops ≡ b → late s.word s.ready s.now ≡ b
    is_late b e = ap (λ ws. any_late s.ready.top s.now (first_ops ws)) at_hand ∙ e

    pub waiting_step : (left : List ℕ) → any_late s.ready.top s.now word.ops ≡ true → wide_step latency code s left ≡ Goes (record { word = s.word; ready = s.ready; now = suc s.now }) left []
    unfolding wide_step
    waiting_step left e = ap (λ b. cycle_if (words_by true code) late (times_by true latency code) b s left) (is_late true e)

    -- behind the word's step, with the times behind its outcome
    abbrev pub timed : Step Running → Clock → Step Wide
    timed (Goes w left printed) clock = Goes (record { word = w; ready = clock; now = suc s.now }) left printed
    timed (Stops finish left printed) clock = Stops finish left printed

    abbrev pub turned : (ready : Times) → Outcome → Step Wide
    turned ready x = timed (next_step code s.word rest x) (clock_after x ready s.ready.waiting s.word.waiting (suc s.now))

    timed_is : (x : Step Running) (left : List ℕ) → behind_word (words_by true code) late (times_by true latency code) s left x ≡ timed x (times_by true latency code s.word s.ready s.now left)
    timed_is (Goes w left' printed) left = refl
    timed_is (Stops finish left' printed) left = refl

    word_is : (left : List ℕ) → words_by true code s.word left ≡ next_step code s.word rest (outcome_by true code s.word word.ops left)
    word_is left = ap (λ ws. step_by true code ws s.word left) at_hand

    pub ops_are : first_ops s.word.call.rest ≡ word.ops
    ops_are = ap first_ops at_hand

    pub doing_step : (left : List ℕ) (x : Outcome) (done : List WideOp) → any_late s.ready.top s.now word.ops ≡ false → outcome_by true code s.word word.ops left ≡ x → done_by true code s.word word.ops ≡ done
        → wide_step latency code s left ≡ turned (times_after latency s.now done s.ready.top) x
    unfolding wide_step
    doing_step left x done e is done_is =
        ap (λ b. cycle_if (words_by true code) late (times_by true latency code) b s left) (is_late false e)
        ∙ timed_is (words_by true code s.word left) left
        ∙ ap (λ y. timed y (times_by true latency code s.word s.ready s.now left)) (word_is left)
        ∙ ap (λ os. timed (next_step code s.word rest (outcome_by true code s.word word.ops left)) (clock_after (outcome_by true code s.word os left) (times_after latency s.now (done_by true code s.word os) s.ready.top) s.ready.waiting s.word.waiting (suc s.now))) ops_are
        ∙ ap (λ os. turned (times_after latency s.now os s.ready.top) (outcome_by true code s.word word.ops left)) done_is
        ∙ ap (λ y. turned (times_after latency s.now done s.ready.top) y) is

    abbrev pub ended : Flow → List WideOp → Wide
    ended f os = record { word = at_end s.word f; ready = record { top = times_after latency s.now os s.ready.top; waiting = s.ready.waiting }; now = suc s.now }

    -- where the cycle is the machine's last
    pub end_is : (left : List ℕ) (x : Outcome) (done : List WideOp) → outcome_by true code s.word word.ops left ≡ x → done_by true code s.word word.ops ≡ done
        → wide_end latency code s left ≡ ended (flow_of x) done
    unfolding wide_end
    end_is left x done is done_is =
        ap (λ os. ended (flow_of (outcome_by true code s.word os left)) (done_by true code s.word os)) ops_are
        ∙ ap (λ os. ended (flow_of (outcome_by true code s.word word.ops left)) os) done_is
        ∙ ap (λ y. ended (flow_of y) done) is
