-- The machine by cycles agrees with the machine by words, within 16 cycles a word.
use Rattle.std.proofs.Common.{◌≡◌, ℕ, zero, suc, ◌+◌, ◌*◌, ◌≤◌, Bool, true, false, nat_lt, List, [], ◌∷◌, Option, Some, None, get_or, refl, ap, subst, arith}
use Rattle.std.specs.List.{list_any}
use Rattle.std.proofs.lemmas.Bool.Decides.{nat_tests}
use Rattle.ib_meaning.specs.Agreement.{Agrees, Within}
use Rattle.ib_meaning.specs.Machine.{Machine, Step, Goes, Stops, means}
use Rattle.ib_meaning.proofs.Machine.{reach_one, halt_one, reach_trans, reach_halt}
use Rattle.ib_meaning.proofs.Simulation.{Together, Answers, answered, simulates, simulates_within}
use Rattle.wide_core.specs.declared.code.Loc.{Loc}
use Rattle.wide_core.specs.declared.code.WideOp.{WideOp}
use Rattle.wide_core.specs.declared.code.RawCode.{RawCode}
use Rattle.machine_desc.specs.declared.machine.OpClass.{OpClass}
use Rattle.wide_core.specs.Classes.{class_of}
use Rattle.wide_core.specs.Operation.{target, To, Into}
use Rattle.wide_core.specs.Places.{put, put_if, same_loc}
use Rattle.wide_core.specs.Cycle.{Timed, behind_word, by_cycles, Times, touched, any_late, times_after}
use Rattle.wide_core.specs.Word.{Outcome, Through, Gone, Left, Stopped}
use Rattle.wide_core.specs.Meaning.{Running, Waiting, Clock, done_by, resumed, clock_after, Wide, outcome_by, ready_by, times_by, words_by, cycle_by, word_step, word_start, word_meaning, first_ops, late, wide_step, wide_start, wide_meaning}

-- of any machine by words: nothing is late once all times are at most now, and all stay at most now + 16
module _ {W T : Type 0} (step : Machine W) (late : W → T → ℕ → Bool) (times : W → T → ℕ → List ℕ → T) (IsBy : ℕ → T → Type 0)
    (in_time : (w : W) (t : T) (b now : ℕ) → IsBy b t → b ≤ now → late w t now ≡ false)
    (soon : (w : W) (t : T) (b now : ℕ) (left : List ℕ) → IsBy b t → b ≤ now + 16 → IsBy (now + 16) (times w t now left)) where
  abbrev cycles : Machine (Timed W T)
  cycles = by_cycles step late times

  -- the same words; everything is ready within 15 cycles
  pub data Alongside : W → Timed W T → Type 0 where
    With : (w : W) (t : T) (now : ℕ) → IsBy (now + 15) t → Alongside w (record { word = w; ready = t; now = now })

  Fits : ℕ → ℕ → Type 0
  Fits d k = k ≤ suc d

  abbrev At : W → T → ℕ → Timed W T
  At w t now = record { word = w; ready = t; now = now }

  -- where the word is done
  done : (d b : ℕ) (w : W) (t : T) (now : ℕ) (left : List ℕ) → late w t now ≡ false → IsBy b t → b ≤ now + 15 → (x : Step W) → step w left ≡ x → Answers cycles (Fits d) Alongside (At w t now) left x
  unfolding Fits
  done d b w t now left e h le (Goes w' left' printed) s =
      let c' : Timed W T = At w' (times w t now left) (suc now) in
      let f : now + 16 ≡ suc now + 15 = omega arith in (
        1,
        c',
        omega arith,
        omega arith,
        reach_one cycles (At w t now) c' left left' printed (rw e (ap (λ x. behind_word step late times (At w t now) left x) s)),
        With w' (times w t now left) (suc now) (subst (λ n. IsBy n (times w t now left)) f (soon w t b now left h (omega arith))),
      )
  done d b w t now left e h le (Stops finish left' printed) s =
      (1, omega arith, halt_one cycles (At w t now) left left' printed finish (rw e (ap (λ x. behind_word step late times (At w t now) left x) s)))

  -- one cycle of waiting first
  waited : (d : ℕ) (w : W) (t : T) (now : ℕ) (left : List ℕ) → late w t now ≡ true → (x : Step W) → Answers cycles (Fits d) Alongside (At w t (suc now)) left x → Answers cycles (Fits (suc d)) Alongside (At w t now) left x
  unfolding Fits
  waited d w t now left e (Goes w' left' printed) a =
      let one = reach_one cycles (At w t now) (At w t (suc now)) left left [] (rw e refl) in
      let k = a.0 in let f = a.3 in
      (1 + a.0, a.1, omega arith, omega arith, reach_trans one a.4, a.5)
  waited d w t now left e (Stops finish left' printed) a =
      let one = reach_one cycles (At w t now) (At w t (suc now)) left left [] (rw e refl) in
      let k = a.0 in let f = a.1 in
      (1 + a.0, omega arith, reach_halt one a.2)

  waits : (d b : ℕ) (w : W) (t : T) (now : ℕ) (left : List ℕ) → IsBy b t → b ≤ now + d → b ≤ now + 15 → Answers cycles (Fits d) Alongside (At w t now) left (step w left)
  waits zero b w t now left h le le' = done zero b w t now left (in_time w t b now h (omega arith)) h le' (step w left) refl
  waits (suc d) b w t now left h le le' = by_one (late w t now) refl (waits d b w t (suc now) left h (omega arith) (omega arith))
    where
      by_one : (x : Bool) → late w t now ≡ x → Answers cycles (Fits d) Alongside (At w t (suc now)) left (step w left) → Answers cycles (Fits (suc d)) Alongside (At w t now) left (step w left)
      by_one true e more = waited d w t now left e (step w left) more
      by_one false e more = done (suc d) b w t now left e h le' (step w left) refl

  together : (w : W) (c : Timed W T) (left : List ℕ) → Alongside w c → Together step cycles (Fits 15) Alongside w c left
  together w c left (With w' t now h) =
      answered step cycles (Fits 15) Alongside w (At w t now) left (step w left) refl (waits 15 (now + 15) w t now left h (omega arith) (omega arith))

  pub timed_agrees : (w : W) (c : Timed W T) → Alongside w c → Agrees (means step w) (means cycles c)
  timed_agrees w c r = simulates step cycles (Fits 15) Alongside together w c r

  pub timed_within : (w : W) (c : Timed W T) → Alongside w c → Within (λ n. 16 * n) (means step w) (means cycles c)
  unfolding Fits
  timed_within w c r = simulates_within step cycles (Fits 15) Alongside together 16 (λ x f. f) w c r

-- ---- registers and slots of all calls: both laws hold

pub record AllBy (b : ℕ) (clock : Clock) : Type 0 where
  pub top : (loc : Loc) → clock.top loc ≤ b
  pub waiting : (i : ℕ) (loc : Loc) → get_or clock.waiting i (λ other. 0) loc ≤ b

not_late : (a b : ℕ) → b ≤ a → nat_lt a b ≡ false
not_late a b h = grind (arith, nat_tests)

locs_in_time : (ready : Times) (b now : ℕ) (locs : List Loc) → ((loc : Loc) → ready loc ≤ b) → b ≤ now → list_any (λ loc. nat_lt now (ready loc)) locs ≡ false
locs_in_time ready b now [] h le = refl
locs_in_time ready b now (loc ∷ locs) h le =
    let g = h loc in rw (not_late now (ready loc) (omega arith)) (locs_in_time ready b now locs h le)

ops_in_time : (ready : Times) (b now : ℕ) (ops : List WideOp) → ((loc : Loc) → ready loc ≤ b) → b ≤ now → any_late ready now ops ≡ false
ops_in_time ready b now [] h le = refl
ops_in_time ready b now (op ∷ ops) h le =
    rw (locs_in_time ready b now (touched op.act) h le) (ops_in_time ready b now ops h le)

put_by : (loc other : Loc) (n b : ℕ) (ready : Times) → n ≤ b → ready other ≤ b → put loc n ready other ≤ b
put_by loc other n b ready h g = by_one (same_loc other loc) refl
  where
    by_one : (d : Bool) → same_loc other loc ≡ d → put loc n ready other ≤ b
    by_one true e = rw e h
    by_one false e = rw e g

put_if_by : (to : Option Loc) (n b : ℕ) (ready : Times) → n ≤ b → ((loc : Loc) → ready loc ≤ b) → (other : Loc) → put_if to n ready other ≤ b
put_if_by None n b ready h g other = g other
put_if_by (Some loc) n b ready h g other = put_by loc other n b ready h (g other)

-- behind a word everything is ready within 16 cycles of its own
module _ (latency : OpClass → ℕ) (few : (class : OpClass) → latency class ≤ 16) where
  ops_soon : (ops : List WideOp) (now : ℕ) (ready : Times) → ((loc : Loc) → ready loc ≤ now + 16) → (other : Loc) → times_after latency now ops ready other ≤ now + 16
  ops_soon [] now ready h other = h other
  ops_soon (op ∷ ops) now ready h other =
      ops_soon ops now (put_if (target op.act) (now + latency (class_of op.act)) ready)
      (put_if_by (target op.act) (now + latency (class_of op.act)) (now + 16) ready (let g = few (class_of op.act) in omega arith) h) other

resumed_by : (top : Times) (more : List Times) (waiting : List Waiting) (soon b : ℕ) → soon ≤ b → AllBy b (record { top = top; waiting = more }) → AllBy b (resumed top more waiting soon)
resumed_by top [] waiting soon b le h = record { top = h.top; waiting = λ i loc. omega arith }
resumed_by top (times ∷ more) [] soon b le h = record { top = h.waiting 0; waiting = λ i. h.waiting (suc i) }
resumed_by top (times ∷ more) (w ∷ waiting) soon b le h =
    record { top = put_if_by w.result soon b times le (h.waiting 0); waiting = λ i. h.waiting (suc i) }

pushed_by : (top : Times) (more : List Times) (b : ℕ) → AllBy b (record { top = top; waiting = more }) → (i : ℕ) (loc : Loc) → get_or (top ∷ more) i (λ other. 0) loc ≤ b
pushed_by top more b h zero loc = h.top loc
pushed_by top more b h (suc i) loc = h.waiting i loc

clock_by : (outcome : Outcome) (top : Times) (more : List Times) (waiting : List Waiting) (soon b : ℕ) → soon ≤ b → AllBy b (record { top = top; waiting = more }) → AllBy b (clock_after outcome top more waiting soon)
clock_by (Through s) top more waiting soon b le h = h
clock_by (Gone (To at) s) top more waiting soon b le h = h
clock_by (Gone (Into func next result args) s) top more waiting soon b le h = record { top = λ loc. omega arith; waiting = pushed_by top more b h }
clock_by (Left z s) top more waiting soon b le h = resumed_by top more waiting soon b le h
clock_by (Stopped number kind s) top more waiting soon b le h = h

in_time : (r : Running) (clock : Clock) (b now : ℕ) → AllBy b clock → b ≤ now → late r clock now ≡ false
in_time r clock b now h le = ops_in_time clock.top b now (first_ops r.call.rest) h.top le

module _ (latency : OpClass → ℕ) (few : (class : OpClass) → latency class ≤ 16) (code : RawCode) where
  module _ (one : Bool) where
    soon : (r : Running) (clock : Clock) (b now : ℕ) (left : List ℕ) → AllBy b clock → b ≤ now + 16 → AllBy (now + 16) (times_by one latency code r clock now left)
    soon r clock b now left h le =
        clock_by (outcome_by one code r (first_ops r.call.rest) left) (ready_by one latency code r clock.top now) clock.waiting r.waiting (suc now) (now + 16) (omega arith)
        (record {
          top = ops_soon latency few (done_by one code r (first_ops r.call.rest)) now clock.top (λ loc. let g = h.top loc in omega arith);
          waiting = λ i loc. let g = h.waiting i loc in omega arith;
        })

    abbrev Beside : Running → Wide → Type 0
    Beside = Alongside (words_by one code) late (times_by one latency code) AllBy in_time soon

    all_ready : Beside (word_start code) (wide_start latency code)
    unfolding wide_start
    all_ready = With (word_start code) (record { top = λ loc. 0; waiting = [] }) 0 (record { top = λ loc. omega arith; waiting = λ i loc. omega arith })

    -- the machine by cycles does what the machine by words does
    pub by_agree : Agrees (means (words_by one code) (word_start code)) (means (cycle_by one latency code) (wide_start latency code))
    by_agree = timed_agrees (words_by one code) late (times_by one latency code) AllBy in_time soon (word_start code) (wide_start latency code) all_ready

    -- with at most 16 cycles for each word
    pub by_within : Within (λ n. 16 * n) (means (words_by one code) (word_start code)) (means (cycle_by one latency code) (wide_start latency code))
    by_within = timed_within (words_by one code) late (times_by one latency code) AllBy in_time soon (word_start code) (wide_start latency code) all_ready

  pub cycles_agree : Agrees (word_meaning code) (wide_meaning latency code)
  unfolding word_meaning word_step wide_meaning wide_step
  cycles_agree = by_agree true

  pub cycles_within : Within (λ n. 16 * n) (word_meaning code) (wide_meaning latency code)
  unfolding word_meaning word_step wide_meaning wide_step
  cycles_within = by_within true
