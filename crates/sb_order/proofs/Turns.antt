-- What allocation needs of the words of a schedule.
use Rattle.std.proofs.Common.{◌≡◌, ℕ, ◌≤◌, Bool, true, ◌&&◌, List, ◌++◌, length, map, refl, sym, ap, ◌∙◌, subst}
use Rattle.machine_desc.specs.declared.machine.OpClass.{OpClass}
use Rattle.machine_desc.specs.Machine.{IsTable}
use Rattle.wide_core.specs.declared.code.WideOp.{WideOp}
use Rattle.wide_core.specs.Classes.{is_register}
use Rattle.wide_core.specs.Operation.{sources, Effect}
use Rattle.wide_core.specs.Word.{Flow, apply}
use Rattle.wide_core.specs.Flat.{around, one_effect}
use Rattle.wide_core.specs.Every.{Every, Nil, Cons}
use Rattle.wide_core.specs.Accesses.{Known, learn, at_head}
use Rattle.sb_order.specs.Edges.{Item, items}
use Rattle.sb_order.specs.Schedule.{Spot, with_struck, sorted, cut, words_of, scheduled, is_legal}
use Rattle.sb_order.specs.Order.{IsSuperblock}
use Rattle.sb_order.specs.Turns.{NextTo, Sits, SitsNone, SitsOp, SitsAll, SitsNoWord, SitsWord, through, Turns, TurnsNone, TurnsOp, TurnsAll, TurnsNoWord, TurnsWord}
use Rattle.sb_order.proofs.Closed.{both, all_closed}
use Rattle.sb_order.proofs.Sorted.{sorted_items, sorted_ops, keeps_legal}
use Rattle.wide_laws.proofs.Suits.{Suits}
use Rattle.sb_order.proofs.Holds.{Holds, learned, suits}
use Rattle.sb_order.proofs.Neighbours.{Both, stays, Stored, stored_on, not_true}
use Rattle.sb_order.proofs.Reorder.{Truthful, truthful_items, reorder}
use Rattle.sb_order.proofs.Speculation.{operations, ops_items, edges}
use Rattle.sb_order.proofs.Words.{Beside, IsWord, EmptyWord, LongerWord, AllWords, NoWords, MoreWords, ops_of, all_of, words_ops, truth_is, truth_rest, Claims, claims_word, claims_past, learn_all, truth_all}
use Rattle.sb_order.proofs.Invisible.{cut_items, words_items, cut_ops, words_items_ops, all_words, truth_cut, words_by}

module _ (heads : ℕ → ℕ → Bool) (base : ℕ) (low : base ≤ 1048576) (room : ℕ → Bool) (one : Bool) where
  next_to : {a b : Item} → Beside heads one a b → NextTo heads one a.op b.op
  next_to {a} {b} g = record {
    misses = g.misses;
    flagged = λ o c. (both b.op.flagged (is_register b.op.act) (not_true heads base low room (b.op.flagged && is_register b.op.act) (g.control o c))).0;
    register = λ o c. (both b.op.flagged (is_register b.op.act) (not_true heads base low room (b.op.flagged && is_register b.op.act) (g.control o c))).1;
    spared = g.spared;
  }

  every_next : {a : Item} {bs : List Item} → Every (Beside heads one a) bs → Every (NextTo heads one a.op) (ops_of bs)
  every_next Nil = Nil
  every_next (Cons b bs g gs) = Cons b.op (ops_of bs) (next_to g) (every_next gs)

  sits : {w : List Item} → IsWord heads one w → Sits heads one (ops_of w)
  sits EmptyWord = SitsNone
  sits (LongerWord a bs g gs) = SitsOp a.op (ops_of bs) (every_next g) (sits gs)

  pub sits_all : {ws : List (List Item)} → AllWords heads one ws → SitsAll heads one (words_ops ws)
  sits_all NoWords = SitsNoWord
  sits_all (MoreWords w ws g gs) = SitsWord (ops_of w) (words_ops ws) (sits g) (sits_all gs)

  unfelt : {k : Known} {a : Item} {bs : List Item} (s : Flow) (e : Effect) → Suits heads a.op.act e → Stored a.op.act (map s.places (sources a.op.act)) e → Holds base k s → Claims heads base low room one k a → Every (Beside heads one a) bs → Every (Claims heads base low room one k) bs → Every (λ (b : WideOp). one_effect base room b s ≡ one_effect base room b (apply e s)) (ops_of bs)
  unfelt s e u st h c Nil Nil = Nil
  unfelt {k} {a} s e u st h c (Cons b bs g gs) (Cons _ _ d ds) =
      let bo : Both heads base low room k a b = record { first = c.operation; second = d.operation; first_base = c.base_is; second_base = d.base_is } in
      Cons b.op (ops_of bs) (sym (stays heads base low room a b s k bo h g.misses g.store_load e u st)) (unfelt s e u st h c gs ds)

  -- also how what is known comes through a word
  record Turned (w : List Item) (k : Known) (s : Flow) : Type 0 where
    turns : Turns base room (ops_of w) s
    holds : Holds base (learn_all heads base low room one w k) (through base room (ops_of w) s)

  turned : {w : List Item} (rest : List Item) (k : Known) (s : Flow) → IsWord heads one w → Truthful k (w ++ rest) → Holds base k s → Turned w k s
  turned rest k s EmptyWord t h = record { turns = TurnsNone s; holds = h }
  turned rest k s (LongerWord a bs g gs) t h =
      let c = truth_is t in
      let e = one_effect base room a.op s in
      let cs = claims_past heads base low room one g (claims_word heads base low room one rest gs (learn a.op k) (truth_rest t)) in
      let more = turned rest (learn a.op k) (apply e s) gs (truth_rest t) (learned heads base room a.op s k c.0 h) in
      record {
        turns = TurnsOp a.op (ops_of bs) s (unfelt s e (suits heads base room a.op s c.0) (stored_on (map s.places (sources a.op.act)) a.op (around base room s)) h (record { operation = c.0; base_is = c.1 }) g cs) more.turns;
        holds = more.holds;
      }

  pub turns_all : {ws : List (List Item)} (k : Known) (s : Flow) → AllWords heads one ws → Truthful k (all_of ws) → Holds base k s → TurnsAll base room (words_ops ws) s
  turns_all k s NoWords t h = TurnsNoWord s
  turns_all k s (MoreWords w ws g gs) t h =
      let m = turned (all_of ws) k s g t h in
      TurnsWord (ops_of w) (words_ops ws) s m.turns (turns_all (learn_all heads base low room one w k) (through base room (ops_of w) s) gs (truth_all heads base low room one w (all_of ws) k t) m.holds)

module _ (heads : ℕ → ℕ → Bool) (one : Bool) (width regs : ℕ) (units latency : OpClass → ℕ) (table : IsTable width regs units latency) (base : ℕ) (low : base ≤ 1048576) (room : ℕ → Bool) (head : ℕ) (ops : List WideOp) (struck : ℕ → Bool) (spot : ℕ → Spot) (sb : IsSuperblock heads head ops) (legal : is_legal heads one width units latency ops struck spot ≡ true) where
  words_are : words_ops (words_items spot (cut_items spot (sorted_items heads one width units latency table.takes_time spot (items at_head (with_struck struck ops))))) ≡ scheduled ops struck spot
  words_are =
      let js = sorted_items heads one width units latency table.takes_time spot (items at_head (with_struck struck ops)) in
      words_items_ops spot (cut_items spot js)
      ∙ ap (words_of spot) (cut_ops spot js ∙ ap (cut spot) (sorted_ops heads one width units latency table.takes_time spot (items at_head (with_struck struck ops)) ∙ ap (sorted spot) (ops_items at_head (with_struck struck ops))))

  legal_words : AllWords heads one (words_items spot (cut_items spot (sorted_items heads one width units latency table.takes_time spot (items at_head (with_struck struck ops)))))
  legal_words =
      words_by heads one width units latency table.takes_time spot (all_closed heads one width units latency table.takes_time spot (items at_head (with_struck struck ops)) (edges heads one width regs units latency table base low room head ops struck spot sb legal))

  -- the words of a legal schedule
  pub scheduled_sits : SitsAll heads one (scheduled ops struck spot)
  scheduled_sits = subst (λ l. SitsAll heads one l) words_are (sits_all heads base low room one legal_words)

  pub scheduled_turns : (s : Flow) → 1048576 ≤ length s.memory → TurnsAll base room (scheduled ops struck spot) s
  scheduled_turns s whole =
      let is = items at_head (with_struck struck ops) in
      let js = sorted_items heads one width units latency table.takes_time spot is in
      let a = reorder heads base low room (keeps_legal heads one width units latency table.takes_time spot is (edges heads one width regs units latency table base low room head ops struck spot sb legal)) at_head (truthful_items at_head (operations struck sb.sources sb.rises)) in
      let holds : Holds base at_head s = record { whole = whole; says = λ r. record { same = refl; none = refl } } in
      let truth : Truthful at_head (all_of (words_items spot (cut_items spot js))) = subst (λ l. Truthful at_head l) (sym (all_words spot (cut_items spot js))) (truth_cut spot js at_head a.truth) in
      subst (λ l. TurnsAll base room l s) words_are (turns_all heads base low room one at_head s legal_words truth holds)
