-- Times that the operations of a word set and wait for.
use Rattle.std.proofs.Common.{◌≡◌, ℕ, ◌+◌, ◌<◌, ◌≤◌, Bool, true, false, ◌||◌, nat_lt, List, [], ◌∷◌, ◌++◌, length, get_or, drop, replicate, refl, sym, ap, ◌∙◌, subst, arith}
use Rattle.std.proofs.lemmas.Bool.Decides.{nat_tests}
use Rattle.std.specs.Prelude.{if◌then◌else◌}
use Rattle.std.specs.List.{list_any}
use Rattle.std.proofs.lemmas.List.{at_drop_more, at_drop_all}
use Rattle.machine_desc.specs.declared.machine.OpClass.{OpClass}
use Rattle.wide_core.specs.declared.code.WideOp.{WideOp}
use Rattle.wide_core.specs.Classes.{class_of}
use Rattle.wide_core.specs.Cycle.{Times, any_late, times_after, touched}
use Rattle.wide_core.specs.Operation.{target}
use Rattle.wide_core.specs.Places.{put_if, same_loc}
use Rattle.wide_core.specs.declared.code.Loc.{Loc}
use Rattle.wide_sim.specs.declared.store.Store.{Store}
use Rattle.wide_sim.specs.Ready.{AreBy}
use Rattle.wide_sim.specs.Store.{held, holds, with_held}
use Rattle.wide_sim.proofs.Places.{filled_held, held_put}

or_assoc : (a b c : Bool) → (a || (b || c)) ≡ ((a || b) || c)
or_assoc true b c = refl
or_assoc false b c = refl

pub late_parts : {T : Type 0} (test : T → Bool) (xs ys : List T) → list_any test (xs ++ ys) ≡ (list_any test xs || list_any test ys)
late_parts test [] ys = refl
late_parts test (x ∷ xs) ys = ap (λ b. test x || b) (late_parts test xs ys) ∙ or_assoc (test x) (list_any test xs) (list_any test ys)

pub times_step : (latency : OpClass → ℕ) (now : ℕ) (ops : List WideOp) (i : ℕ) (op : WideOp) (ready after : Times) → i < length ops → op ≡ get_or ops i op → after ≡ put_if (target op.act) (now + latency (class_of op.act)) ready → times_after latency now (drop (i + 1) ops) after ≡ times_after latency now (drop i ops) ready
times_step latency now ops i op ready after lt item is =
    ap (λ t. times_after latency now (drop (i + 1) ops) t) is
    ∙ ap (λ (o : WideOp). times_after latency now (o ∷ drop (i + 1) ops) ready) item
    ∙ sym (at_drop_more (λ rest. times_after latency now rest ready) ops i op lt)

pub times_end : (latency : OpClass → ℕ) (now : ℕ) (ops : List WideOp) (i : ℕ) (ready : Times) → length ops ≤ i → ready ≡ times_after latency now (drop i ops) ready
times_end latency now ops i ready le = sym (at_drop_all (λ rest. times_after latency now rest ready) ops i le)

-- ---- a time by which all are ready

not_after : (a b : ℕ) → a ≤ b → nat_lt b a ≡ false
not_after a b h = grind (arith, nat_tests)

ready_by : (times : Times) (now : ℕ) (locs : List Loc) → AreBy times now → list_any (λ loc. nat_lt now (times loc)) locs ≡ false
ready_by times now [] by = refl
ready_by times now (loc ∷ locs) by =
    ap (λ b. b || list_any (λ l. nat_lt now (times l)) locs) (not_after (times loc) now (by.by loc)) ∙ ready_by times now locs by

pub none_late : (times : Times) (now : ℕ) (ops : List WideOp) → AreBy times now → any_late times now ops ≡ false
none_late times now [] by = refl
none_late times now (op ∷ ops) by =
    ap (λ b. b || any_late times now ops) (ready_by times now (touched op.act) by) ∙ none_late times now ops by

pub first_are_by : (regs slots : ℕ) (store : Store ℕ) (last : ℕ) → store.regs ≡ replicate regs 0 → store.slots ≡ replicate slots 0 → AreBy (held 0 store) last
first_are_by regs slots store last r s = record {
  by = λ loc.
      let here : held 0 store loc ≡ 0 = ap (λ (t : Times). t loc) (filled_held 0 regs slots store r s) in
      omega (arith, here);
}

put_by : (b : Bool) (time at_first last later : ℕ) → at_first ≤ last → last ≤ later → time ≤ later → (if b then time else at_first) ≤ later
put_by true time at_first last later h l t = t
put_by false time at_first last later h l t = omega arith

pub set_are_by : (store : Store ℕ) (loc : Loc) (time last later : ℕ) → holds store loc ≡ true → AreBy (held 0 store) last → last ≤ later → time ≤ later → AreBy (held 0 (with_held store loc time)) later
set_are_by store loc time last later h by l t =
    subst (λ (times : Times). AreBy times later) (sym (held_put 0 store loc time h))
    (record { by = λ other. put_by (same_loc other loc) time (held 0 store other) last later (by.by other) l t })
