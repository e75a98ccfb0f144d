use Rattle.std.proofs.Common.{◌≡◌, ◌<◌, ◌*◌, ◌+◌, ◌∙◌, [], length, arith, sym, subst, ap, rules, ◌⊎◌, min, true, false}
use Rattle.std.specs.List.{All}
use Rattle.ib_bits.specs.Bits.{IsEmpty}
use Rattle.tac_live.specs.Rounds.{AreSound, WaitsOrClosed, AllReadBelow, total_room}
use Rattle.tac_live.proofs.Closed.{first_sound, first_waits, live_exactly, read_below, falls}
use Rattle.tac_live.proofs.Steps.{whole}
use Rattle.tac_live.proofs.rounds.live_rows.Goals as goal

pub settling-init : goal.settling-init
settling-init c =
    let f = c.args.func.now in
    let rows = c.in_ok-rows.rows.items in
    let n = c.in_ok-live.ensures.0 in (
      first_sound f (length c.in_ok-live.live) rows (c.in_ok-rows.ensures.0 ∙ c.len.ensures) (subst (λ w. All (λ row. (length row ≡ w) × IsEmpty row) rows) (sym n) c.in_ok-rows.ensures.1),
      first_waits f rows c.in_ok-waiting.waiting (λ l lt. c.in_ok-waiting.ensures l (omega (arith, lt, c.len-2.ensures))),
      read_below f.regs (64 * length c.in_ok-live.live) f.blocks (omega (arith, n)) c.requires,
      c.in_ok-preds.ensures,
    )

pub settling-preserved : goal.settling-preserved
settling-preserved c =
    let f = c.args.func.now in
    let r = c.in_ok-waiting-2.ensures.round in
    let s = c.settling.invariant in
    let new = c.round.new.rows in
    let size : length c.round.new.live ≡ length c.settling.live = c.round.ensures.size in
    let len : c.settling.rows.len ≡ length new = omega (arith, c.as_mut_slice.ensures.len, ap length c.as_mut_slice.ensures.value, r.sound.size, s.0.size) in
    let e = whole c.settling.rows.len new c.settling.rows.items len in (
      subst (λ rows. AreSound f (length c.round.new.live) rows) (sym e) (subst (λ n. AreSound f n new) (sym size) r.sound),
      λ k. subst (λ rows. WaitsOrClosed f rows c.in_ok-waiting-2.waiting k) (sym e) (r.waits k),
      subst (λ n. AllReadBelow (64 * n) f.blocks) (sym size) s.2,
      s.3,
    )

pub settling-smaller : goal.settling-smaller
settling-smaller c =
    let r = c.in_ok-waiting-2.ensures.round in
    let s = c.settling.invariant in
    let new = c.round.new.rows in
    let rows = c.settling.rows.items in
    let waiting = c.settling.waiting in
    let next = c.in_ok-waiting-2.waiting in
    let len : c.settling.rows.len ≡ length new = omega (arith, c.as_mut_slice.ensures.len, ap length c.as_mut_slice.ensures.value, r.sound.size, s.0.size) in
    let e = whole c.settling.rows.len new rows len in
    let some : waiting ≡ [] → ⊥ = λ none. let t : false ≡ true = c.settling-test.ensures.1 none in absurd (cc) in
    subst (λ rs. 2 * total_room rs + min 1 (length next) < 2 * total_room rows + min 1 (length waiting)) (sym e)
    (falls rows new waiting next (subst (λ rs. ((next ≡ []) × (total_room new ≡ total_room rs)) ⊎ (total_room new < total_room rs)) c.as_mut_slice.ensures.value r.less) some)

pub returns : goal.returns
returns c =
    let s = c.settling.invariant in
    let none : c.settling.waiting ≡ [] = search rules in
    let e : c.from_vec.result ≡ c.settling.rows.items = c.from_vec.ensures in
    λ l r.
    let exact = live_exactly c.args.func.now (length c.settling.live) c.settling.rows.items c.settling.waiting s.0 s.1 none l r in
    rw e exact
