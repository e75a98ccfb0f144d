use Rattle.std.proofs.Common.{◌≡◌, ◌<◌, ℕ, List, length, get_or, sym, ap, subst, arith, ◌∙◌}
use Rattle.std.specs.List.{All}
use Rattle.tac_core.specs.declared.edges.Edge.{Edge}
use Rattle.tac_core.specs.Counts.{IsCount}
use Rattle.tac_core.specs.Weights.{entries_at, count_to}
use Rattle.tac_core.proofs.Sums.{has_room, by_label_more, to_of_edge, to_at}
use Rattle.tac_core.proofs.weights.in_weights.Goals as goal

pub add-requires : goal.add-requires
add-requires c =
    let d : Edge = record { from = 0; to = 0; count = 0 } in
    let edges : List Edge = c.as_slice-edges.result.now in
    let long : length edges ≡ length c.args.counts.now.edges = ap length c.as_slice-edges.ensures in
    let lt : c.loop-i.i < length edges = omega (arith, long, c.loop-i-test.true, c.len-i-end.ensures) in
    let short : length edges < 18446744073709551616 = omega (arith, long, c.len-i-end.ensures, c.len-i-end.type_inv) in
    let all : All (λ e. (0 < e.count) × IsCount e.count) edges = subst (All (λ e. (0 < e.count) × IsCount e.count)) (sym c.as_slice-edges.ensures) c.requires.taken in
    has_room c.args.counts.now.entries count_to c.args.blocks c.loop-i.i edges d _ c.loop-i.list to_of_edge c.requires.entered short all lt c.loop-i.invariant

pub loop-i-preserved : goal.loop-i-preserved
loop-i-preserved c =
    let d : Edge = record { from = 0; to = 0; count = 0 } in
    let edges : List Edge = c.as_slice-edges.result.now in
    let long : length edges ≡ length c.args.counts.now.edges = ap length c.as_slice-edges.ensures in
    let lt : c.loop-i.i < length edges = omega (arith, long, c.loop-i-test.true, c.len-i-end.ensures) in
    by_label_more (entries_at c.args.counts.now.entries) count_to c.args.blocks c.loop-i.i edges d _ c.loop-i.list c.add.new.list lt (to_at (get_or edges c.loop-i.i d)) c.add.ensures c.loop-i.invariant
