-- Effects that stay within what their function has.
use Rattle.std.specs.Prelude.{ℕ, Bool, true, ◌&&◌, nat_lt, length, slice_get}
use Rattle.std.specs.List.{list_all}
use Rattle.wide_core.specs.Cycle.{target_if}
use Rattle.wide_core.specs.Operation.{Effect, Write, Take, Go, To, Into}
use Rattle.wide_core.specs.Valid.{Scope, is_within, takes}

-- the effect stays within these registers, slots, words and functions, and calls only where there is room
abbrev pub effect_fits : Scope → (room : ℕ → Bool) → Effect → Bool
effect_fits scope room (Write to value) = is_within scope.regs scope.slots to
effect_fits scope room (Take to) = nat_lt to scope.regs
effect_fits scope room (Go (To at)) = nat_lt at scope.words
effect_fits scope room (Go (Into func next result args)) =
    (nat_lt next scope.words && list_all (is_within scope.regs scope.slots) (target_if result)) && (takes (slice_get scope.funcs func) (length args) && room func)
effect_fits scope room e = true
