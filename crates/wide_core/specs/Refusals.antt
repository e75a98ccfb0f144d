-- When code is refused.
use Rattle.std.specs.Prelude.{◌≡◌, List, Some, slice_get}
use Rattle.wide_core.specs.declared.rule.BrokenRule.{BrokenRule}
use Rattle.wide_core.specs.declared.wide_code.ValidErr.{ValidErr}
use Rattle.wide_core.specs.declared.wide_code.ValidErr.TheVariants.{Broken, NoMemory}

-- it is refused for the first of the broken rules, or for want of memory
abbrev pub Refuses : List BrokenRule → ValidErr → Type 0
Refuses rules (Broken line rule) = slice_get rules 0 ≡ Some (record { line = line; rule = rule })
Refuses rules NoMemory = Unit {0}
