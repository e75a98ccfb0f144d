-- What the grammar says of a list of tokens.
use Rattle.std.specs.Prelude.{◌≡◌, ℕ, ◌+◌, ◌<◌, ◌≤◌, List, length, take}
use Rattle.c_ast.specs.declared.token.Token.{Token}
use Rattle.c_ast.specs.Trees.{Top}
use Rattle.c_ast.specs.Grammar.{IsUnit, BeginsUnit}

-- the tokens have at most one tree
abbrev pub HaveOneTree : List Token → Type 0
HaveOneTree tokens = (one other : List Top) → IsUnit tokens one → IsUnit tokens other → one ≡ other

-- The tokens are no unit. The first n of them begin one, and they are all, or one more begins none.
pub record IsWrongAt (tokens : List Token) (n : ℕ) : Type 0 where
  pub no_unit : (unit : List Top) → IsUnit tokens unit → ⊥
  pub within : n ≤ length tokens
  pub before : BeginsUnit (take n tokens)
  pub after : n < length tokens → BeginsUnit (take (n + 1) tokens) → ⊥
