mod Judgements
mod Types
mod Operators
mod Scopes
mod Room
mod Expressions
mod Homes
mod Statements
mod Names
mod Functions
mod Programs
mod Numbers
mod ExpressionWeights
mod StatementWeights
pub mod Kept
