pub mod Rules
pub mod Parts
pub mod Scopes
pub mod Operators
pub mod Judging
pub mod Views
pub mod ScopeViews
