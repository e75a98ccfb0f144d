pub mod Tree
pub mod Views
pub mod Values
pub mod Program
pub mod ValueTypes
pub mod ExprTypes
pub mod Rules
pub mod Choices
