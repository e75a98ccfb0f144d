mod Small
mod WorkedExpressions
mod WorkedFiles
mod WorkedHomes
mod WorkedLayout
mod WorkedStatements
