pub mod TypeChecks
pub mod TypeLists
pub mod LiteralChecks
pub mod CountChecks
pub mod LimitChecks
pub mod OperandChecks
pub mod OwnChecks
pub mod OwnViews
