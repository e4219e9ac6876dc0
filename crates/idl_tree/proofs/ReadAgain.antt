-- What is spelled is read again.
pub mod Again
pub mod AgainParts
pub mod ConstructionAgain
pub mod ExpressionAgain
pub mod InterfaceAgain
pub mod MemberAgain
pub mod TypeAgain
pub mod UnitAgain
