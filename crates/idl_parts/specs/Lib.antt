pub mod ConstructionParts
pub mod ExpressionParts
pub mod Item
pub mod Part
pub mod TypeParts
pub mod UnitParts
