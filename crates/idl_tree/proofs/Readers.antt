-- What holds of each reader.
pub mod ConstructionLaws
pub mod ExpressionLaws
pub mod InterfaceLaws
pub mod NameLaws
pub mod NestedConstructionLaws
pub mod NestedTypeLaws
pub mod OperationLaws
pub mod Switch
pub mod TokenLaws
pub mod TypeLaws
pub mod UnitLaws
