pub mod StepLaws
pub mod PathLaws
pub mod ExpressionLaws
pub mod OperandLaws
pub mod Left
pub mod TextLaws
