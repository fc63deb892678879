pub mod RuleSound
pub mod Orders
pub mod RuleNumbers
pub mod Rules
pub mod AxisRules
pub mod RuleTen
pub mod WayBackSound
pub mod Sound
