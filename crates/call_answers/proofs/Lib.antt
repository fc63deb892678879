pub mod RowsThere
pub mod RuleUses
pub mod SelectJudged
