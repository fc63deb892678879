pub mod EvaluationCases
