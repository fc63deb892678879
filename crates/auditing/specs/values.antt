pub mod AuditCases
pub mod BundleCases
