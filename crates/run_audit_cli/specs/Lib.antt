pub mod AuditLines
pub mod AuditRead
pub mod AuditRefused
pub mod Verdicts
pub mod AuditEnds
pub mod AuditJudged
pub mod AuditGiven
pub mod AuditCauses
