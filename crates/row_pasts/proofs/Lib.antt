pub mod LabelLogs
pub mod LogLemmas
pub mod Pasts
pub mod LogSteps
pub mod LifeSteps
pub mod RowSteps
