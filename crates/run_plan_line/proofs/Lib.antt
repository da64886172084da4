pub mod FieldLemmas
pub mod FlatLemmas
pub mod SettingLemmas
mod StressLemmas
pub mod UnitLemmas
pub mod PlanLemmas
