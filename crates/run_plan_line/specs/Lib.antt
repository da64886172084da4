pub mod PlanFields
pub mod SaidPlan
