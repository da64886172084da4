mod ListLemmas
mod PlanLemmas
