mod TurnLemmas
mod SeenLemmas
mod ScanLemmas
mod VerdictLemmas
mod FoundLemmas
mod CourseCauses
mod CauseLemmas
