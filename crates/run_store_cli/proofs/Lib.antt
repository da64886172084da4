mod RecordLemmas
mod RecordCauses
mod TornLemmas
mod PlayLemmas
mod PlayCauses
mod TornCauses
mod PlayedCauses
mod RecordedLemmas
