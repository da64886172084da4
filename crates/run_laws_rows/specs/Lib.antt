pub mod Results
pub mod Statistics
pub mod Delays
pub mod Numbers
pub mod Terms
