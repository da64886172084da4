pub mod EventLines
pub mod ToldLines
