pub mod OrderText
pub mod Relations
pub mod Given
pub mod Ends
pub mod Last
pub mod Hears
pub mod Answers
