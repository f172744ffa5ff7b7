pub mod Listed
pub mod Books
pub mod Written
pub mod Closing
