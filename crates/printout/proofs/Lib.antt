-- The laws of a page, line by line.
pub mod Pages
