-- The laws of text put into a buffer, of numbers in decimal and of lines of numbers; and lines of document 01, as the definitions have them.
pub mod Placing
pub mod Decimals
pub mod Rows
pub mod Cases
