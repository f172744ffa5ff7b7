pub mod Figures
pub mod Listing
pub mod Lists
pub mod Settling
