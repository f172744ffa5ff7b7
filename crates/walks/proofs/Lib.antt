pub mod Walk
pub mod Element
pub mod Setter
pub mod Loader
pub mod Storer
