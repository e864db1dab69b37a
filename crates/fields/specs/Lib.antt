pub mod Class
pub mod Number
pub mod Bic
pub mod Lists
pub mod Laws
pub mod Shape
