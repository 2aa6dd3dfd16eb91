pub mod Sizes
pub mod OneToOne
pub mod Grows
pub mod Fronts
pub mod ReadBack
pub mod WrittenAgain
