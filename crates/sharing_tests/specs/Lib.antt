pub mod Borrowers
pub mod Racers
pub mod Writers
