pub mod Row
pub mod Open
pub mod Sample
pub mod Frame
pub mod List
pub mod Read
pub mod Up
pub mod Way
