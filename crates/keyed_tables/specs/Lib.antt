pub mod Arranged
pub mod Completed
pub mod Gathered
pub mod Laid
pub mod Placed
pub mod Repeated
pub mod RisingRows
pub mod RowsByCell
