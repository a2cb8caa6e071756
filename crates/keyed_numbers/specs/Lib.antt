pub mod Digits
pub mod Cells
pub mod Numbers
pub mod Decimals
pub mod AlignedDigits
