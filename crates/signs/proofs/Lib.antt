pub mod TwosComplement
pub mod Bits
