pub mod Addresses
pub mod Rings
pub mod Network
pub mod Agreement
pub mod WorkedRows
