pub mod closing_rows
pub mod late_rows
pub mod carried_values
pub mod source_order
