-- The definitions that the contracts of the comparison cite.
pub mod Compared
pub mod stored_cells
pub mod stored_records
