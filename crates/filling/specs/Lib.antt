pub mod TrackerTables
pub mod TrackerTablesLaws
pub mod Fill
