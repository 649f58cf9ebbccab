pub mod Report
pub mod ReportLaws
pub mod Output
pub mod OutputLaws
