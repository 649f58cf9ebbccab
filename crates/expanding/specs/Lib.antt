pub mod Tables
pub mod Expand
pub mod TablesLaws
pub mod FormedLaws
pub mod ExpandLaws
