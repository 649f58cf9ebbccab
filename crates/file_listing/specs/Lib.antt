pub mod FileList
pub mod FileListLaws
