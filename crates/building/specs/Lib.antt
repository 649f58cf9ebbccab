pub mod FileBuild
pub mod FileBuildLaws
