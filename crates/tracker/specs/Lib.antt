pub mod Build
pub mod BuildLaws
pub mod RewrittenBuild
