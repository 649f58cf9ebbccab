pub mod Rewrite
pub mod Put
pub mod PutLaws
pub mod RewriteLaws
