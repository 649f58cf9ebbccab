pub mod EndlessWord
pub mod PremiseLaws
