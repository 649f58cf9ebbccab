pub mod Digest
pub mod Index
pub mod DigestLaws
pub mod IndexLaws
