pub mod Writing
pub mod Write
pub mod NumbersLaws
pub mod FileLaws
pub mod TrimmedLaws
pub mod RoundTrip
pub mod WriteLaws
