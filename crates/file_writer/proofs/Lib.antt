pub mod FileRoundTrip
