pub mod UniqueLaws
pub mod FollowLaws
pub mod SoundLaws
pub mod SameVerdict
