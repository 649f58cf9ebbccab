pub mod Queue
pub mod RoomLaws
pub mod PushLaws
pub mod RowLaws
