pub mod Counting
pub mod StrictOrder
pub mod RankNumbers
pub mod RankList
