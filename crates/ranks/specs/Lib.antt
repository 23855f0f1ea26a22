pub mod Numbers
pub mod RankOrder
