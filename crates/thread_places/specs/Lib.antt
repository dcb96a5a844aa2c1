pub mod BoardWays
pub mod BoardLaws
pub mod ListedTold
pub mod BoardLists
