pub mod Outstanding
pub mod Ledgers
pub mod Runs
pub mod Taken
pub mod Made
pub mod Shards
pub mod Found
pub mod ShardLines
