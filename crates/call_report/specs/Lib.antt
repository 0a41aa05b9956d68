pub mod RecordList
pub mod Report
