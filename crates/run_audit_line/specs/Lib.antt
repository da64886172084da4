pub mod EventLine
