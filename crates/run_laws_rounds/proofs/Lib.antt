pub mod rounds
