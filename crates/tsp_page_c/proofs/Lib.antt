pub mod ToldBy
